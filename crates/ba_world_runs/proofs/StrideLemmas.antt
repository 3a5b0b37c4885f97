-- Strides of the two states of a link are at most two moves of the link; for the law that each link moves by its table.
use Rattle.std.proofs.Common.{◌≡◌, inl, inr, Bool, true, false, List, [], ◌++◌, Option, None, Some, IfSome, Contains, refl, sym, ap, ◌∙◌}
use Rattle.std.proofs.Common.{subst, append-nil, if◌then◌else◌}
use Rattle.std.specs.Option.{option_to_list}
use Rattle.ba_link.specs.Link.{Link, LinkState, LinkStep, Message, Move, heard_by, moved_link}
use Rattle.ba_world_runs.specs.Links.{StepsByTwo}
use Rattle.ba_world_runs.proofs.Strides.{SaysAtMost, Strides, moves, speaks_first, speaks_last, stays}

-- what joins a list of what was sent
abbrev pub joining : Bool → Option Message → List Message
joining joined says = if joined then option_to_list says else []

abbrev pub link_of : LinkState → List Message → Link
link_of a sent = record { state = a; sent = sent }

pub none_joins : (joined : Bool) (says : Option Message) → says ≡ None → joining joined says ≡ []
none_joins true says none = ap option_to_list none
none_joins false says none = refl

-- a move whose message joins the list, or is lost
step_by : (a c : LinkState) (sent list : List Message) (joined : Bool) (x : Option Message) (m : Move) → IfSome (heard_by m) (Contains sent)
    → moved_link a m ≡ Some (c, x) → list ≡ sent ++ joining joined x → LinkStep (link_of a sent) (link_of c list)
step_by a c sent list joined x m heard moved same =
    record { move = m; joined = joined; message = x; heard = heard; moves = moved; sent = same }

one_step : (a c : LinkState) (sent : List Message) (joined : Bool) (says x : Option Message) (m : Move)
    → IfSome (heard_by m) (Contains sent) → moved_link a m ≡ Some (c, x) → SaysAtMost says x
    → LinkStep (link_of a sent) (link_of c (sent ++ joining joined says))
one_step a c sent joined says x m heard moved (inl none) =
    step_by a c sent (sent ++ joining joined says) false x m heard moved (ap (λ list. sent ++ list) (none_joins joined says none))
one_step a c sent joined says x m heard moved (inr same) =
    step_by a c sent (sent ++ joining joined says) joined x m heard moved (ap (λ o. sent ++ joining joined o) same)

silent_step : (a c : LinkState) (sent : List Message) (m : Move) → IfSome (heard_by m) (Contains sent) → moved_link a m ≡ Some (c, None)
    → LinkStep (link_of a sent) (link_of c sent)
silent_step a c sent m heard moved = step_by a c sent sent false None m heard moved (sym (append-nil sent))

hears_nothing : (m : Move) (sent : List Message) → heard_by m ≡ None → IfSome (heard_by m) (Contains sent)
hears_nothing m sent none = subst (λ (o : Option Message). IfSome o (Contains sent)) (sym none) tt

was_sent : (hears : Message → Type 0) (sent : List Message) (o : Option Message) → ((x : Message) → hears x → Contains sent x)
    → IfSome o hears → IfSome o (Contains sent)
was_sent hears sent None all heard = tt
was_sent hears sent (Some x) all heard = all x heard

pub strides_step : (hears : Message → Type 0) (says : Option Message) (a c : LinkState) (sent : List Message) (joined : Bool)
    → ((x : Message) → hears x → Contains sent x) → Strides hears says a c
    → StepsByTwo (link_of a sent) (link_of c (sent ++ joining joined says))
strides_step hears says a c sent joined all (stays same none) =
    let list : sent ++ joining joined says ≡ sent = ap (λ x. sent ++ x) (none_joins joined says none) ∙ append-nil sent in
    (link_of a sent, inl refl, inl (λ i. link_of (sym same i) (sym list i)))
strides_step hears says a c sent joined all (moves m x heard moved least) =
    (link_of a sent, inl refl, inr (one_step a c sent joined says x m (was_sent hears sent (heard_by m) all heard) moved least))
strides_step hears says a c sent joined all (speaks_first m1 m2 b x heard nothing first second least) =
    let more : List Message = sent ++ joining joined says in (
      link_of b more,
      inr (one_step a b sent joined says x m1 (was_sent hears sent (heard_by m1) all heard) first least),
      inr (silent_step b c more m2 (hears_nothing m2 more nothing) second),
    )
strides_step hears says a c sent joined all (speaks_last m1 m2 b x heard nothing first second least) = (
  link_of b sent,
  inr (silent_step a b sent m1 (was_sent hears sent (heard_by m1) all heard) first),
  inr (one_step b c sent joined says x m2 (hears_nothing m2 sent nothing) second least),
)
