-- On which link a notice was sent, by its address and its number; for the law that what is sound is safe.
use Rattle.std.proofs.Common.{◌≡◌, inl, inr, ℕ, true, false, List, [], ◌∷◌, Option, None, Some, IfSome, Contains, nat_eq, arith, refl, sym}
use Rattle.std.proofs.Common.{ap, ◌∙◌, subst, if◌then◌else◌}
use Rattle.std.specs.List.{cons_option, filter_map}
use Rattle.std.proofs.lemmas.Bool.{eq-eqb, ne_eqb}
use Rattle.std.proofs.lemmas.List.Elements.{Contains-append_right}
use Rattle.ba_core.specs.Messages.{notice_code}
use Rattle.ba_core.specs.declared.notices.Notice.{Notice}
use Rattle.ba_link.specs.Link.{to_end, to_part}
use Rattle.ba_message.specs.Endpoints.{same_epr}
use Rattle.ba_message.specs.declared.endpoints.Epr.{Epr}
use Rattle.ba_message.specs.declared.messages.Letter.{Letter}
use Rattle.ba_message.specs.declared.messages.Message.TheVariants as message
use Rattle.ba_message.proofs.FitTests.{endpoint_itself}
use Rattle.ba_scope.specs.Scope.{ScopeState}
use Rattle.ba_scope_ends.specs.declared.ends.End.{End}
use Rattle.ba_scope_ends.specs.declared.parts.Part.{Part}
use Rattle.ba_node_steps.specs.Addresses.{sender_of}
use Rattle.ba_node_steps.specs.Node.{Among}
use Rattle.ba_node_steps.proofs.Hyphens.{sides_apart}
use Rattle.ba_node_steps.proofs.Objects.{no_end_is_a_part}
use Rattle.ba_world_runs.specs.Links.{HasEnd, IsLink, on_link, said_down, said_up}
use Rattle.ba_world_runs.specs.Safety.{IsAddressed, MailFits, of_end, of_part, of_register}
use Rattle.ba_world_runs.specs.World.{Net, PartAt, coordinator_at, letter, participant_at, node_at}
use Rattle.ba_world_runs.proofs.Owners.{end_id, fits_here, one_node, part_id, sender_is}
use Rattle.ba_world_runs.proofs.Tests.{if_false, if_true}

-- ---- what stands in a list of what was sent

pub among_contains : {A : Type 0} (xs : List A) (x : A) → Among xs x → Contains xs x
among_contains [] x h = absurd h
among_contains (y ∷ xs) x (inl h) = (0, omega arith, h)
among_contains (y ∷ xs) x (inr h) = Contains-append_right (y ∷ []) xs x (among_contains xs x h)

further : {B : Type 0} (o : Option B) (ys : List B) (x : B) → Among ys x → Among (cons_option o ys) x
further None ys x h = h
further (Some y) ys x h = inr h

pub sent_here : {A B : Type 0} (f : A → Option B) (xs : List A) (m : A) (x : B) → Among xs m → f m ≡ Some x → Among (filter_map f xs) x
sent_here f [] m x h e = absurd h
sent_here {A} {B} f (y ∷ xs) m x (inl h) e =
    subst (λ (o : Option B). Among (cons_option o (filter_map f xs)) x) (sym (ap f h ∙ e)) (inl refl)
sent_here {A} {B} f (y ∷ xs) m x (inr h) e = further (f y) (filter_map f xs) x (sent_here f xs m x h e)

-- ---- letters

-- what a participant says on its own link
pub own_letter : (p : Part) (here : Epr) (l : Letter) (n : Notice) → sender_of l.number ≡ p.id.0 → l.message ≡ message.Notice n
    → on_link p here (letter l) ≡ Some (to_end n)
own_letter p here l n own says =
    if_true (nat_eq (sender_of l.number) p.id.0) (said_up l.message) (if same_epr l.to here then said_down l.message else None)
    (eq-eqb (sender_of l.number) p.id.0 own) ∙ ap said_up says

-- where a participant keeps this coordinator
pub coordinator_is : (w : Net) (sound : IsAddressed w) (j : ℕ) (p : Part) (c : Epr) → PartAt w j p → p.coordinator ≡ Some c
    → (k : ℕ) × (s : ScopeState) × (e : End) × IsLink w j p k s × HasEnd w j p s e × (c ≡ coordinator_at w k e.id)
coordinator_is w sound j p c of is =
    subst (λ (o : Option Epr). IfSome o (λ x. (k : ℕ) × (s : ScopeState) × (e : End) × IsLink w j p k s × HasEnd w j p s e
    × (x ≡ coordinator_at w k e.id))) is (sound.endpoints.coordinators j p of)

module _ (w : Net) (sound : IsAddressed w) where
  -- a notice to a participant's endpoint wasn't sent by it
  not_from_it : (j : ℕ) (p : Part) (l : Letter) (n : Notice) → PartAt w j p → MailFits w (letter l) → l.to ≡ participant_at w j p.id
      → l.message ≡ message.Notice n → sender_of l.number ≡ p.id.0 → ⊥
  not_from_it j p l n of (of_register i q is number to says) at told same = absurd cc
  not_from_it j p l n of (of_part i q m is number to says) at told same =
      let keeps = coordinator_is w sound i q l.to is to in
      sides_apart keeps.2.id p.id (node_at w keeps.0).base (node_at w j).base (sym keeps.5 ∙ at)
  not_from_it j p l n of (of_end k s e m scope among number to says) at told same =
      let e_is = end_id w sound k s e scope among in
      let ids : e.id.0 ≡ p.id.0 = sym (sender_is k (notice_code m) e.id e_is) ∙ sym (ap sender_of number) ∙ same in
      let nodes : j ≡ k = sym (one_node k j e.id p.id e_is (part_id w sound j p of) ids) in
      no_end_is_a_part (node_at w k) s e p (fits_here w sound k) scope among (subst (λ (i : ℕ). PartAt w i p) nodes of) ids

  -- a notice to a participant's endpoint was sent on its link
  pub heard_below : (j : ℕ) (p : Part) (l : Letter) (n : Notice) → PartAt w j p → Among w.bag (letter l)
      → l.to ≡ participant_at w j p.id → l.message ≡ message.Notice n
      → Contains (filter_map (on_link p (participant_at w j p.id)) w.bag) (to_part n)
  heard_below j p l n of sent at told =
      let here : Epr = participant_at w j p.id in
      let other : nat_eq (sender_of l.number) p.id.0 ≡ false =
      ne_eqb (sender_of l.number) p.id.0 (not_from_it j p l n of (sound.mail (letter l) sent) at told) in
      let to_it : same_epr l.to here ≡ true = subst (λ (x : Epr). same_epr l.to x ≡ true) at (endpoint_itself l.to) in
      let says : on_link p here (letter l) ≡ Some (to_part n) =
      if_false (nat_eq (sender_of l.number) p.id.0) (said_up l.message) (if same_epr l.to here then said_down l.message else None) other
      ∙ if_true (same_epr l.to here) (said_down l.message) None to_it
      ∙ ap said_down told in
      among_contains (filter_map (on_link p here) w.bag) (to_part n) (sent_here (on_link p here) w.bag (letter l) (to_part n) sent says)

  -- a notice with a participant's number was sent on its link
  pub heard_above : (j : ℕ) (p : Part) (l : Letter) (n : Notice) → Among w.bag (letter l) → sender_of l.number ≡ p.id.0
      → l.message ≡ message.Notice n → Contains (filter_map (on_link p (participant_at w j p.id)) w.bag) (to_end n)
  heard_above j p l n sent own says =
      let here : Epr = participant_at w j p.id in
      among_contains (filter_map (on_link p here) w.bag) (to_end n)
      (sent_here (on_link p here) w.bag (letter l) (to_end n) sent (own_letter p here l n own says))
