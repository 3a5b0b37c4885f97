-- What becomes of the links of a scope's ends as the scope changes: it may be sealed, a verdict may be set on each end, one end may
-- change, or a new one is enrolled; for the law that each step of a node is moves of its links.
use Rattle.std.proofs.Common.{◌≡◌, inl, inr, ◌≤◌, Bool, true, false, List, [], ◌∷◌, length, map, Option, None, Some, IfSome, unwrap_or}
use Rattle.std.proofs.Common.{refl, sym, ap, ◌∙◌, subst, arith, true≢false, length-append}
use Rattle.std.specs.Option.{option_map}
use Rattle.ba_core.specs.EndRows.{chosen_state, completed_state, end_row, end_tick}
use Rattle.ba_core.specs.Messages.{end_name}
use Rattle.ba_core.specs.declared.identifiers.Id.{Id}
use Rattle.ba_core.specs.declared.notices.Notice.{Notice}
use Rattle.ba_core.specs.declared.notices.Notice.TheVariants as notice
use Rattle.ba_core.specs.declared.protocols.Protocol.{Protocol}
use Rattle.ba_core.specs.declared.protocols.Verdict.{Verdict}
use Rattle.ba_core.specs.declared.rows.CRow.{CRow}
use Rattle.ba_core.specs.declared.rows.CRow.TheVariants as crow
use Rattle.ba_core.specs.declared.states.CState.{CState}
use Rattle.ba_core.specs.declared.states.PState.{PState}
use Rattle.ba_link.specs.Link as link
use Rattle.ba_link.specs.Link.{LinkState, Message, asks_part, chooses, chosen_link, completed_link, completes, end_moved_link, end_receives}
use Rattle.ba_link.specs.Link.{end_ticks, enrolled_link, enrols, moved_link, register, registered, seals, settled_state, tells_part, to_end}
use Rattle.ba_link.specs.Link.{to_part, with_end}
use Rattle.ba_message.specs.Endpoints.{same_epr}
use Rattle.ba_message.specs.declared.endpoints.Epr.{Epr}
use Rattle.ba_message.proofs.FitTests.{endpoint_itself}
use Rattle.ba_scope.proofs.Lists.{by_test}
use Rattle.ba_scope_ends.specs.Ends.{Tick, end_after_notice, end_after_row, end_in_state, end_with_verdict, new_end, tick_of_end, end_of, same_id}
use Rattle.ba_scope.specs.Rules.{changed_at, scope_with_end, with_end_changed}
use Rattle.ba_scope.specs.Scope.{ScopeState, takes_no_more}
use Rattle.ba_scope_ends.specs.declared.ends.End.{End}
use Rattle.ba_scope_ends.specs.declared.parts.Part.{Part}
use Rattle.ba_world_runs.specs.Links.{link_state, side_of}
use Rattle.ba_world_runs.proofs.LinkMoves.{KeepsOwner, Quiet, at_keeps_owner, end_of_map, end_of_new, end_of_others, link_with, moves_quiet}
use Rattle.ba_world_runs.proofs.LinkMoves.{stays_quiet, takes_as_before, takes_no_less}
use Rattle.ba_world_runs.proofs.Strides.{SaysAtMost, Strides, moves, speaks_first, speaks_last, stays}

-- ---- what moves an end

-- a verdict may be set on this end
pub record MayBeSet (v : Verdict) (e : End) : Type 0 where
  pub open_ : e.verdict ≡ None
  pub next : CState
  pub leads : chosen_state e.protocol e.state v ≡ Some next

pub verdict_set : (protocol : Protocol) (e : End) (v : Verdict) (p : PState) (sealed : Bool) → e.protocol ≡ protocol → MayBeSet v e
    → Quiet (link_with protocol (Some (side_of e)) p sealed) (link_with protocol (Some (side_of (end_with_verdict v e))) p sealed)
verdict_set protocol e v p sealed same may =
    let l : LinkState = link_with protocol (Some (side_of e)) p sealed in
    let led : chosen_state protocol e.state v ≡ Some may.next =
    subst (λ (x : Protocol). chosen_state x e.state v ≡ Some may.next) same may.leads in
    let state : may.next ≡ unwrap_or (chosen_state e.protocol e.state v) e.state =
    sym (ap (λ (o : Option CState). unwrap_or o e.state) may.leads) in
    moves_quiet (chooses v) refl
    (ap (λ (o : Option Verdict). chosen_link l v o (chosen_state protocol e.state v)) may.open_
    ∙ ap (chosen_link l v None) led
    ∙ ap (λ (x : CState). Some (with_end l x (Some v), None)) state)

-- its participant is asked to complete
pub completion_asked : (protocol : Protocol) (e : End) (next : CState) (p : PState) (sealed : Bool) → e.protocol ≡ protocol
    → e.verdict ≡ None → completed_state e.protocol e.state ≡ Some next
    → Quiet (link_with protocol (Some (side_of e)) p sealed) (link_with protocol (Some (side_of (end_in_state next e))) p sealed)
completion_asked protocol e next p sealed same open_ leads =
    let l : LinkState = link_with protocol (Some (side_of e)) p sealed in
    let led : completed_state protocol e.state ≡ Some next = subst (λ (x : Protocol). completed_state x e.state ≡ Some next) same leads in
    moves_quiet completes refl
    (ap (λ (o : Option Verdict). completed_link l o (completed_state protocol e.state)) open_
    ∙ ap (completed_link l None) led
    ∙ ap (λ (o : Option Verdict). Some (with_end l next o, None)) (sym open_))

module _ (hears : Message → Type 0) where
  pub quietly : (a c : LinkState) → Quiet a c → Strides hears None a c
  quietly a c (stays_quiet same) = stays same refl
  quietly a c (moves_quiet m unheard is) =
      moves m None (subst (λ (o : Option Message). IfSome o hears) (sym unheard) tt) is (inl refl)

  -- it hears a notice, which its row takes or not
  pub notice_heard : (protocol : Protocol) (e : End) (n : Notice) (p : PState) (sealed : Bool) → e.protocol ≡ protocol → hears (to_end n)
      → Strides hears None (link_with protocol (Some (side_of e)) p sealed)
      (link_with protocol (Some (side_of (end_after_notice n e))) p sealed)
  notice_heard protocol e n p sealed same heard = by_row (end_row e.protocol e.state n) refl
    where
      by_row : (row : CRow) → end_row e.protocol e.state n ≡ row
          → Strides hears None (link_with protocol (Some (side_of e)) p sealed)
          (link_with protocol (Some (side_of (end_after_row row e))) p sealed)
      by_row crow.Invalid is = stays refl refl
      by_row (crow.Row next prompt) is =
          let l : LinkState = link_with protocol (Some (side_of e)) p sealed in
          let taken : end_row protocol e.state n ≡ crow.Row next prompt =
          subst (λ (x : Protocol). end_row x e.state n ≡ crow.Row next prompt) same is in
          moves (end_receives n) None heard
          (ap (end_moved_link l e.verdict) taken
          ∙ ap (λ (x : Protocol). Some (with_end l (settled_state x next e.verdict) e.verdict, None)) (sym same)) (inl refl)

  -- it ticks, and says this, if it says something
  abbrev Ticks : Option Message → Protocol → End → PState → Bool → Tick End → Type 0
  Ticks says protocol e p sealed tick =
      SaysAtMost says (option_map to_part tick.says)
      → Strides hears says (link_with protocol (Some (side_of e)) p sealed) (link_with protocol (Some (side_of tick.after)) p sealed)

  pub end_ticked : (protocol : Protocol) (e : End) (p : PState) (sealed : Bool) (says : Option Message)
      → SaysAtMost says (option_map to_part (tick_of_end e).says)
      → Strides hears says (link_with protocol (Some (side_of e)) p sealed)
      (link_with protocol (Some (side_of (tick_of_end e).after)) p sealed)
  end_ticked protocol e p sealed says =
      by_test (Ticks says protocol e p sealed) e.owes _ _
      (λ _ said. moves (tells_part (end_name e.state)) (Some (to_part (notice.Status (end_name e.state)))) tt refl said)
      (λ _. by_test (Ticks says protocol e p sealed) e.asks
      (record { after = record e { asks = false }; says = Some notice.GetStatus })
      (record { after = end_in_state (end_tick e.state).0 e; says = (end_tick e.state).1 })
      (λ _ said. moves asks_part (Some (to_part notice.GetStatus)) tt refl said)
      (λ _ said. moves end_ticks (option_map to_part (end_tick e.state).1) tt refl said))

  -- ---- a scope that may be sealed, and then a quiet move

  sealed_then : (protocol : Protocol) (before after : Option link.End) (p : PState) (b c : Bool) → (b ≡ true → c ≡ true)
      → Quiet (link_with protocol before p c) (link_with protocol after p c)
      → Strides hears None (link_with protocol before p b) (link_with protocol after p c)
  sealed_then protocol before after p true true more quiet =
      quietly (link_with protocol before p true) (link_with protocol after p true) quiet
  sealed_then protocol before after p true false more quiet = absurd (true≢false (sym (more refl)))
  sealed_then protocol before after p false false more quiet =
      quietly (link_with protocol before p false) (link_with protocol after p false) quiet
  sealed_then protocol before after p false true more (stays_quiet same) =
      moves seals None tt (ap (λ (l : LinkState). Some (l, None)) (sym same)) (inl refl)
  sealed_then protocol before after p false true more (moves_quiet m unheard is) =
      speaks_last seals m (link_with protocol before p true) None tt unheard refl is (inl refl)

  -- each end stays or changes by a quiet move, and the scope may be sealed
  pub each_quietly : (s t : ScopeState) (f : End → End) (p : Part) (here : Epr) → KeepsOwner f → t.ends ≡ map f s.ends
      → (takes_no_more s ≡ true → takes_no_more t ≡ true)
      → ((e : End) → end_of s.ends here ≡ Some e → Quiet (link_with p.protocol (Some (side_of e)) p.state (takes_no_more t))
      (link_with p.protocol (Some (side_of (f e))) p.state (takes_no_more t)))
      → Strides hears None (link_state p here s) (link_state p here t)
  each_quietly s t f p here keeps are more each =
      subst (λ (o : Option End). Strides hears None (link_state p here s)
      (link_with p.protocol (option_map side_of o) p.state (takes_no_more t)))
      (sym (ap (λ (es : List End). end_of es here) are ∙ end_of_map f keeps s.ends here))
      (sealed_then p.protocol (option_map side_of (end_of s.ends here)) (option_map side_of (option_map f (end_of s.ends here))) p.state
      (takes_no_more s) (takes_no_more t) more (by_end (end_of s.ends here) refl))
    where
      by_end : (o : Option End) → end_of s.ends here ≡ o
          → Quiet (link_with p.protocol (option_map side_of o) p.state (takes_no_more t))
          (link_with p.protocol (option_map side_of (option_map f o)) p.state (takes_no_more t))
      by_end None is = stays_quiet refl
      by_end (Some e) is = each e is

  -- the ends stay, and the scope may be sealed
  pub only_sealed : (s t : ScopeState) (p : Part) (here : Epr) → t.ends ≡ s.ends → (takes_no_more s ≡ true → takes_no_more t ≡ true)
      → Strides hears None (link_state p here s) (link_state p here t)
  only_sealed s t p here are more =
      subst (λ (es : List End). Strides hears None (link_state p here s)
      (link_with p.protocol (option_map side_of (end_of es here)) p.state (takes_no_more t)))
      (sym are)
      (sealed_then p.protocol (option_map side_of (end_of s.ends here)) (option_map side_of (end_of s.ends here)) p.state
      (takes_no_more s) (takes_no_more t) more (stays_quiet refl))

  -- ---- one end changes, where this is said on its link

  pub one_end_changes : (says : Option Message) (s : ScopeState) (id : Id) (f : End → End) (p : Part) (here : Epr) → KeepsOwner f
      → ((e : End) → end_of s.ends here ≡ Some e → same_id e.id id ≡ true
      → Strides hears says (link_with p.protocol (Some (side_of e)) p.state (takes_no_more s))
      (link_with p.protocol (Some (side_of (f e))) p.state (takes_no_more s)))
      → ((e : End) → end_of s.ends here ≡ Some e → same_id e.id id ≡ false → says ≡ None)
      → (end_of s.ends here ≡ None → says ≡ None)
      → Strides hears says (link_state p here s) (link_state p here (with_end_changed id f s))
  one_end_changes says s id f p here keeps at_end at_other at_none =
      let g : End → End = changed_at id f in
      subst (λ (o : Option End). Strides hears says (link_state p here s)
      (link_with p.protocol (option_map side_of o) p.state (takes_no_more (with_end_changed id f s))))
      (sym (end_of_map g (at_keeps_owner id f keeps) s.ends here))
      (subst (λ (b : Bool). Strides hears says (link_state p here s)
      (link_with p.protocol (option_map side_of (option_map g (end_of s.ends here))) p.state b))
      (sym (takes_as_before s g)) (by_end (end_of s.ends here) refl))
    where
      by_end : (o : Option End) → end_of s.ends here ≡ o
          → Strides hears says (link_with p.protocol (option_map side_of o) p.state (takes_no_more s))
          (link_with p.protocol (option_map side_of (option_map (changed_at id f) o)) p.state (takes_no_more s))
      by_end None is = stays refl (at_none is)
      by_end (Some e) is =
          by_test (λ (x : End). Strides hears says (link_with p.protocol (Some (side_of e)) p.state (takes_no_more s))
          (link_with p.protocol (Some (side_of x)) p.state (takes_no_more s)))
          (same_id e.id id) (f e) e (at_end e is) (λ other. stays refl (at_other e is other))

  -- ---- a new end

  pub new_end_here : (s : ScopeState) (id : Id) (protocol : Protocol) (here : Epr) (p : Part) → end_of s.ends here ≡ None
      → takes_no_more s ≡ false → hears register
      → Strides hears (Some registered) (link_state p here s) (link_state p here (scope_with_end s id protocol here))
  new_end_here s id protocol here p none takes heard =
      let t : ScopeState = scope_with_end s id protocol here in
      subst (λ (o : Option End). Strides hears (Some registered) (link_state p here s)
      (link_with p.protocol (option_map side_of o) p.state (takes_no_more t)))
      (sym (end_of_new s.ends (new_end id protocol here) here none (endpoint_itself here))) (by_flag (takes_no_more t))
    where
      enrolled : moved_link (link_state p here s) enrols
          ≡ Some (link_with p.protocol (Some (side_of (new_end id protocol here))) p.state (takes_no_more s), Some registered)
      enrolled =
          let l : LinkState = link_state p here s in
          ap (λ (o : Option End). enrolled_link l (option_map side_of o) (takes_no_more s)) none ∙ ap (enrolled_link l None) takes

      by_flag : (full : Bool)
          → Strides hears (Some registered) (link_state p here s)
          (link_with p.protocol (Some (side_of (new_end id protocol here))) p.state full)
      by_flag true =
          speaks_first enrols seals (link_with p.protocol (Some (side_of (new_end id protocol here))) p.state (takes_no_more s))
          (Some registered) heard refl enrolled refl (inr refl)
      by_flag false =
          moves enrols (Some registered) heard
          (enrolled
          ∙ ap (λ (b : Bool). Some (link_with p.protocol (Some (side_of (new_end id protocol here))) p.state b, Some registered)) takes)
          (inr refl)

  -- the links of others
  pub new_end_elsewhere : (s : ScopeState) (id : Id) (protocol : Protocol) (participant here : Epr) (p : Part)
      → same_epr participant here ≡ false
      → Strides hears None (link_state p here s) (link_state p here (scope_with_end s id protocol participant))
  new_end_elsewhere s id protocol participant here p other =
      let new : End = new_end id protocol participant in
      let t : ScopeState = scope_with_end s id protocol participant in
      let longer : length s.ends ≤ length t.ends = rw (length-append s.ends (new ∷ [])) (omega arith) in
      subst (λ (o : Option End). Strides hears None (link_state p here s)
      (link_with p.protocol (option_map side_of o) p.state (takes_no_more t)))
      (sym (end_of_others s.ends new here other))
      (sealed_then p.protocol (option_map side_of (end_of s.ends here)) (option_map side_of (end_of s.ends here)) p.state
      (takes_no_more s) (takes_no_more t) (takes_no_less s t refl longer (λ sealed. sealed)) (stays_quiet refl))
