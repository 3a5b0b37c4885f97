-- In a sound net all that hangs below a child has the word of the end that enrolled the child's upward part, an AtomicOutcome tree has
-- one word, and below a root that closes each end is ready; for the laws of words in trees.
use Rattle.std.proofs.Common.{◌≡◌, inl, inr, ℕ, Bool, true, false, not, ◌&&◌, ◌↔◌, List, [], ◌∷◌, Option, None, Some, is_none, is_some}
use Rattle.std.proofs.Common.{refl, sym, ap, ◌∙◌, subst, true≢false, if◌then◌else◌}
use Rattle.std.specs.List.{list_all}
use Rattle.std.specs.Option.{option_map}
use Rattle.std.proofs.lemmas.Bool.{and_parts, and_from}
use Rattle.ba_core.specs.PartRows.{is_part_state}
use Rattle.ba_core.specs.declared.protocols.Kind.TheVariants.{Atomic}
use Rattle.ba_core.specs.declared.protocols.Protocol.{Protocol}
use Rattle.ba_core.specs.declared.protocols.Verdict.{Verdict}
use Rattle.ba_core.specs.declared.protocols.Verdict.TheVariants.{Close}
use Rattle.ba_core.specs.declared.states.How.TheVariants.{Closed}
use Rattle.ba_core.specs.declared.states.CState.{CState}
use Rattle.ba_core.specs.declared.states.PState.{PState}
use Rattle.ba_core.specs.declared.states.PState.TheVariants as part
use Rattle.ba_link.specs.Pairs.{fits_end, partners, verdict_fits_state}
use Rattle.ba_link.specs.States.{part_among}
use Rattle.ba_link.proofs.Everywhere.{ends, only_if, part_passes, parts, protocol_passes, protocols, state_passes, where_asked}
use Rattle.ba_message.specs.Endpoints.{same_epr}
use Rattle.ba_message.specs.declared.endpoints.Epr.{Epr}
use Rattle.ba_message.proofs.FitTests.{endpoint_itself, endpoints_equal}
use Rattle.ba_scope_ends.specs.Parts.{part_fits, has_no_coordinator}
use Rattle.ba_scope.specs.Fits.{is_below_completed, same_verdict, state_fits_above, up_fits}
use Rattle.ba_scope_ends.specs.Ends.{end_of}
use Rattle.ba_scope.specs.Scope.{ScopeState}
use Rattle.ba_scope_ends.specs.declared.ends.End.{End}
use Rattle.ba_scope_ends.specs.declared.parts.Part.{Part}
use Rattle.ba_node_steps.specs.Node.{Among}
use Rattle.ba_node_steps.proofs.Places.{first_is}
use Rattle.ba_world_runs.specs.Links.{HasEnd, IsLink, link_in, side_of}
use Rattle.ba_world_runs.specs.Safety.{IsSound}
use Rattle.ba_world_runs.specs.Trees.{IsChild, IsKeptUnder, IsUnder, is_below, is_exited_state, is_kept_below, is_kept_top, is_top}
use Rattle.ba_world_runs.specs.Words.{HasWord, of_child, of_root}
use Rattle.ba_world_runs.specs.World.{Net, PartAt, ScopeAt, participant_at}
use Rattle.ba_world_runs.proofs.EndLemmas.{atomic_verdict, end_parts, same_verdict_is, same_verdict_of, state_below}
use Rattle.ba_world_runs.proofs.Letters.{coordinator_is}
use Rattle.ba_world_runs.proofs.Owners.{end_fits_here, one_participant, one_registration, scope_fits_here}
use Rattle.ba_world_runs.proofs.WordLemmas.{one_over, word_above, word_in_root}

-- ---- what is computed

-- above an end is a participant that is enrolled
abbrev enrolled_above_end : Option Verdict → PState → CState → Bool
enrolled_above_end v p s = only_if (state_fits_above (Some p) v s) (λ x. not (has_no_coordinator p)) s

ends_are_below_enrolled : (v : Option Verdict) → list_all (λ p. list_all (enrolled_above_end v p) ends) parts ≡ true
ends_are_below_enrolled v = refl

-- an end that has to close is ready
abbrev ready_to_close : CState → Bool
ready_to_close s = only_if (verdict_fits_state s (Some Close)) is_below_completed s

closing_is_ready : list_all ready_to_close ends ≡ true
closing_is_ready = refl

-- completed, or told to close
abbrev is_completed_part : PState → Bool
is_completed_part = part_among (part.Completed ∷ part.Closing ∷ part.Ended Closed ∷ [])

-- the participant of a ready end that stays is completed
abbrev is_ready_pair : Protocol → CState → PState → Bool
is_ready_pair protocol s p =
    only_if (is_below_completed s && not (is_exited_state s) && part_among (partners protocol s) p) is_completed_part p

pairs_are_ready : list_all (λ protocol. list_all (λ s. list_all (is_ready_pair protocol s) parts) ends) protocols ≡ true
pairs_are_ready = refl

-- below it each end is ready
abbrev is_ready_below : Option Verdict → PState → CState → Bool
is_ready_below v p s = only_if (is_completed_part p && state_fits_above (Some p) v s) is_below_completed s

below_is_ready : (v : Option Verdict) → list_all (λ p. list_all (is_ready_below v p) ends) parts ≡ true
below_is_ready v = refl

-- ---- the end of a participant

-- the end of a participant is found by its endpoint
found_end : (es : List End) (here : Epr) (e : End) → end_of es here ≡ None → Among es e → e.participant ≡ here → ⊥
found_end [] here e none among its = among
found_end (x ∷ es) here e none among its =
    by_head (same_epr x.participant here) refl none among (λ none_later later. found_end es here e none_later later its)
  where
    by_head : (b : Bool) → same_epr x.participant here ≡ b → (if b then Some x else end_of es here) ≡ None → Among (x ∷ es) e
        → (end_of es here ≡ None → Among es e → ⊥) → ⊥
    by_head true is none among rest = absurd cc
    by_head false is none (inl same) rest =
        let participant : x.participant ≡ here = ap (λ (y : End). y.participant) same ∙ its in
        true≢false (sym (subst (λ (y : Epr). same_epr x.participant y ≡ true) participant (endpoint_itself x.participant)) ∙ is)
    by_head false is none (inr later) rest = rest none later

module _ (w : Net) (sound : IsSound w) where
  -- ---- the end above

  part_fits_above : (k : ℕ) (s : ScopeState) (up : Part) → ScopeAt w k s → s.up ≡ Some up → part_fits up ≡ true
  part_fits_above k s up of is =
      subst (λ (o : Option Part). up_fits o ≡ true) is (scope_fits_here w sound.addressed k s of).up

  keeps_coordinator : (p : Part) → part_fits p ≡ true → has_no_coordinator p.state ≡ false → (c : Epr) × (p.coordinator ≡ Some c)
  keeps_coordinator p fits hears =
      let kept = (and_parts (is_part_state p.protocol p.state)
      (if has_no_coordinator p.state then is_none p.coordinator else is_some p.coordinator) fits).1 in
      some_of p.coordinator (subst (λ (b : Bool). (if b then is_none p.coordinator else is_some p.coordinator) ≡ true) hears kept)
    where
      some_of : (o : Option Epr) → is_some o ≡ true → (c : Epr) × (o ≡ Some c)
      some_of None h = absurd (true≢false (sym h))
      some_of (Some c) h = (c, refl)

  -- a child that has an end has one above
  end_above : (k j : ℕ) (s t : ScopeState) (up : Part) (e : End) → IsChild w k s up j t → Among s.ends e
      → (over : End) × HasEnd w k up t over
  end_above k j s t up e child among =
      let fit = end_fits_here w sound.addressed k s e child.child among in
      let below = state_below s up e child.has_upward fit in
      let table = state_passes (enrolled_above_end e.verdict up.state) (part_passes (λ p. list_all (enrolled_above_end e.verdict p) ends)
      (ends_are_below_enrolled e.verdict) up.state) e.state in
      let enrolled = where_asked (state_fits_above (Some up.state) e.verdict e.state) (λ _. not (has_no_coordinator up.state)) e.state table below in
      let has : PartAt w k up = inr (s, child.child, child.has_upward) in
      let hears = not_is (has_no_coordinator up.state) enrolled in
      let kept = keeps_coordinator up (part_fits_above k s up child.child child.has_upward) hears in
      let its = coordinator_is w sound.addressed k up kept.0 has kept.1 in
      let one = one_registration w sound.addressed its.0 j its.1 t its.3.scope child.parent (sym its.3.names ∙ child.names) in
      (its.2, (subst (λ (x : ScopeState). Among x.ends its.2) one.1 its.4.0, its.4.1))
    where
      not_is : (b : Bool) → not b ≡ true → b ≡ false
      not_is true h = absurd (true≢false (sym h))
      not_is false h = refl

  -- ---- what hangs below a child

  pub under_child : (l j : ℕ) (c r : ScopeState) (up : Part) (over : End) → IsChild w l c up j r → HasEnd w l up r over
      → (k : ℕ) (s : ScopeState) → IsUnder w l c k s → (e : End) (v : Verdict) → Among s.ends e
      → HasWord w e.id.0 v ↔ HasWord w over.id.0 v
  under_child l j c r up over child its k s (is_top of) e v among = (
    λ word.
        let found = word_above w sound l j c r up e e.id.0 v child among refl word in
        let one = one_over w sound l j c r up over found.0 child its found.1 in
        subst (λ (x : End). HasWord w x.id.0 v) (sym one) found.2,
    λ word. of_child l c up e j r over child among refl its word,
  )
  under_child l j c r up over child its k s (is_below q i t below under) e v among =
      let mid = end_above k i s t q e below among in
      let rest = under_child l j c r up over child its i t under mid.0 v mid.1.0 in (
        λ word.
            let found = word_above w sound k i s t q e e.id.0 v below among refl word in
            let one = one_over w sound k i s t q mid.0 found.0 below mid.1 found.1 in
            rest.0 (subst (λ (x : End). HasWord w x.id.0 v) (sym one) found.2),
        λ word. of_child k s q e i t mid.0 below among refl mid.1 (rest.1 word),
      )

  pub in_root : (k : ℕ) (s : ScopeState) (e : End) (v : Verdict) → ScopeAt w k s → s.up ≡ None → Among s.ends e
      → HasWord w e.id.0 v ↔ (e.verdict ≡ Some v)
  in_root k s e v of root among = (word_in_root w sound k s e e.id.0 v of root among refl, of_root k s e of root among refl)

  -- ---- an AtomicOutcome tree

  pub atomic_words : (l : ℕ) (root : ScopeState) → root.up ≡ None → root.kind ≡ Atomic → (k : ℕ) (s : ScopeState) → IsUnder w l root k s
      → (e : End) (v : Verdict) → Among s.ends e → HasWord w e.id.0 v ↔ (root.verdict ≡ Some v)
  atomic_words l root is_root atomic k s (is_top of) e v among =
      let same = atomic_verdict root e is_root atomic (end_fits_here w sound.addressed l root e of among) in (
        λ word.
            let has = word_in_root w sound l root e e.id.0 v of is_root among refl word in
            same_verdict_of root.verdict v (subst (λ (x : Option Verdict). same_verdict root.verdict x ≡ true) has same),
        λ has.
            let is = same_verdict_is v e.verdict (subst (λ (x : Option Verdict). same_verdict x e.verdict ≡ true) has same) in
            of_root l root e of is_root among refl is,
      )
  atomic_words l root is_root atomic k s (is_below q i t below under) e v among =
      let mid = end_above k i s t q e below among in
      let rest = atomic_words l root is_root atomic i t under mid.0 v mid.1.0 in (
        λ word.
            let found = word_above w sound k i s t q e e.id.0 v below among refl word in
            let one = one_over w sound k i s t q mid.0 found.0 below mid.1 found.1 in
            rest.0 (subst (λ (x : End). HasWord w x.id.0 v) (sym one) found.2),
        λ has. of_child k s q e i t mid.0 below among refl mid.1 (rest.1 has),
      )

  -- ---- below a root that closes

  -- the states of an end and its participant go together
  pair_above : (k j : ℕ) (p : Part) (t : ScopeState) (over : End) → IsLink w k p j t → HasEnd w k p t over
      → part_among (partners p.protocol over.state) p.state ≡ true
  pair_above k j p t over link its = by_end (end_of t.ends (participant_at w k p.id)) refl (sound.links k j p t link).pair
    where
      by_end : (o : Option End) → end_of t.ends (participant_at w k p.id) ≡ o
          → fits_end p.protocol (link_in w k p t).state.sealed (option_map side_of o) p.state ≡ true
          → part_among (partners p.protocol over.state) p.state ≡ true
      by_end None none fits = absurd (found_end t.ends (participant_at w k p.id) over none its.0 its.1)
      by_end (Some x) found fits =
          let first = first_is (λ (y : End). same_epr y.participant (participant_at w k p.id)) t.ends x found in
          let one : x ≡ over = one_participant t.ends x over (scope_fits_here w sound.addressed j t link.scope).apart first.0 its.0
          (endpoints_equal x.participant (participant_at w k p.id) first.1 ∙ sym its.1) in
          subst (λ (y : End). part_among (partners p.protocol y.state) p.state ≡ true) one fits

  pub ready_under : (l : ℕ) (root : ScopeState) → root.up ≡ None → root.kind ≡ Atomic → root.verdict ≡ Some Close → (k : ℕ)
      (s : ScopeState) → IsKeptUnder w l root k s → (e : End) → Among s.ends e → is_below_completed e.state ≡ true
  ready_under l root is_root atomic closes k s (is_kept_top of) e among =
      let fit = end_fits_here w sound.addressed l root e of among in
      let is = same_verdict_is Close e.verdict
      (subst (λ (x : Option Verdict). same_verdict x e.verdict ≡ true) closes (atomic_verdict root e is_root atomic fit)) in
      where_asked (verdict_fits_state e.state (Some Close)) is_below_completed e.state
      (state_passes ready_to_close closing_is_ready e.state)
      (subst (λ (x : Option Verdict). verdict_fits_state e.state x ≡ true) is (end_parts root e fit).verdict)
  ready_under l root is_root atomic closes k s (is_kept_below up over j t child its kept under) e among =
      let ready = ready_under l root is_root atomic closes j t under over its.0 in
      let link : IsLink w k up j t =
      record { part = inr (s, child.child, child.has_upward); scope = child.parent; names = child.names } in
      let pair = pair_above k j up t over link its in
      let table = part_passes (is_ready_pair up.protocol over.state) (state_passes (λ c. list_all (is_ready_pair up.protocol c) parts)
      (protocol_passes (λ protocol. list_all (λ c. list_all (is_ready_pair protocol c) parts) ends) pairs_are_ready up.protocol) over.state)
      up.state in
      let asked = and_from (is_below_completed over.state && not (is_exited_state over.state))
      (part_among (partners up.protocol over.state) up.state)
      (and_from (is_below_completed over.state) (not (is_exited_state over.state)) ready (ap not kept)) pair in
      let completed = where_asked (is_below_completed over.state && not (is_exited_state over.state)
      && part_among (partners up.protocol over.state) up.state) is_completed_part up.state table asked in
      let below = state_below s up e child.has_upward (end_fits_here w sound.addressed k s e child.child among) in
      where_asked (is_completed_part up.state && state_fits_above (Some up.state) e.verdict e.state) is_below_completed e.state
      (state_passes (is_ready_below e.verdict up.state) (part_passes (λ p. list_all (is_ready_below e.verdict p) ends)
      (below_is_ready e.verdict) up.state) e.state)
      (and_from (is_completed_part up.state) (state_fits_above (Some up.state) e.verdict e.state) completed below)
