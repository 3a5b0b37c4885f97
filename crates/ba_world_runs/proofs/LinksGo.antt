-- Each link after a move comes from one before it by at most two moves of its table, or begins; for the law of that name.
use Rattle.std.proofs.Common.{◌≡◌, ◌⊎◌, inl, inr, ℕ, Bool, true, false, List, [], ◌∷◌, ◌++◌, Option, None, Some, IfSome, arith, refl, sym}
use Rattle.std.proofs.Common.{ap, ◌∙◌, subst, if◌then◌else◌}
use Rattle.std.specs.List.{cons_option, filter_map}
use Rattle.std.specs.Option.{option_and_then, option_to_list}
use Rattle.std.proofs.lemmas.List.Elements.{filter_map-append}
use Rattle.ba_core.specs.declared.identifiers.Id.{Id}
use Rattle.ba_link.specs.Link as link
use Rattle.ba_message.specs.Endpoints.{same_epr}
use Rattle.ba_message.specs.declared.endpoints.Epr.{Epr}
use Rattle.ba_message.proofs.FitTests.{endpoints_equal}
use Rattle.ba_scope_ends.specs.Ends.{end_of}
use Rattle.ba_scope.specs.Scope.{ScopeState}
use Rattle.ba_scope_ends.specs.declared.ends.End.{End}
use Rattle.ba_scope_ends.specs.declared.parts.Part.{Part}
use Rattle.ba_node_steps.specs.Node.{Among, HasPart, NodeState, next_id}
use Rattle.ba_node_steps.proofs.Objects.{one_part}
use Rattle.ba_node_steps.proofs.Places.{first_is}
use Rattle.ba_world_runs.specs.Links.{IsLink, StepsByTwo, StepsFrom, link_in, link_state, on_link}
use Rattle.ba_world_runs.specs.Safety.{IsAddressed}
use Rattle.ba_world_runs.specs.Trees.{GenerationsFit}
use Rattle.ba_world_runs.specs.World.{Mail, Net, Occasion, PartAt, ScopeAt, answer, letter, node_at, participant_at, registration_at}
use Rattle.ba_world_runs.specs.WorldSteps.{Moves, effect}
use Rattle.ba_world_runs.proofs.Addressed.{cause_of, endpoint_stays, goes, registration_stays}
use Rattle.ba_world_runs.proofs.Heard.{heard_at_part, heard_at_scope, sent_on}
use Rattle.ba_world_runs.proofs.MailLemmas.{addressed}
use Rattle.ba_world_runs.proofs.Owners.{fits_here, owner}
use Rattle.ba_world_runs.proofs.Recorded.{at_or_other}
use Rattle.ba_world_runs.proofs.Said.{IsSpeaker, SpeaksAt, SpeaksBy, Spoken, is_told, said_by_it, said_is, said_on, told_scope, untold}
use Rattle.ba_world_runs.proofs.StrideLemmas.{joining, link_of, strides_step}
use Rattle.ba_world_runs.proofs.Strides.{Above, Below, EndHears, IsOfItsProtocol, PartHears, Speech, Strides, stays}
use Rattle.ba_world_runs.proofs.Tests.{test_cases}
use Rattle.ba_world_runs.proofs.Traces.{IsNewPart, Mover, MovesPart, MovesScope, PartFrom, ScopeFrom, Trace, both_move}

-- ---- what was sent on a link, after more was sent

one_mapped : {A B : Type 0} (f : A → Option B) (x : A) (o : Option B) → f x ≡ o → filter_map f (x ∷ []) ≡ option_to_list o
one_mapped {A} {B} f x None same = ap (λ (y : Option B). cons_option y []) same
one_mapped {A} {B} f x (Some b) same = ap (λ (y : Option B). cons_option y []) same

joined_mapped : (f : Mail → Option link.Message) (joined : Bool) (sends : Option Mail)
    → filter_map f (if joined then option_to_list sends else []) ≡ joining joined (option_and_then f sends)
joined_mapped f true None = refl
joined_mapped f true (Some x) = one_mapped f x (f x) refl
joined_mapped f false sends = refl

-- a link's messages are told by its participant's identifier
by_id : (p q : Part) (here : Epr) (m : Mail) → q.id ≡ p.id → on_link q here m ≡ on_link p here m
by_id p q here (letter l) same = λ i. on_link (record p { id = same i }) here (letter l)
by_id p q here (answer number m) same = λ i. on_link (record p { id = same i }) here (answer number m)

module _ (w w2 : Net) (k : ℕ) (o : Occasion) (joined : Bool) (moves : Moves w w2 k o joined) (is : IsAddressed w) where
  -- what the step sends, if it joins the bag
  abbrev pub sends : Option Mail
  sends = (effect (node_at w k) o).sends

  pub sent_after : (j : ℕ) (p q : Part) → q.id ≡ p.id → sent_on w2 j q ≡ sent_on w j p ++ joining joined (said_on w j p sends)
  sent_after j p q same =
      let here : Epr = participant_at w j p.id in
      let before : List Mail = w.bag in
      let more : List Mail = if joined then option_to_list sends else [] in
      let ends_at : participant_at w2 j q.id ≡ here = sym (endpoint_stays w w2 k o joined moves is j p q same) in
      (λ i. filter_map (on_link q (ends_at i)) (moves.bag i))
      ∙ (λ i. filter_map (λ m. by_id p q here m same i) (before ++ more))
      ∙ filter_map-append (on_link p here) before more
      ∙ ap (λ list. sent_on w j p ++ list) (joined_mapped (on_link p here) joined sends)

  -- a participant afterwards with the identifier of one before has its registration
  pub same_registration : (j : ℕ) (p q : Part) → PartAt w j p → PartAt w2 j q → q.id ≡ p.id → q.registration ≡ p.registration
  same_registration j p q of_p of_q same =
      let next = (goes w w2 k o joined moves is j).parts_forth p of_p in
      let one : next.0 ≡ q =
      one_part (node_at w2 j) next.0 q (fits_here w2 (addressed w w2 k o joined moves is) j) next.1 of_q
      (ap (λ (i : Id). i.0) (next.2.id ∙ sym same)) in
      ap (λ (x : Part). x.registration) (sym one) ∙ next.2.registration

  -- ---- the two sides of a link before the step

  abbrev pub ScopeSide : Speech → Mover → ℕ → ScopeState → ScopeState → Type 0
  ScopeSide speech mover l s t =
      ((t ≡ s) × ((l ≡ k) → SpeaksAt s speech → ⊥)) ⊎ ((l ≡ k) × MovesScope mover s × Below (cause_of o) speech s t)

  abbrev pub PartSide : Speech → Mover → ℕ → Part → Part → Type 0
  PartSide speech mover j p q =
      ((q ≡ p) × ((j ≡ k) → SpeaksBy p speech → ⊥))
      ⊎ ((j ≡ k) × MovesPart mover p × IsSpeaker p speech × Above (cause_of o) speech p q)

  abbrev pub ScopeWas : Speech → Mover → ℕ → ScopeState → Type 0
  ScopeWas speech mover l t = (s : ScopeState) × ScopeAt w l s × (t.id ≡ s.id) × ScopeSide speech mover l s t

  abbrev pub PartWas : Speech → Mover → ℕ → Part → Type 0
  PartWas speech mover j q = (p : Part) × PartAt w j p × (q.id ≡ p.id) × PartSide speech mover j p q

  module _ (speech : Speech) (trace : Trace (cause_of o) speech (node_at w k) (node_at w2 k)) where
    here_scope : (t : ScopeState) → ScopeFrom (cause_of o) speech trace.mover (node_at w k) t → ScopeWas speech trace.mover k t
    here_scope t was = elim was.3 [
      | inl same ↦ (was.0, was.1, was.2, inl (same.0, λ at. same.1))
      | inr moved ↦ (was.0, was.1, was.2, inr (refl, moved.0, moved.1))
    ]

    here_part : (q : Part) → PartFrom (cause_of o) speech trace.mover (node_at w k) q → PartWas speech trace.mover k q
    here_part q was = elim was.3 [
      | inl same ↦ (was.0, was.1, was.2, inl (same.0, λ at. same.1))
      | inr moved ↦ (was.0, was.1, was.2, inr (refl, moved.0, moved.1, moved.2))
    ]

    -- each scope and each participant was there, or it is new at the node that moved
    pub scope_was : (l : ℕ) (t : ScopeState) → ScopeAt w2 l t
        → ScopeWas speech trace.mover l t ⊎ ((l ≡ k) × (t.id ≡ next_id (node_at w k) 1))
    scope_was = at_or_other
        (λ l. (t : ScopeState) → ScopeAt w2 l t → ScopeWas speech trace.mover l t ⊎ ((l ≡ k) × (t.id ≡ next_id (node_at w k) 1))) k
        (λ t of. elim (trace.scopes t of) [ inl was ↦ inl (here_scope t was) | inr new ↦ inr (refl, new) ])
        (λ l other t of.
        inl (t, subst (λ (n : NodeState). Among n.scopes t) (moves.others l other) of, refl, inl (refl, λ at. absurd (other at))))

    pub part_was : (j : ℕ) (q : Part) → PartAt w2 j q
        → PartWas speech trace.mover j q ⊎ ((j ≡ k) × IsNewPart (cause_of o) (node_at w k) q)
    part_was = at_or_other
        (λ j. (q : Part) → PartAt w2 j q → PartWas speech trace.mover j q ⊎ ((j ≡ k) × IsNewPart (cause_of o) (node_at w k) q)) k
        (λ q has. elim (trace.parts q has) [ inl was ↦ inl (here_part q was) | inr new ↦ inr (refl, new) ])
        (λ j other q has.
        inl (q, subst (λ (n : NodeState). HasPart n q) (moves.others j other) has, refl, inl (refl, λ at. absurd (other at))))

  -- ---- a link whose sides were there steps by two

  abbrev Steps : ℕ → Part → Part → ScopeState → ScopeState → Type 0
  Steps j p q s t = StepsByTwo (link_in w j p s)
      (link_of (link_state q (participant_at w j p.id) t) (sent_on w j p ++ joining joined (said_on w j p sends)))

  -- a participant has the protocol of its end
  of_its_protocol : (j l : ℕ) (p : Part) (s : ScopeState) → IsLink w j p l s → IsOfItsProtocol p (participant_at w j p.id) s
  of_its_protocol j l p s at = by_found (end_of s.ends (participant_at w j p.id)) refl
    where
      by_found : (x : Option End) → end_of s.ends (participant_at w j p.id) ≡ x → IfSome x (λ (e : End). e.protocol ≡ p.protocol)
      by_found None none = tt
      by_found (Some e) found =
          let first = first_is (λ (y : End). same_epr y.participant (participant_at w j p.id)) s.ends e found in
          (owner w is j l p s e at.part at.scope first.0 (endpoints_equal e.participant (participant_at w j p.id) first.1)).1

  module _ (speech : Speech) (mover : Mover) (spoken : Spoken w k speech sends) where
    -- nothing is said to a participant whose scope doesn't speak
    not_told : (j l : ℕ) (p : Part) (s : ScopeState) → IsLink w j p l s → ((l ≡ k) → SpeaksAt s speech → ⊥)
        → is_told speech (participant_at w j p.id) ≡ false
    not_told j l p s at quiet = elim (test_cases (is_told speech (participant_at w j p.id))) [
      | inl told ↦ let speaks = told_scope w is k speech sends spoken j p l s at told in absurd (quiet speaks.0 speaks.1)
      | inr other ↦ other
    ]

    neither : (j l : ℕ) (p : Part) (s : ScopeState) → IsLink w j p l s → ((j ≡ k) → SpeaksBy p speech → ⊥)
        → ((l ≡ k) → SpeaksAt s speech → ⊥) → Steps j p p s s
    neither j l p s at silent quiet =
        let here : Epr = participant_at w j p.id in
        let none : said_on w j p sends ≡ None =
        said_is w is k speech sends spoken j p at.part silent ∙ untold speech here (not_told j l p s at quiet) in
        strides_step (λ x. ⊥) (said_on w j p sends) (link_state p here s) (link_state p here s) (sent_on w j p) joined (λ x h. absurd h)
        (stays refl none)

    below : (j : ℕ) (p : Part) (s t : ScopeState) → IsLink w j p k s → ((j ≡ k) → SpeaksBy p speech → ⊥) → Below (cause_of o) speech s t
        → Steps j p p s t
    below j p s t at silent strides =
        let here : Epr = participant_at w j p.id in
        strides_step (EndHears (cause_of o) s here) (said_on w j p sends) (link_state p here s) (link_state p here t) (sent_on w j p) joined
        (heard_at_scope w is k o moves.possible j p s at.part at.scope)
        (subst (λ (x : Option link.Message). Strides (EndHears (cause_of o) s here) x (link_state p here s) (link_state p here t))
        (sym (said_is w is k speech sends spoken j p at.part silent)) (strides p here (of_its_protocol j k p s at)))

    above : (l : ℕ) (p q : Part) (s : ScopeState) → IsLink w k p l s → IsSpeaker p speech → ((l ≡ k) → SpeaksAt s speech → ⊥)
        → Above (cause_of o) speech p q → Steps k p q s s
    above l p q s at speaks quiet strides =
        let here : Epr = participant_at w k p.id in
        strides_step (PartHears (cause_of o) p) (said_on w k p sends) (link_state p here s) (link_state q here s) (sent_on w k p) joined
        (heard_at_part w is k o moves.possible p at.part)
        (subst (λ (x : Option link.Message). Strides (PartHears (cause_of o) p) x (link_state p here s) (link_state q here s))
        (sym (said_by_it w is k speech sends spoken p at.part speaks (not_told k l p s at quiet))) (strides here s))

    -- no scope is its own parent
    not_both : (p : Part) (s : ScopeState) → GenerationsFit w → IsLink w k p k s → s.up ≡ Some p → ⊥
    not_both p s fit at up =
        let later = fit.made_after_parent k k s s p (record { child = at.scope; has_upward = up; parent = at.scope; names = at.names }) in
        omega (arith, later)

    by_sides : (j l : ℕ) (p q : Part) (s t : ScopeState) → GenerationsFit w → IsLink w j p l s → PartSide speech mover j p q
        → ScopeSide speech mover l s t → Steps j p q s t
    by_sides j l p q s t fit at (inl part) (inl scope) =
        subst (λ (x : Part). Steps j p x s t) (sym part.0)
        (subst (λ (x : ScopeState). Steps j p p s x) (sym scope.0) (neither j l p s at part.1 scope.1))
    by_sides j l p q s t fit at (inl part) (inr scope) =
        subst (λ (x : Part). Steps j p x s t) (sym part.0)
        (below j p s t (subst (λ (i : ℕ). IsLink w j p i s) scope.0 at) part.1 scope.2)
    by_sides j l p q s t fit at (inr part) (inl scope) =
        subst (λ (i : ℕ). Steps i p q s t) (sym part.0)
        (subst (λ (x : ScopeState). Steps k p q s x) (sym scope.0)
        (above l p q s (subst (λ (i : ℕ). IsLink w i p l s) part.0 at) part.2 scope.1 part.3))
    by_sides j l p q s t fit at (inr part) (inr scope) =
        absurd (not_both p s fit (subst (λ (i : ℕ). IsLink w i p k s) part.0 (subst (λ (i : ℕ). IsLink w j p i s) scope.0 at))
        (both_move mover s p scope.1 part.1))

  -- the link of a participant and a scope that were there
  pub old_link : (speech : Speech) (mover : Mover) → Spoken w k speech sends → GenerationsFit w → (j l : ℕ) (q : Part) (t : ScopeState)
      → IsLink w2 j q l t → PartWas speech mover j q → ScopeWas speech mover l t → StepsFrom w w2 j q l t
  old_link speech mover spoken fit j l q t at part scope =
      let p = part.0 in
      let s = scope.0 in
      let names : p.registration ≡ registration_at w l s.id =
      sym (same_registration j p q part.1 at.part part.2) ∙ at.names ∙ sym (registration_stays w w2 k o joined moves is l s t scope.2) in
      let was : IsLink w j p l s = record { part = part.1; scope = scope.1; names = names } in
      let same : link_of (link_state q (participant_at w j p.id) t) (sent_on w j p ++ joining joined (said_on w j p sends))
      ≡ link_in w2 j q t =
      (λ i. link_of (link_state q (endpoint_stays w w2 k o joined moves is j p q part.2 i) t) (sym (sent_after j p q part.2) i)) in
      let steps = by_sides speech mover spoken j l p q s t fit was part.3 scope.3 in
      (p, s, was, (part.2, scope.2), subst (StepsByTwo (link_in w j p s)) same steps)
