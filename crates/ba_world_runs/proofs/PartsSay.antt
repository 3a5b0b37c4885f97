-- What a step of a node makes of what its participants say: what says an outcome afterwards said it before, or the step keeps the
-- record of it; for the law that outcomes are told after they were recorded.
use Rattle.std.proofs.Common.{◌≡◌, ◌≢◌, ◌⊎◌, inl, inr, ℕ, Bool, true, false, not, ◌&&◌, ◌||◌, List, [], ◌∷◌, Option, None, Some, refl, sym}
use Rattle.std.proofs.Common.{ap, ◌∙◌, subst, true≢false}
use Rattle.std.specs.List.{list_all}
use Rattle.std.specs.Option.{option_map}
use Rattle.ba_core.specs.EndRows.{end_tick}
use Rattle.ba_core.specs.Messages.{notice_code}
use Rattle.ba_core.specs.PartRows.{acted_state, part_row, part_says}
use Rattle.ba_core.specs.declared.identifiers.Id.{Id}
use Rattle.ba_core.specs.declared.notices.Act.{Act}
use Rattle.ba_core.specs.declared.notices.Act.TheVariants as act
use Rattle.ba_core.specs.declared.notices.Notice.{Notice}
use Rattle.ba_core.specs.declared.notices.Notice.TheVariants as notice
use Rattle.ba_core.specs.declared.protocols.Protocol.{Protocol}
use Rattle.ba_core.specs.declared.protocols.Side.TheVariants.{Coordinator, Participant}
use Rattle.ba_core.specs.declared.protocols.Verdict.{Verdict}
use Rattle.ba_core.specs.declared.rows.PRow.{PRow}
use Rattle.ba_core.specs.declared.rows.PRow.TheVariants as prow
use Rattle.ba_core.specs.declared.states.CState.{CState}
use Rattle.ba_core.specs.declared.states.PState.{PState}
use Rattle.ba_link.specs.Outcomes.{is_outcome}
use Rattle.ba_link.proofs.Everywhere.{at_place, ends, only_if, part_passes, parts, protocol_passes, protocols, state_passes, where_asked}
use Rattle.ba_message.specs.declared.endpoints.Epr.{Epr}
use Rattle.ba_message.specs.declared.messages.Letter.{Letter}
use Rattle.ba_message.specs.declared.messages.Message.TheVariants as message
use Rattle.ba_record.specs.declared.records.Record.{Record}
use Rattle.ba_record.specs.declared.records.Record.TheVariants as journal
use Rattle.ba_scope.proofs.Calls.{by_option, led, ticked_part}
use Rattle.ba_scope.proofs.Lists.{by_test}
use Rattle.ba_scope.proofs.Tables.{if_leads}
use Rattle.ba_scope_ends.specs.Ends.{Tick, end_after_notice, end_asking, end_in_state, end_owing, tick_of_end, same_id}
use Rattle.ba_scope_ends.specs.Parts.{act_when_drained, enrolled_part, part_asking, part_in_state, part_owing, refused_part, state_after_act}
use Rattle.ba_scope_ends.specs.Parts.{tick_of_part}
use Rattle.ba_scope.specs.Rules.{ScopeStep, choose, complete, decide, expire, finish, is_expired, leave_act, leave_by, part_at_tick}
use Rattle.ba_scope.specs.Rules.{scope_with_end, state_at_tick, tick_up, with_end_changed, with_up, with_up_moved}
use Rattle.ba_scope.specs.Scope.{ScopeState, any_failed, is_drained}
use Rattle.ba_scope.specs.declared.answers.Said.{Said}
use Rattle.ba_scope_ends.specs.declared.ends.End.{End}
use Rattle.ba_scope_ends.specs.declared.parts.Part.{Part}
use Rattle.ba_node_steps.specs.declared.inputs.Input.{Input}
use Rattle.ba_node_steps.specs.declared.inputs.Input.TheVariants as input
use Rattle.ba_node_steps.specs.Addresses.{message_number}
use Rattle.ba_node_steps.specs.Node.{Among, EndPlace, HasPart, NodeState, PartPlace, counter, end_place, lone, next_id, nowhere}
use Rattle.ba_node_steps.specs.Node.{part_in_place_of, scope_in_place_of, scope_with_id, upward, with_lone, with_new_part, with_new_scope}
use Rattle.ba_node_steps.specs.Node.{with_part_changed, with_scope}
use Rattle.ba_node_steps.specs.Steps.{NodeStep, is_registering_state, node_step, same_end_state, same_part_state}
use Rattle.ba_node_steps.specs.Ticks.{TickStep, end_letter, letter_step, notice_letter, part_letter, register_letter, tick_at_end, tick_at_part}
use Rattle.ba_node_steps.specs.Ticks.{tick_at_scope, tick_lone, tick_step, tick_upward}
use Rattle.ba_node_steps.proofs.Cases.{act_cases, ask_cases, create_cases, end_notice_cases, enrolled_cases, found_cases, join_cases}
use Rattle.ba_node_steps.proofs.Cases.{on_choose_cases, on_complete_cases, on_decide_cases, on_finish_cases, on_leave_cases, part_notice_cases}
use Rattle.ba_node_steps.proofs.Cases.{refused_cases, register_cases, tick_cases, up_acts, up_talks}
use Rattle.ba_node_steps.proofs.Places.{Stands, place_cases, scope_found, stands_part}
use Rattle.ba_scope.proofs.ScopeCases.{choose_cases, complete_cases, decide_cases, finish_cases, leave_cases, neither_left, neither_right}
use Rattle.ba_world_runs.specs.Records.{IsActed, by_act, by_tick, outcome_of}
use Rattle.ba_world_runs.proofs.Goes.{from_append, from_map, some_same}
use Rattle.ba_world_runs.proofs.Tests.{test_cases}

-- ---- tests of outcomes

abbrev pub same_outcome : Notice → Option Notice → Bool
same_outcome notice.Fail (Some notice.Fail) = true
same_outcome notice.Exit (Some notice.Exit) = true
same_outcome notice.CannotComplete (Some notice.CannotComplete) = true
same_outcome x o = false

pub outcome_is : (x : Notice) (o : Option Notice) → same_outcome x o ≡ true → o ≡ Some x
outcome_is notice.Fail (Some notice.Fail) h = refl
outcome_is notice.Exit (Some notice.Exit) h = refl
outcome_is notice.CannotComplete (Some notice.CannotComplete) h = refl
outcome_is x o h = absurd (true≢false (sym h))

pub is_same_outcome : (x : Notice) (o : Option Notice) → is_outcome x ≡ true → o ≡ Some x → same_outcome x o ≡ true
is_same_outcome x o outcome is = ap (same_outcome x) is ∙ itself x outcome
  where
    itself : (x : Notice) → is_outcome x ≡ true → same_outcome x (Some x) ≡ true
    itself notice.Fail h = refl
    itself notice.Exit h = refl
    itself notice.CannotComplete h = refl
    itself x h = absurd (true≢false (sym h))

abbrev pub outcomes : List Notice
outcomes = notice.Fail ∷ notice.Exit ∷ notice.CannotComplete ∷ []

pub outcome_passes : (test : Notice → Bool) → list_all test outcomes ≡ true → (x : Notice) → is_outcome x ≡ true → test x ≡ true
outcome_passes test h notice.Fail outcome = at_place test outcomes 0 notice.Fail refl h
outcome_passes test h notice.Exit outcome = at_place test outcomes 1 notice.Exit refl h
outcome_passes test h notice.CannotComplete outcome = at_place test outcomes 2 notice.CannotComplete refl h
outcome_passes test h x outcome = absurd (true≢false (sym outcome))

abbrev says_it : Notice → PState → Bool
says_it x s = same_outcome x (part_says s)

-- ---- what is computed

-- a row leads to a state that says an outcome only where it was said
abbrev row_said : Notice → PState → PRow → Bool
row_said x s prow.Invalid = true
row_said x s (prow.Row next prompt) = only_if (says_it x next) (says_it x) s

abbrev rows_said : Notice → Notice → Protocol → PState → Bool
rows_said m x protocol s = row_said x s (part_row protocol s m)

each_row_said : (m : Notice) → list_all (λ x. list_all (λ protocol. list_all (rows_said m x protocol) parts) protocols) outcomes ≡ true
each_row_said notice.Complete = refl
each_row_said m = refl

-- an act leads to what says its own outcome
abbrev act_said : Act → Notice → Protocol → PState → Bool
act_said a x protocol s =
    if_leads (λ next. only_if (says_it x next) (λ _. same_outcome x (outcome_of a)) next) (acted_state protocol s a)

each_act_said : (a : Act) → list_all (λ x. list_all (λ protocol. list_all (act_said a x protocol) parts) protocols) outcomes ≡ true
each_act_said act.Completed = refl
each_act_said a = refl

-- a drained scope leads its upward part to what says Fail, or says what it said
abbrev is_fail : Notice → Bool
is_fail notice.Fail = true
is_fail x = false

abbrev drained_said : Bool → Notice → Protocol → PState → Bool
drained_said failed x protocol s =
    only_if (says_it x (state_after_act protocol s (act_when_drained s failed))) (λ from. says_it x from || is_fail x) s

each_drained_said : (failed : Bool)
    → list_all (λ x. list_all (λ protocol. list_all (drained_said failed x protocol) parts) protocols) outcomes ≡ true
each_drained_said true = refl
each_drained_said false = refl

-- one state says what it says
abbrev same_said : Notice → PState → PState → Bool
same_said x s next = only_if (same_part_state s next) (λ from. only_if (says_it x next) (says_it x) from) s

each_same_said : list_all (λ x. list_all (λ next. list_all (λ s. same_said x s next) parts) parts) outcomes ≡ true
each_same_said = refl

-- an end says no outcome
abbrev end_said : Notice → CState → Bool
end_said x s = not (same_outcome x (end_tick s).1)

each_end_said : list_all (λ x. list_all (end_said x) ends) outcomes ≡ true
each_end_said = refl

-- ---- what these say

or_cases : (a b : Bool) → (a || b) ≡ true → (a ≡ true) ⊎ (b ≡ true)
or_cases true b h = inl refl
or_cases false b h = inr h

fail_is : (x : Notice) → is_fail x ≡ true → x ≡ notice.Fail
fail_is notice.Fail h = refl
fail_is x h = absurd (true≢false (sym h))

module _ (x : Notice) (outcome : is_outcome x ≡ true) where
  row_said_before : (m : Notice) (protocol : Protocol) (s next : PState) (prompt : Bool) → part_row protocol s m ≡ prow.Row next prompt
      → part_says next ≡ Some x → part_says s ≡ Some x
  row_said_before m protocol s next prompt row says =
      let table = part_passes (rows_said m x protocol) (protocol_passes (λ p. list_all (rows_said m x p) parts)
      (outcome_passes (λ y. list_all (λ p. list_all (rows_said m y p) parts) protocols) (each_row_said m) x outcome) protocol) s in
      let here : row_said x s (prow.Row next prompt) ≡ true = subst (λ (r : PRow). row_said x s r ≡ true) row table in
      outcome_is x (part_says s)
      (where_asked (says_it x next) (says_it x) s here (is_same_outcome x (part_says next) outcome says))

  act_outcome : (a : Act) (protocol : Protocol) (s next : PState) → acted_state protocol s a ≡ Some next → part_says next ≡ Some x
      → outcome_of a ≡ Some x
  act_outcome a protocol s next acts says =
      let table = part_passes (act_said a x protocol) (protocol_passes (λ p. list_all (act_said a x p) parts)
      (outcome_passes (λ y. list_all (λ p. list_all (act_said a y p) parts) protocols) (each_act_said a) x outcome) protocol) s in
      let here = led (λ (to : PState). only_if (says_it x to) (λ _. same_outcome x (outcome_of a)) to) (acted_state protocol s a) next acts
      table in
      outcome_is x (outcome_of a) (where_asked (says_it x next) (λ _. same_outcome x (outcome_of a)) next here
      (is_same_outcome x (part_says next) outcome says))

  drained_said_before : (failed : Bool) (protocol : Protocol) (s : PState)
      → part_says (state_after_act protocol s (act_when_drained s failed)) ≡ Some x → (part_says s ≡ Some x) ⊎ (x ≡ notice.Fail)
  drained_said_before failed protocol s says =
      let next : PState = state_after_act protocol s (act_when_drained s failed) in
      let table = part_passes (drained_said failed x protocol) (protocol_passes (λ p. list_all (drained_said failed x p) parts)
      (outcome_passes (λ y. list_all (λ p. list_all (drained_said failed y p) parts) protocols) (each_drained_said failed) x outcome)
      protocol) s in
      let either = where_asked (says_it x next) (λ from. says_it x from || is_fail x) s table
      (is_same_outcome x (part_says next) outcome says) in
      elim (or_cases (says_it x s) (is_fail x) either) [
        | inl said ↦ inl (outcome_is x (part_says s) said)
        | inr fail ↦ inr (fail_is x fail)
      ]

  same_said_before : (s next : PState) → same_part_state s next ≡ true → part_says next ≡ Some x → part_says s ≡ Some x
  same_said_before s next same says =
      let table = part_passes (λ from. same_said x from next) (part_passes (λ to. list_all (λ from. same_said x from to) parts)
      (outcome_passes (λ y. list_all (λ to. list_all (λ from. same_said y from to) parts) parts) each_same_said x outcome) next) s in
      let here = where_asked (same_part_state s next) (λ from. only_if (says_it x next) (says_it x) from) s table same in
      outcome_is x (part_says s)
      (where_asked (says_it x next) (says_it x) s here (is_same_outcome x (part_says next) outcome says))

  no_end_says : {A : Type 0} (s : CState) → (end_tick s).1 ≡ Some x → A
  no_end_says s says =
      let table = state_passes (end_said x) (outcome_passes (λ y. list_all (end_said y) ends) each_end_said x outcome) s in
      absurd (true≢false (sym table ∙ ap not (is_same_outcome x (end_tick s).1 outcome says)))

  -- an upward part as it ticks
  at_tick_said_before : (s : ScopeState) (up : Part) → part_says (part_at_tick s up).state ≡ Some x
      → (part_says up.state ≡ Some x) ⊎ (x ≡ notice.Fail)
  at_tick_said_before s up =
      by_test (λ (p : Part). part_says p.state ≡ Some x → (part_says up.state ≡ Some x) ⊎ (x ≡ notice.Fail)) (up.owes || up.asks) up
      (part_in_state (state_at_tick s up) up) (λ _ says. inl says)
      (λ _. by_test (λ (p : PState). part_says p ≡ Some x → (part_says up.state ≡ Some x) ⊎ (x ≡ notice.Fail)) (is_drained s)
      (state_after_act up.protocol up.state (act_when_drained up.state (any_failed s))) up.state
      (λ _. drained_said_before (any_failed s) up.protocol up.state) (λ _ says. inl says))

  -- it said so before the tick, or by it comes to say Fail
  comes_to_say : (s : ScopeState) (up : Part) → part_says (part_at_tick s up).state ≡ Some x
      → (part_says up.state ≡ Some x) ⊎ ((x ≡ notice.Fail) × (part_says up.state ≢ Some x))
  comes_to_say s up says = elim (test_cases (says_it x up.state)) [
    | inl was ↦ inl (outcome_is x (part_says up.state) was)
    | inr unsaid ↦ elim (at_tick_said_before s up says) [
      | inl before ↦ inl before
      | inr fail ↦ inr (fail, λ before. true≢false (sym (is_same_outcome x (part_says up.state) outcome before) ∙ unsaid))
    ]
  ]

at_tick_id : (s : ScopeState) (up : Part) → (part_at_tick s up).id ≡ up.id
at_tick_id s up =
    by_test (λ (p : Part). p.id ≡ up.id) (up.owes || up.asks) up (part_in_state (state_at_tick s up) up) (λ _. refl) (λ _. refl)

tick_same : (p : Part) → ((tick_of_part p).after.state ≡ p.state) × ((tick_of_part p).after.id ≡ p.id)
tick_same p = ticked_part (λ (q : Part). (q.state ≡ p.state) × (q.id ≡ p.id)) p (refl, refl) (refl, refl) (refl, refl)

-- ---- what participants say after a step

-- it said so before, or the record that is written is that of its act
abbrev pub SaidBefore : NodeState → Option Record → Id → Notice → Type 0
SaidBefore n r id x = ((p : Part) × HasPart n p × (p.id ≡ id) × (part_says p.state ≡ Some x)) ⊎ IsActed n r id x

abbrev pub SaysGo : NodeState → NodeState → Option Record → Type 0
SaysGo n m r = (q : Part) (x : Notice) → HasPart m q → is_outcome x ≡ true → part_says q.state ≡ Some x → SaidBefore n r q.id x

-- whatever this participant says it said before, or the record is that of its act
abbrev PartGoes : NodeState → Option Record → Part → Type 0
PartGoes n r q = (x : Notice) → is_outcome x ≡ true → part_says q.state ≡ Some x → SaidBefore n r q.id x

abbrev UpGoes : NodeState → Option Record → ScopeState → Type 0
UpGoes n r t = (q : Part) → t.up ≡ Some q → PartGoes n r q

none_said : {A : Type 0} (x : Notice) → ◌≡◌ {A = Option Notice} None (Some x) → A
none_said x h = absurd cc

module _ (n : NodeState) (r : Option Record) where
  pub says_stay : SaysGo n n r
  says_stay q x has outcome says = inl (q, has, refl, says)

  said : (p q : Part) → HasPart n p → q.id ≡ p.id → q.state ≡ p.state → PartGoes n r q
  said p q has id state x outcome says = inl (p, has, sym id, ap part_says (sym state) ∙ says)

  same_up : (s t : ScopeState) → Among n.scopes s → t.up ≡ s.up → UpGoes n r t
  same_up s t among same q is = said q q (inr (s, among, sym same ∙ is)) refl refl

  one_up : (t : ScopeState) (p : Part) → t.up ≡ Some p → PartGoes n r p → UpGoes n r t
  one_up t p is goes q q_is = subst (PartGoes n r) (some_same p q (sym is ∙ q_is)) goes

  scope_says : (new : ScopeState) → UpGoes n r new → SaysGo n (with_scope n new) r
  scope_says new goes q x (inl alone) outcome says = inl (q, inl alone, refl, says)
  scope_says new goes q x (inr above) outcome says =
      let from = from_map (scope_in_place_of new) n.scopes above.0 above.1 in
      by_test (λ (y : ScopeState). y ≡ above.0 → SaidBefore n r q.id x) (same_id from.0.id new.id) new from.0
      (λ here is. goes q (ap (λ (y : ScopeState). y.up) is ∙ above.2) x outcome says)
      (λ other is. inl (q, inr (from.0, from.1, ap (λ (y : ScopeState). y.up) is ∙ above.2), refl, says)) from.2

  lone_says : (new : Part) → PartGoes n r new → SaysGo n (with_lone n new) r
  lone_says new goes q x (inl alone) outcome says =
      let from = from_map (part_in_place_of new) n.parts q alone in
      by_test (λ (y : Part). y ≡ q → SaidBefore n r q.id x) (same_id from.0.id new.id) new from.0
      (λ here is. subst (PartGoes n r) is goes x outcome says)
      (λ other is. inl (q, inl (subst (λ (y : Part). Among n.parts y) is from.1), refl, says)) from.2
  lone_says new goes q x (inr above) outcome says = inl (q, inr above, refl, says)

  part_says_on : (id : Id) (place : PartPlace) (p : Part) (f : Part → Part) → Stands n id place p → PartGoes n r (f p)
      → SaysGo n (with_part_changed n place f) r
  part_says_on id nowhere p f stands goes = absurd stands
  part_says_on id (lone q) p f stands goes = lone_says (f q) (subst (λ (y : Part). PartGoes n r (f y)) (sym stands.1) goes)
  part_says_on id (upward s q) p f stands goes =
      scope_says (with_up s (f q)) (one_up (with_up s (f q)) (f q) refl (subst (λ (y : Part). PartGoes n r (f y)) (sym stands.1) goes))

  -- an end changes
  end_says : (at : EndPlace) (f : End → End) → Among n.scopes at.scope → SaysGo n (with_scope n (with_end_changed at.end.id f at.scope)) r
  end_says at f among =
      let new : ScopeState = with_end_changed at.end.id f at.scope in scope_says new (same_up at.scope new among refl)

  new_scope_says : (new : ScopeState) → UpGoes n r new → SaysGo n (with_new_scope n new) r
  new_scope_says new goes q x (inl alone) outcome says = inl (q, inl alone, refl, says)
  new_scope_says new goes q x (inr above) outcome says =
      by_place above.0 (from_append n.scopes (new ∷ []) above.0 above.1) above.2
    where
      by_place : (t : ScopeState) → Among n.scopes t ⊎ Among (new ∷ []) t → t.up ≡ Some q → SaidBefore n r q.id x
      by_place t (inl old) is = inl (q, inr (t, old, is), refl, says)
      by_place t (inr (inl same)) is = goes q (ap (λ (y : ScopeState). y.up) same ∙ is) x outcome says
      by_place t (inr (inr h)) is = absurd h

  new_part_says : (new : Part) → PartGoes n r new → SaysGo n (with_new_part n new) r
  new_part_says new goes q x (inl alone) outcome says = by_place (from_append n.parts (new ∷ []) q alone)
    where
      by_place : Among n.parts q ⊎ Among (new ∷ []) q → SaidBefore n r q.id x
      by_place (inl old) = inl (q, inl old, refl, says)
      by_place (inr (inl same)) = subst (PartGoes n r) same goes x outcome says
      by_place (inr (inr h)) = absurd h
  new_part_says new goes q x (inr above) outcome says = inl (q, inr above, refl, says)

-- a participant acts
acted_goes : (n : NodeState) (id : Id) (a : Act) (p : Part) (next : PState) → p.id ≡ id → acted_state p.protocol p.state a ≡ Some next
    → PartGoes n (Some (journal.Acted (counter id) a)) (part_in_state next p)
acted_goes n id a p next its acts x outcome says =
    inr (by_act a (act_outcome x outcome a p.protocol p.state next acts says)
    (ap (λ (i : Id). Some (journal.Acted (counter i) a)) (sym its)))

-- so does an upward part
acted_up_goes : (n : NodeState) (s : ScopeState) (up p : Part) (a : Act) (next : PState) → s.up ≡ Some up → s.up ≡ Some p
    → acted_state p.protocol p.state a ≡ Some next
    → UpGoes n (Some (journal.Acted (counter up.id) a)) (with_up s (part_in_state next p))
acted_up_goes n s up p a next is p_is acts =
    one_up n (Some (journal.Acted (counter up.id) a)) (with_up s (part_in_state next p)) (part_in_state next p) refl
    (acted_goes n up.id a p next (ap (λ (y : Part). y.id) (some_same p up (sym p_is ∙ is))) acts)

ticked_up_goes : (n : NodeState) (s : ScopeState) (p : Part) → Among n.scopes s → s.up ≡ Some p
    → UpGoes n (Some (journal.Ticked (counter p.id))) (tick_up s).after
ticked_up_goes n s p among is =
    by_option (λ (t : Tick ScopeState). UpGoes n (Some (journal.Ticked (counter p.id))) t.after) s.up (record { after = s; says = None }) _
    (λ root. same_up n _ s s among refl)
    (λ up up_is. one_up n _ (with_up s (tick_of_part (part_at_tick s up)).after) (tick_of_part (part_at_tick s up)).after refl
    (by_tick_of up up_is (some_same up p (sym up_is ∙ is))))
  where
    by_tick_of : (up : Part) → s.up ≡ Some up → up ≡ p
        → PartGoes n (Some (journal.Ticked (counter p.id))) (tick_of_part (part_at_tick s up)).after
    by_tick_of up up_is same x outcome says =
        let q : Part = part_at_tick s up in
        let ticked = tick_same q in
        let ids : (tick_of_part q).after.id ≡ up.id = ticked.1 ∙ at_tick_id s up in
        let now_says : part_says q.state ≡ Some x = ap part_says (sym ticked.0) ∙ says in
        elim (comes_to_say x outcome s up now_says) [
          | inl before ↦ inl (up, inr (s, among, up_is), sym ids, before)
          | inr fail ↦ inr (by_tick s up fail.0 among up_is (sym ids) fail.1 now_says
              (ap (λ (i : Id). Some (journal.Ticked (counter i))) (sym (ids ∙ ap (λ (y : Part). y.id) same))))
        ]

-- ---- a rule of a scope keeps the upward part

abbrev KeepsUp : {A : Type 0} → ScopeState → ScopeStep A → Type 0
KeepsUp s step = step.after.up ≡ s.up

decide_up : (s : ScopeState) (v : Verdict) → (decide s v).after.up ≡ s.up
decide_up s v = decide_cases (KeepsUp {A = Said} s) s v (λ number id. refl) (λ root atomic undecided ready. refl)

choose_up : (s : ScopeState) (id : Id) (v : Verdict) → (choose s id v).after.up ≡ s.up
choose_up s id v = choose_cases (KeepsUp {A = Said} s) s id v (λ number id. refl) (λ e next found root mixed undecided chosen. refl)

complete_up : (s : ScopeState) (id : Id) → (complete s id).after.up ≡ s.up
complete_up s id = complete_cases (KeepsUp {A = Said} s) s id (λ number id. refl) (λ e next found open_ undecided wish. refl)

expire_up : (s : ScopeState) (now : ℕ) → (expire s now).after.up ≡ s.up
expire_up s now = by_test (KeepsUp {A = Bool} s) (is_expired s now) _ (record { after = s; answer = false }) (λ _. refl) (λ _. refl)

-- ---- each step

abbrev ByInput : NodeState → NodeStep → Type 0
ByInput n step = SaysGo n step.after step.written

abbrev ByTick : NodeState → TickStep → Type 0
ByTick n step = SaysGo n step.after step.written

pub input_says : (n : NodeState) (now : ℕ) (i : Input) → ByInput n (node_step n now i)
input_says n now (input.Create expires current kind protocol) =
    create_cases (ByInput n) n now expires current kind protocol (λ r. says_stay n _)
    (λ k is root. new_scope_says n _ _ (λ q none. absurd cc))
    (λ k c is of alike dialable. new_scope_says n _ _ (λ q same x outcome says.
    none_said x (ap (λ (y : Part). part_says y.state) (some_same _ q same) ∙ says)))
input_says n now (input.Register scope protocol participant) =
    register_cases (ByInput n) n scope protocol participant (λ r. says_stay n _) (λ s known registers.
    let new : ScopeState = scope_with_end s (next_id n 1) known participant in
    scope_says n _ new (same_up n _ s new (scope_found n scope s registers.here).0 refl))
input_says n now (input.Join protocol registration) =
    join_cases (ByInput n) n protocol registration (λ r. says_stay n _)
    (λ dialable. new_part_says n _ _ (λ x outcome says. none_said x says))
input_says n now (input.Enrolled id coordinator) =
    enrolled_cases (ByInput n) n id coordinator (λ r. says_stay n _) (λ place p stands registering dialable.
    part_says_on n _ id place p (enrolled_part coordinator) stands (λ x outcome says. none_said x says))
input_says n now (input.RefusedBy id c) =
    refused_cases (ByInput n) n id c (λ r. says_stay n _) (λ place p number stands registering is.
    part_says_on n _ id place p refused_part stands (λ x outcome says. none_said x says))
input_says n now (input.Notice Coordinator id m) =
    end_notice_cases (ByInput n) n id m (λ r. says_stay n _) (λ shown prompt. says_stay n _)
    (λ at stands owes asks. end_says n _ at end_owing stands.scope)
    (λ at next prompt stands row other. end_says n _ at (end_after_notice m) stands.scope)
input_says n now (input.Notice Participant id m) =
    part_notice_cases (ByInput n) n id m (λ r. says_stay n _) (λ shown prompt. says_stay n _)
    (λ place p stands hears asks owes.
    part_says_on n _ id place p part_owing stands (said n _ p (part_owing p) (stands_part n id place p stands) refl refl))
    (λ p next prompt stands hears row other. lone_says n _ (part_in_state next p) (λ x outcome says.
    inl (p, inl stands.part, refl, row_said_before x outcome m p.protocol p.state next prompt row says)))
    (λ s p next prompt stands hears row other. scope_says n _ (with_up_moved s p next)
    (one_up n _ (with_up_moved s p next) (part_in_state next p) refl (λ x outcome says.
    inl (p, inr (s, stands.scope, stands.up), refl, row_said_before x outcome m p.protocol p.state next prompt row says))))
input_says n now (input.Act id a) =
    act_cases (ByInput n) n id a (λ r. says_stay n _)
    (λ p next stands acts. lone_says n _ (part_in_state next p) (acted_goes n id a p next stands.is acts))
input_says n now (input.Ask id) =
    ask_cases (ByInput n) n id (λ r. says_stay n _)
    (λ at stands asks. end_says n _ at end_asking stands.scope)
    (λ place p none stands hears asks.
    part_says_on n _ id place p part_asking stands (said n _ p (part_asking p) (stands_part n id place p stands) refl refl))
input_says n now (input.Decide id v) =
    on_decide_cases (ByInput n) n id v (λ r. says_stay n _)
    (λ s here ok. scope_says n _ (decide s v).after (same_up n _ s (decide s v).after (scope_found n id s here).0 (decide_up s v)))
input_says n now (input.Choose id v) =
    on_choose_cases (ByInput n) n id v (λ r. says_stay n _)
    (λ at stands ok.
    scope_says n _ (choose at.scope id v).after (same_up n _ at.scope (choose at.scope id v).after stands.scope (choose_up at.scope id v)))
input_says n now (input.Complete id) =
    on_complete_cases (ByInput n) n id (λ r. says_stay n _)
    (λ at stands ok.
    scope_says n _ (complete at.scope id).after (same_up n _ at.scope (complete at.scope id).after stands.scope (complete_up at.scope id)))
input_says n now (input.Finish id) =
    on_finish_cases (ByInput n) n id (λ r. says_stay n _) (λ s up here is ok. scope_says n _ (finish s).after
    (finish_cases (λ (step : ScopeStep Said). UpGoes n (Some (journal.Acted (counter up.id) act.Completed)) step.after) s
    (λ number shown. same_up n _ s s (scope_found n id s here).0 refl)
    (λ p next p_is acts ready. acted_up_goes n s up p act.Completed next is p_is acts)))
input_says n now (input.Leave id how) =
    on_leave_cases (ByInput n) n id how (λ r. says_stay n _) (λ s up here is ok. scope_says n _ (leave_by s how).after
    (leave_cases (λ (step : ScopeStep Said). UpGoes n (Some (journal.Acted (counter up.id) (leave_act how))) step.after) s how
    (λ number shown. same_up n _ s s (scope_found n id s here).0 refl)
    (λ p next p_is may acts ended. acted_up_goes n s up p (leave_act how) next is p_is acts)))

pub tick_goes_on : (n : NodeState) (now : ℕ) (id : Id) → ByTick n (tick_step n now id)
tick_goes_on n now id =
    tick_cases (ByTick n) n now id (λ l. says_stay n _)
    (λ s here expired.
    scope_says n _ (expire s now).after (same_up n _ s (expire s now).after (scope_found n id s here).0 (expire_up s now)))
    (λ at w no_scope stands talks. end_says n _ at (λ it. (tick_of_end it).after) stands.scope)
    (λ p no_scope no_end stands hears talks.
    let same = tick_same p in
    lone_says n _ (tick_of_part p).after (said n _ p (tick_of_part p).after (inl stands.part) same.1 same.0))
    (λ s p w no_scope no_end stands hears moves. scope_says n _ (tick_up s).after (ticked_up_goes n s p stands.scope stands.up))

-- ---- the letter of a tick

abbrev pub LetterSays : NodeState → TickStep → Type 0
LetterSays n step =
    (l : Letter) (x : Notice) → step.letter ≡ Some l → l.message ≡ message.Notice x → is_outcome x ≡ true
    → (p : Part) × HasPart n p × (l.number ≡ message_number (notice_code x) p.id)
    × ((part_says p.state ≡ Some x) ⊎ IsActed n step.written p.id x)

-- what a participant's letter says
part_letter_is : (p : Part) (says : Option Notice) (l : Letter) (x : Notice) → part_letter p says ≡ Some l → l.message ≡ message.Notice x
    → (says ≡ Some x) × (l.number ≡ message_number (notice_code x) p.id)
part_letter_is p None l x is told = absurd cc
part_letter_is p (Some m) l x is told = by_coordinator p.coordinator is
  where
    by_coordinator : (o : Option Epr) → option_map (λ to. notice_letter p.id to m) o ≡ Some l
        → (◌≡◌ {A = Option Notice} (Some m) (Some x)) × (l.number ≡ message_number (notice_code x) p.id)
    by_coordinator None h = absurd cc
    by_coordinator (Some to) h =
        let one : notice_letter p.id to m ≡ l = cc in
        let messages : message.Notice m ≡ message.Notice x = ap (λ (y : Letter). y.message) one ∙ told in
        let same : m ≡ x = cc in
        (ap Some same, sym (ap (λ (y : Letter). y.number) one) ∙ ap (λ (y : Notice). message_number (notice_code y) p.id) same)

end_letter_is : (e : End) (says : Option Notice) (l : Letter) (x : Notice) → end_letter e says ≡ Some l → l.message ≡ message.Notice x
    → says ≡ Some x
end_letter_is e None l x is told = absurd cc
end_letter_is e (Some m) l x is told =
    let one : notice_letter e.id e.participant m ≡ l = cc in
    let messages : message.Notice m ≡ message.Notice x = ap (λ (y : Letter). y.message) one ∙ told in
    let same : m ≡ x = cc in
    ap Some same

-- Status and GetStatus are no outcomes
part_tick_says : (p : Part) (x : Notice) → is_outcome x ≡ true → (tick_of_part p).says ≡ Some x → part_says p.state ≡ Some x
part_tick_says p x outcome =
    by_test (λ (t : Tick Part). t.says ≡ Some x → part_says p.state ≡ Some x) p.owes _ _ (λ _ says. other _ refl says)
    (λ _. by_test (λ (t : Tick Part). t.says ≡ Some x → part_says p.state ≡ Some x) p.asks
    (record { after = record p { asks = false }; says = Some notice.GetStatus })
    (record { after = p; says = part_says p.state }) (λ _ says. other _ refl says) (λ _ says. says))
  where
    other : {A : Type 0} (m : Notice) → is_outcome m ≡ false → ◌≡◌ {A = Option Notice} (Some m) (Some x) → A
    other m isnt says = let same : m ≡ x = cc in absurd (true≢false (sym outcome ∙ ap is_outcome (sym same) ∙ isnt))

no_end_tick_says : {A : Type 0} (e : End) (x : Notice) → is_outcome x ≡ true → (tick_of_end e).says ≡ Some x → A
no_end_tick_says {A} e x outcome =
    by_test (λ (t : Tick End). t.says ≡ Some x → A) e.owes _ _ (λ _ says. other _ refl says)
    (λ _. by_test (λ (t : Tick End). t.says ≡ Some x → A) e.asks
    (record { after = record e { asks = false }; says = Some notice.GetStatus })
    (record { after = end_in_state (end_tick e.state).0 e; says = (end_tick e.state).1 }) (λ _ says. other _ refl says)
    (λ _ says. no_end_says x outcome e.state says))
  where
    other : (m : Notice) → is_outcome m ≡ false → ◌≡◌ {A = Option Notice} (Some m) (Some x) → A
    other m isnt says = let same : m ≡ x = cc in absurd (true≢false (sym outcome ∙ ap is_outcome (sym same) ∙ isnt))

no_register : {A : Type 0} (n : NodeState) (p : Part) (l : Letter) (x : Notice)
    → ◌≡◌ {A = Option Letter} (Some (register_letter n p)) (Some l) → l.message ≡ message.Notice x → A
no_register n p l x is told =
    let one : register_letter n p ≡ l = cc in
    let messages = ap (λ (y : Letter). y.message) one ∙ told in
    absurd cc

-- what the letter of a participant says it said before, or the step keeps the record of its act
abbrev SaysSo : NodeState → Option Record → Letter → Notice → Type 0
SaysSo n r l x =
    (p : Part) × HasPart n p × (l.number ≡ message_number (notice_code x) p.id) × ((part_says p.state ≡ Some x) ⊎ IsActed n r p.id x)

end_tick_letter : (n : NodeState) (s : ScopeState) (e : End) → LetterSays n (tick_at_end n s e)
end_tick_letter n s e =
    by_test (LetterSays n) ((e.owes || e.asks) || not (same_end_state e.state (tick_of_end e).after.state)) _ _
    (λ _ l x is told outcome. no_end_tick_says e x outcome (end_letter_is e (tick_of_end e).says l x is told))
    (λ _ l x is told outcome. no_end_tick_says e x outcome (end_letter_is e (tick_of_end e).says l x is told))

scope_tick_letter : (n : NodeState) (s : ScopeState) (now : ℕ) → LetterSays n (tick_at_scope n s now)
scope_tick_letter n s now =
    by_test (LetterSays n) (expire s now).answer _ _ (λ _ l x is told outcome. absurd cc) (λ _ l x is told outcome. absurd cc)

spoken : (n : NodeState) (r : Option Record) (p : Part) (says : Option Notice) → HasPart n p
    → ((x : Notice) → is_outcome x ≡ true → says ≡ Some x → (part_says p.state ≡ Some x) ⊎ IsActed n r p.id x)
    → (l : Letter) (x : Notice) → part_letter p says ≡ Some l → l.message ≡ message.Notice x → is_outcome x ≡ true → SaysSo n r l x
spoken n r p says has before l x is told outcome =
    let its = part_letter_is p says l x is told in (p, has, its.1, before x outcome its.0)

lone_tick_letter : (n : NodeState) (p : Part) → Among n.parts p → LetterSays n (tick_at_part n (lone p))
lone_tick_letter n p of =
    by_test (LetterSays n) (is_registering_state p.state) (letter_step n (Some (register_letter n p))) (tick_lone n p)
    (λ _ l x is told outcome. no_register n p l x is told)
    (λ _. by_test (LetterSays n) (p.owes || p.asks) _ _
    (λ _. spoken n _ p (tick_of_part p).says (inl of) (λ x outcome says. inl (part_tick_says p x outcome says)))
    (λ _. spoken n _ p (part_says p.state) (inl of) (λ x outcome says. inl says)))

up_says : (s : ScopeState) (p : Part) → s.up ≡ Some p → (tick_up s).says ≡ (tick_of_part (part_at_tick s p)).says
up_says s p is =
    by_option (λ (t : Tick ScopeState). t.says ≡ (tick_of_part (part_at_tick s p)).says) s.up (record { after = s; says = None }) _
    (λ root. no_up (sym root ∙ is))
    (λ up up_is. ap (λ (y : Part). (tick_of_part (part_at_tick s y)).says) (some_same up p (sym up_is ∙ is)))
  where
    no_up : {A : Type 0} → ◌≡◌ {A = Option Part} None (Some p) → A
    no_up h = absurd cc

-- a participant that neither talks nor acts is in the state that it would act to
stays_there : (a b : Bool) → a ≡ false → (not a && not b) ≡ false → b ≡ true
stays_there true b talks acts = absurd (true≢false talks)
stays_there false true talks acts = refl
stays_there false false talks acts = absurd (true≢false acts)

module _ (n : NodeState) (s : ScopeState) (p : Part) (among : Among n.scopes s) (is : s.up ≡ Some p) where
  moved_up_says : (x : Notice) → is_outcome x ≡ true → (tick_up s).says ≡ Some x
      → (part_says p.state ≡ Some x) ⊎ IsActed n (Some (journal.Ticked (counter p.id))) p.id x
  moved_up_says x outcome says =
      let now_says = part_tick_says (part_at_tick s p) x outcome (sym (up_says s p is) ∙ says) in
      elim (comes_to_say x outcome s p now_says) [
        | inl before ↦ inl before
        | inr fail ↦ inr (by_tick s p fail.0 among is refl fail.1 now_says refl)
      ]

  still_up_says : (up_talks p || up_acts s p) ≡ false → (x : Notice) → is_outcome x ≡ true → (tick_up s).says ≡ Some x
      → part_says p.state ≡ Some x
  still_up_says still x outcome says =
      let same = stays_there (up_talks p) (same_part_state p.state (state_at_tick s p))
      (neither_left (up_talks p) (up_acts s p) still) (neither_right (up_talks p) (up_acts s p) still) in
      by_test (λ (y : Part). part_says y.state ≡ Some x → part_says p.state ≡ Some x) (p.owes || p.asks) p
      (part_in_state (state_at_tick s p) p) (λ _ before. before)
      (λ _ then_. same_said_before x outcome p.state (state_at_tick s p) same then_)
      (part_tick_says (part_at_tick s p) x outcome (sym (up_says s p is) ∙ says))

  up_tick_letter : LetterSays n (tick_at_part n (upward s p))
  up_tick_letter =
      by_test (LetterSays n) (is_registering_state p.state) (letter_step n (Some (register_letter n p))) (tick_upward n s p)
      (λ _ l x told says outcome. no_register n p l x told says)
      (λ _. by_test (LetterSays n) (up_talks p || up_acts s p) _ (letter_step n (part_letter p (tick_up s).says))
      (λ _. spoken n _ p (tick_up s).says (inr (s, among, is)) moved_up_says)
      (λ still. spoken n _ p (tick_up s).says (inr (s, among, is)) (λ x outcome says. inl (still_up_says still x outcome says))))

pub tick_letter_says : (n : NodeState) (now : ℕ) (id : Id) → LetterSays n (tick_step n now id)
tick_letter_says n now id =
    found_cases (LetterSays n) (scope_with_id n id) _ _
    (found_cases (LetterSays n) (end_place n id) _ _
    (place_cases (λ (place : PartPlace). LetterSays n (tick_at_part n place)) n id (λ none l x is told outcome. absurd cc)
    (λ p stands. lone_tick_letter n p stands.part) (λ s p stands. up_tick_letter n s p stands.scope stands.up))
    (λ at found. end_tick_letter n at.scope at.end))
    (λ s here. scope_tick_letter n s now)
