-- Each step keeps a node fit; for the law steps_keep_a_node_fit.
use Rattle.std.proofs.Common.{◌≡◌, inl, inr, ℕ, ◌+◌, ◌≤◌, Bool, true, false, not, ◌&&◌, ◌||◌, List, [], ◌∷◌, ◌++◌, map, Option, None, Some}
use Rattle.std.proofs.Common.{refl, sym, ap, ◌∙◌, subst, arith, true≢false, append_assoc}
use Rattle.std.specs.List.{IsDistinct, list_all, list_any}
use Rattle.std.specs.Option.{option_map}
use Rattle.std.proofs.lemmas.Bool.{and_from}
use Rattle.ba_core.specs.PartRows.{part_row, acted_state, is_part_state}
use Rattle.ba_core.specs.declared.identifiers.Id.{Id}
use Rattle.ba_core.specs.declared.notices.Act.{Act}
use Rattle.ba_core.specs.declared.notices.Notice.{Notice}
use Rattle.ba_core.specs.declared.protocols.Protocol.{Protocol}
use Rattle.ba_core.specs.declared.protocols.Side.TheVariants.{Coordinator, Participant}
use Rattle.ba_core.specs.declared.rows.PRow.{PRow}
use Rattle.ba_core.specs.declared.rows.PRow.TheVariants as prow
use Rattle.ba_core.specs.declared.states.How.TheVariants.{Refused}
use Rattle.ba_core.specs.declared.states.PState.{PState}
use Rattle.ba_core.specs.declared.states.PState.TheVariants as part
use Rattle.ba_link.proofs.Everywhere.{protocol_passes, part_passes, parts, where_asked}
use Rattle.ba_message.specs.declared.endpoints.Epr.{Epr}
use Rattle.ba_record.specs.Coding.{IsDeadline}
use Rattle.ba_scope.proofs.Calls.{choose_fits, complete_fits, decide_fits, enrol_fits, enrolled_fits, expire_fits, finish_fits, leave_fits}
use Rattle.ba_scope.proofs.Calls.{led, new_scope_fits, refused_fits, registering_is, tick_end_fits, tick_up_fits, ticked_part}
use Rattle.ba_scope.proofs.Kept.{changed_fits, end_received_fits, own_part_state, part_above, part_in_fits, same_up_fits, up_received_fits}
use Rattle.ba_scope.proofs.Lists.{some_branch}
use Rattle.ba_scope.proofs.Tables.{acts_fit, each_act_fits, each_part_row_fits, if_leads, part_row_fits, part_rows_fit, same_truth}
use Rattle.ba_scope_ends.specs.Parts.{part_fits, enrolled_part, part_asking, part_in_state, part_owing, refused_part, state_after_row}
use Rattle.ba_scope_ends.specs.Parts.{tick_of_part, has_no_coordinator, is_registering}
use Rattle.ba_scope.specs.Fits.{ScopeFits}
use Rattle.ba_scope_ends.specs.Ends.{Tick, end_after_notice, end_asking, end_owing, new_end, tick_of_end, end_with_id, same_id}
use Rattle.ba_scope.specs.Rules.{choose, complete, decide, expire, finish, leave_by, new_scope, scope_with_end, tick_end, tick_up}
use Rattle.ba_scope.specs.Rules.{with_end_changed, with_up, with_up_moved}
use Rattle.ba_scope.specs.Scope.{ScopeState, has_id, is_id_above, is_own_id}
use Rattle.ba_scope_ends.specs.declared.ends.End.{End}
use Rattle.ba_scope_ends.specs.declared.parts.Part.{Part}
use Rattle.ba_node_steps.specs.declared.inputs.Input.{Input}
use Rattle.ba_node_steps.specs.declared.inputs.Input.TheVariants as input
use Rattle.ba_node_steps.specs.Fits.{HasSpareCounters, NodeFits}
use Rattle.ba_node_steps.specs.Lawful.{Event, given, ticked, formatted, change}
use Rattle.ba_node_steps.specs.Node.{Among, EndPlace, NodeState, PartPlace, nowhere, lone, upward, ids, last, new_node, next_id, scope_ids}
use Rattle.ba_node_steps.specs.Node.{with_lone, with_part_changed, with_scope}
use Rattle.ba_node_steps.specs.Steps.{NodeStep, deadline_after, is_registering_state, new_part, node_step}
use Rattle.ba_node_steps.specs.Ticks.{TickStep, tick_step}
use Rattle.ba_node_steps.proofs.Cases.{act_cases, ask_cases, create_cases, end_notice_cases, enrolled_cases, join_cases, on_choose_cases}
use Rattle.ba_node_steps.proofs.Cases.{on_complete_cases, on_decide_cases, on_finish_cases, on_leave_cases, part_notice_cases, refused_cases}
use Rattle.ba_node_steps.proofs.Cases.{register_cases, tick_cases, Registers}
use Rattle.ba_node_steps.proofs.Members.{all_among, among_left, number_is_same, other_by_number}
use Rattle.ba_node_steps.proofs.NodeKept.{Follows, fresh_of, lone_changed_fits, new_child_fits, new_end_fits, new_part_fits, new_root_fits}
use Rattle.ba_node_steps.proofs.NodeKept.{next_is, scope_changed_fits, stays}
use Rattle.ba_node_steps.proofs.Objects.{end_owned, ids_in_scopes, in_scopes, lone_fits, lone_ids, scope_fits, up_ids, up_owned}
use Rattle.ba_node_steps.proofs.Own.{SameOwn, asking_who, choose_own, complete_own, decide_own, end_changed, expire_own, finish_own, leave_own}
use Rattle.ba_node_steps.proofs.Own.{moved_own, notice_who, owing_who, tick_up_own, tick_who, up_changed}
use Rattle.ba_node_steps.proofs.Places.{EndStands, Stands, scope_found}

abbrev Kept : NodeState → NodeStep → Type 0
Kept n step = Follows n step.after

abbrev KeptByTick : NodeState → TickStep → Type 0
KeptByTick n step = Follows n step.after

-- ---- a lone participant in its next state

pub row_fits : (p : Part) (m : Notice) (next : PState) (prompt : Bool) → part_fits p ≡ true
    → part_row p.protocol p.state m ≡ prow.Row next prompt
    → part_fits (part_in_state next p) ≡ true
row_fits p m next prompt fits is =
    let of_protocol = protocol_passes (λ protocol. list_all (part_rows_fit m protocol) parts) (each_part_row_fits m) p.protocol in
    let fit = where_asked (is_part_state p.protocol p.state)
    (λ before. part_row_fits p.protocol before (part_row p.protocol before m)) p.state
    (part_passes (part_rows_fit m p.protocol) of_protocol p.state) (own_part_state p fits) in
    part_in_fits p next fits (subst (λ (row : PRow). part_row_fits p.protocol p.state row ≡ true) is fit)

pub act_fits : (p : Part) (a : Act) (next : PState) → part_fits p ≡ true → acted_state p.protocol p.state a ≡ Some next
    → part_fits (part_in_state next p) ≡ true
act_fits p a next fits is =
    let test : PState → PState
    → Bool = λ before to. is_part_state p.protocol to && same_truth (has_no_coordinator before) (has_no_coordinator to) in
    let of_protocol = protocol_passes (λ protocol. list_all (acts_fit a protocol) parts) (each_act_fits a) p.protocol in
    let fit = where_asked (is_part_state p.protocol p.state) (λ before. if_leads (test before) (acted_state p.protocol before a)) p.state
    (part_passes (acts_fit a p.protocol) of_protocol p.state) (own_part_state p fits) in
    part_in_fits p next fits (led (test p.state) (acted_state p.protocol p.state a) next is fit)

-- ---- a participant changed where it stands

-- what the change keeps of a lone participant, and of one above a scope
record Keeps (p : Part) (change : Part → Part) : Type 0 where
  id : (change p).id ≡ p.id
  alone : part_fits p ≡ true → part_fits (change p) ≡ true
  above : (s : ScopeState) → s.up ≡ Some p → ScopeFits s → ScopeFits (with_up s (change p))

part_changed_fits : (n : NodeState) (id : Id) (place : PartPlace) (p : Part) (change : Part → Part) → Stands n id place p → Keeps p change
    → NodeFits n → Follows n (with_part_changed n place change)
part_changed_fits n id nowhere p change stands keeps fits = absurd stands
part_changed_fits n id (lone q) p change stands keeps fits =
    let among : Among n.parts p = subst (λ (x : Part). Among n.parts x) stands.1 stands.0.part in
    subst (λ (x : Part). Follows n (with_lone n (change x))) (sym stands.1)
    (lone_changed_fits n (change p) (keeps.alone (lone_fits n p fits among)) fits)
part_changed_fits n id (upward s q) p change stands keeps fits =
    let among : Among n.scopes s = stands.0.scope in
    let is_up : s.up ≡ Some p = stands.0.up ∙ ap Some stands.1 in
    subst (λ (x : Part). Follows n (with_scope n (with_up s (change x)))) (sym stands.1)
    (scope_changed_fits n s (with_up s (change p)) among (up_changed s p (change p) is_up keeps.id)
    (keeps.above s is_up (scope_fits n s fits among)) fits)

owing_keeps : (p : Part) → Keeps p part_owing
owing_keeps p =
    record { id = refl; alone = λ fit. fit; above = λ s is fit. same_up_fits s p (part_owing p) is fit refl refl (part_above s p is fit) }

asking_keeps : (p : Part) → Keeps p part_asking
asking_keeps p =
    record { id = refl; alone = λ fit. fit; above = λ s is fit. same_up_fits s p (part_asking p) is fit refl refl (part_above s p is fit) }

registers : (s : ScopeState) (p : Part) → s.up ≡ Some p → is_registering_state p.state ≡ true → is_registering s.up ≡ true
registers s p is registering = subst (λ (u : Option Part). is_registering u ≡ true) (sym is) registering

enrolled_keeps : (p : Part) (coordinator : Epr) → is_registering_state p.state ≡ true → Keeps p (enrolled_part coordinator)
enrolled_keeps p coordinator registering = record {
  id = refl;
  alone = λ fit. and_from (is_part_state p.protocol part.Active) true
      (protocol_passes (λ protocol. is_part_state protocol part.Active) refl p.protocol) refl;
  above = λ s is fit. subst (λ (u : Option Part). ScopeFits (record s { up = option_map (enrolled_part coordinator) u })) is
      (enrolled_fits s coordinator (registers s p is registering) fit);
}

refused_keeps : (p : Part) → is_registering_state p.state ≡ true → Keeps p refused_part
refused_keeps p registering = record {
  id = refl;
  alone = λ fit. part_in_fits p (part.Ended Refused) fit (and_from (is_part_state p.protocol (part.Ended Refused))
      (same_truth (has_no_coordinator p.state) (has_no_coordinator (part.Ended Refused)))
      (protocol_passes (λ protocol. is_part_state protocol (part.Ended Refused)) refl p.protocol)
      (subst (λ (q : PState). same_truth (has_no_coordinator q) (has_no_coordinator (part.Ended Refused)) ≡ true)
      (sym (registering_is p.state registering)) refl));
  above = λ s is fit. subst (λ (u : Option Part). ScopeFits (record s { up = option_map refused_part u })) is
      (refused_fits s (registers s p is registering) fit);
}

-- ---- a new end

has_no_id : (s : ScopeState) (id : Id) → ((y : Id) → Among (scope_ids s) y → same_id y id ≡ false) → not (has_id s id) ≡ true
has_no_id s id other =
    neither (is_own_id s id) (list_any (λ e. same_id e.id id) s.ends)
    (either_false (same_id s.id id) (is_id_above s.up id) (other s.id (inl refl)) (by_up s.up refl))
    (by_ends s.ends (λ e among. other e.id (end_owned s e among)))
  where
    either_false : (a b : Bool) → a ≡ false → b ≡ false → (a || b) ≡ false
    either_false true b h k = absurd (true≢false h)
    either_false false b h k = k

    neither : (a b : Bool) → a ≡ false → b ≡ false → not (a || b) ≡ true
    neither true b h k = absurd (true≢false h)
    neither false true h k = absurd (true≢false k)
    neither false false h k = refl

    by_up : (o : Option Part) → s.up ≡ o → is_id_above o id ≡ false
    by_up None is = refl
    by_up (Some p) is = other p.id (up_owned s p is)

    by_head : (a b : Bool) → a ≡ false → b ≡ false → (a || b) ≡ false
    by_head true b h k = absurd (true≢false h)
    by_head false b h k = k

    by_ends : (es : List End) → ((e : End) → Among es e → same_id e.id id ≡ false) → list_any (λ e. same_id e.id id) es ≡ false
    by_ends [] h = refl
    by_ends (e ∷ es) h =
        by_head (same_id e.id id) (list_any (λ x. same_id x.id id) es) (h e (inl refl)) (by_ends es (λ x later. h x (inr later)))

end_enrolled_fits : (n : NodeState) (scope : Id) (protocol : Option Protocol) (participant : Epr) (s : ScopeState) (known : Protocol)
    → Registers n scope protocol participant s known → HasSpareCounters n → NodeFits n
    → Follows n (with_scope n (scope_with_end s (next_id n 1) known participant))
end_enrolled_fits n scope protocol participant s known registers room fits =
    let id : Id = next_id n 1 in
    let among : Among n.scopes s = (scope_found n scope s registers.here).0 in
    let other : (y : Id) → Among (scope_ids s) y → same_id y id ≡ false =
    (λ y owned. other_by_number y id (λ same.
    true≢false
    (sym (number_is_same id y (sym same))
    ∙ all_among (λ z. same_id id z ≡ false) (ids n) y (fresh_of n.number (ids n) id (next_is n room) fits.here)
    (among_left (ids_in_scopes n) (lone_ids n) y (in_scopes n s y among owned))))) in
    let fit = enrol_fits s id known participant registers.new (has_no_id s id other) registers.taken (scope_fits n s fits among) in
    new_end_fits n s (scope_with_end s id known participant) among refl refl (grown s.ends) fit room fits
  where
    grown : (es : List End) → s.id ∷ (up_ids s ++ map (λ (e : End). e.id) (es ++ new_end (next_id n 1) known participant ∷ []))
        ≡ (s.id ∷ (up_ids s ++ map (λ (e : End). e.id) es)) ++ next_id n 1 ∷ []
    grown es =
        ap (λ xs. s.id ∷ (up_ids s ++ xs)) (pushed es)
        ∙ ap (λ xs. s.id ∷ xs) (sym (append_assoc (up_ids s) (map (λ (e : End). e.id) es) (next_id n 1 ∷ [])))
      where
        pushed : (es : List End)
            → map (λ (e : End). e.id) (es ++ new_end (next_id n 1) known participant ∷ []) ≡ map (λ (e : End). e.id) es ++ next_id n 1 ∷ []
        pushed [] = refl
        pushed (e ∷ es) = ap (λ xs. e.id ∷ xs) (pushed es)

-- ---- ends and scopes

end_change_fits : (n : NodeState) (id : Id) (at : EndPlace) (change : End → End) → EndStands n id at
    → SameOwn at.scope (with_end_changed at.end.id change at.scope)
    → (ScopeFits at.scope → ScopeFits (with_end_changed at.end.id change at.scope)) → NodeFits n
    → Follows n (with_scope n (with_end_changed at.end.id change at.scope))
end_change_fits n id at change stands same fit fits =
    scope_changed_fits n at.scope (with_end_changed at.end.id change at.scope) stands.scope same
    (fit (scope_fits n at.scope fits stands.scope)) fits

end_tick_fits : (n : NodeState) (id : Id) (at : EndPlace) → EndStands n id at → ScopeFits at.scope
    → ScopeFits (with_end_changed at.end.id (λ it. (tick_of_end it).after) at.scope)
end_tick_fits n id at stands fit =
    let f : End → End = λ it. (tick_of_end it).after in
    let here : tick_end at.scope id ≡ record { after = with_end_changed id f at.scope; says = (tick_of_end at.end).says } =
    some_branch (end_with_id at.scope.ends id) (record { after = at.scope; says = None })
    (λ e. record { after = with_end_changed id f at.scope; says = (tick_of_end e).says }) at.end stands.found in
    subst (λ (x : Id). ScopeFits (with_end_changed x f at.scope)) (sym stands.is)
    (subst (λ (t : Tick ScopeState). ScopeFits t.after) here (tick_end_fits at.scope id fit))

up_row_fits : (s : ScopeState) (p : Part) (m : Notice) (next : PState) (prompt : Bool) → s.up ≡ Some p
    → part_row p.protocol p.state m ≡ prow.Row next prompt
    → ScopeFits s → ScopeFits (with_up_moved s p next)
up_row_fits s p m next prompt is_up is fit =
    subst (λ (row : PRow). ScopeFits (with_up_moved s p (state_after_row p.state row))) is (up_received_fits s p m is_up fit)

-- a deadline is a moment
pub new_deadline : (now : ℕ) (expires : Option ℕ) → IsDeadline (deadline_after now expires)
new_deadline now None = tt
new_deadline now (Some ms) = omega arith

-- ---- each input

input_fits : (n : NodeState) (now : ℕ) (i : Input) → HasSpareCounters n → NodeFits n → Kept n (node_step n now i)
input_fits n now (input.Create expires current kind protocol) room fits =
    create_cases (Kept n) n now expires current kind protocol (λ r. stays n fits)
    (λ k is root.
    let s : ScopeState = new_scope (next_id n 1) k (deadline_after now expires) None in
    new_root_fits n s refl refl refl (new_scope_fits s.id k s.deadline None (λ p none. absurd cc) refl)
    (new_deadline now expires) room fits)
    (λ k c is of alike dialable.
    let p : Part = new_part (next_id n 2) protocol c.registration in
    let s : ScopeState = new_scope (next_id n 1) k (deadline_after now expires) (Some p) in
    let p_fits : part_fits p ≡ true = and_from (is_part_state protocol part.Registering) true
    (protocol_passes (λ q. is_part_state q part.Registering) refl protocol) refl in
    new_child_fits n s p refl refl refl refl
    (new_scope_fits s.id k s.deadline (Some p) (λ q same. subst (λ (u : Option Part). is_registering u ≡ true) same refl) p_fits)
    (new_deadline now expires) room fits)
input_fits n now (input.Register scope protocol participant) room fits =
    register_cases (Kept n) n scope protocol participant (λ r. stays n fits)
    (λ s known registers. end_enrolled_fits n scope protocol participant s known registers room fits)
input_fits n now (input.Join protocol registration) room fits =
    join_cases (Kept n) n protocol registration (λ r. stays n fits) (λ dialable.
    let p_fits : part_fits (new_part (next_id n 1) protocol registration) ≡ true = and_from (is_part_state protocol part.Registering) true
    (protocol_passes (λ q. is_part_state q part.Registering) refl protocol) refl in
    new_part_fits n (new_part (next_id n 1) protocol registration) refl p_fits room fits)
input_fits n now (input.Enrolled id coordinator) room fits =
    enrolled_cases (Kept n) n id coordinator (λ r. stays n fits)
    (λ place p stands registering dialable. part_changed_fits n id place p (enrolled_part coordinator) stands
    (enrolled_keeps p coordinator registering) fits)
input_fits n now (input.RefusedBy id c) room fits =
    refused_cases (Kept n) n id c (λ r. stays n fits)
    (λ place p number stands registering is. part_changed_fits n id place p refused_part stands (refused_keeps p registering) fits)
input_fits n now (input.Notice Coordinator id m) room fits =
    end_notice_cases (Kept n) n id m (λ r. stays n fits) (λ shown prompt. stays n fits)
    (λ at stands owes asks. end_change_fits n id at end_owing stands (end_changed at.scope at.end.id end_owing owing_who).own
    (λ fit. changed_fits at.scope at.end.id end_owing owing_who (λ e here h. h) fit) fits)
    (λ at next prompt stands row other. end_change_fits n id at (end_after_notice m) stands
    (end_changed at.scope at.end.id (end_after_notice m) (notice_who m)).own
    (λ fit. end_received_fits at.scope at.end.id m fit) fits)
input_fits n now (input.Notice Participant id m) room fits =
    part_notice_cases (Kept n) n id m (λ r. stays n fits) (λ shown prompt. stays n fits)
    (λ place p stands hears asks owes. part_changed_fits n id place p part_owing stands (owing_keeps p) fits)
    (λ p next prompt stands hears row other. lone_changed_fits n (part_in_state next p)
    (row_fits p m next prompt (lone_fits n p fits stands.part) row) fits)
    (λ s p next prompt stands hears row other. scope_changed_fits n s (with_up_moved s p next) stands.scope
    (moved_own s p next stands.up).own
    (up_row_fits s p m next prompt stands.up row (scope_fits n s fits stands.scope)) fits)
input_fits n now (input.Act id a) room fits =
    act_cases (Kept n) n id a (λ r. stays n fits)
    (λ p next stands acts. lone_changed_fits n (part_in_state next p) (act_fits p a next (lone_fits n p fits stands.part) acts) fits)
input_fits n now (input.Ask id) room fits =
    ask_cases (Kept n) n id (λ r. stays n fits)
    (λ at stands asks. end_change_fits n id at end_asking stands (end_changed at.scope at.end.id end_asking asking_who).own
    (λ fit. changed_fits at.scope at.end.id end_asking asking_who (λ e here h. h) fit) fits)
    (λ place p none stands hears asks. part_changed_fits n id place p part_asking stands (asking_keeps p) fits)
input_fits n now (input.Decide id v) room fits =
    on_decide_cases (Kept n) n id v (λ r. stays n fits) (λ s here ok.
    let among = (scope_found n id s here).0 in
    scope_changed_fits n s (decide s v).after among (decide_own s v).own (decide_fits s v (scope_fits n s fits among)) fits)
input_fits n now (input.Choose id v) room fits =
    on_choose_cases (Kept n) n id v (λ r. stays n fits) (λ at stands ok.
    scope_changed_fits n at.scope (choose at.scope id v).after stands.scope (choose_own at.scope id v).own
    (choose_fits at.scope id v (scope_fits n at.scope fits stands.scope)) fits)
input_fits n now (input.Complete id) room fits =
    on_complete_cases (Kept n) n id (λ r. stays n fits) (λ at stands ok.
    scope_changed_fits n at.scope (complete at.scope id).after stands.scope (complete_own at.scope id).own
    (complete_fits at.scope id (scope_fits n at.scope fits stands.scope)) fits)
input_fits n now (input.Finish id) room fits =
    on_finish_cases (Kept n) n id (λ r. stays n fits) (λ s up here is ok.
    let among = (scope_found n id s here).0 in
    scope_changed_fits n s (finish s).after among (finish_own s).own (finish_fits s (scope_fits n s fits among)) fits)
input_fits n now (input.Leave id how) room fits =
    on_leave_cases (Kept n) n id how (λ r. stays n fits) (λ s up here is ok.
    let among = (scope_found n id s here).0 in
    scope_changed_fits n s (leave_by s how).after among (leave_own s how).own (leave_fits s how (scope_fits n s fits among)) fits)

-- ---- each tick

tick_fits : (n : NodeState) (now : ℕ) (id : Id) → NodeFits n → KeptByTick n (tick_step n now id)
tick_fits n now id fits =
    tick_cases (KeptByTick n) n now id (λ l. stays n fits)
    (λ s here expired.
    let among = (scope_found n id s here).0 in
    scope_changed_fits n s (expire s now).after among (expire_own s now).own (expire_fits s now (scope_fits n s fits among)) fits)
    (λ at w no_scope stands ticks. end_change_fits n id at (λ it. (tick_of_end it).after) stands
    (end_changed at.scope at.end.id (λ it. (tick_of_end it).after) tick_who).own (end_tick_fits n id at stands) fits)
    (λ p no_scope no_end stands hears talks.
    let fit = lone_fits n p fits stands.part in
    lone_changed_fits n (tick_of_part p).after (ticked_part (λ (q : Part). part_fits q ≡ true) p fit fit fit) fits)
    (λ s p w no_scope no_end stands hears moves. scope_changed_fits n s (tick_up s).after stands.scope (tick_up_own s).own
    (tick_up_fits s (scope_fits n s fits stands.scope)) fits)

pub step_follows : (n : NodeState) (e : Event) → HasSpareCounters n → NodeFits n → Follows n (change n e).after
step_follows n (given now i) room fits = input_fits n now i room fits
step_follows n (ticked now id) room fits = tick_fits n now id fits
step_follows n formatted room fits = stays n fits

pub step_fits : (n : NodeState) (e : Event) → HasSpareCounters n → NodeFits n → NodeFits (change n e).after
step_fits n e room fits = let next = step_follows n e room fits in next.fits

pub step_makes_few : (n : NodeState) (e : Event) → HasSpareCounters n → NodeFits n → last (change n e).after ≤ last n + 2
step_makes_few n e room fits = let next = step_follows n e room fits in next.few

-- a node without objects
pub new_fits : (number : ℕ) (base : List ℕ) → NodeFits (new_node number base)
unfolding IsDistinct
new_fits number base = record { here = tt; apart = tt; whole = refl; scopes = tt; deadlines = tt; parts = tt }
