-- A step that keeps a record changes the node; for the law steps_without_a_record_change_nothing.
use Rattle.std.proofs.Common.{◌≡◌, ℕ, Bool, true, false, not, ◌&&◌, ◌||◌, List, [], ◌∷◌, ◌++◌, map, nat_eq, Option, None, Some, is_none}
use Rattle.std.proofs.Common.{refl, sym, ap, ◌∙◌, subst, arith, true≢false, if◌then◌else◌}
use Rattle.std.specs.List.{list_all}
use Rattle.std.proofs.lemmas.Bool.{and_parts}
use Rattle.std.proofs.lemmas.Bool.Decides.{nat_tests}
use Rattle.ba_core.specs.EndRows.{completed_state, end_row, end_tick}
use Rattle.ba_core.specs.Messages.{end_name, part_name}
use Rattle.ba_core.specs.PartRows.{acted_state, part_says}
use Rattle.ba_core.specs.declared.identifiers.Id.{Id}
use Rattle.ba_core.specs.declared.notices.Act.{Act}
use Rattle.ba_core.specs.declared.notices.Act.TheVariants as act
use Rattle.ba_core.specs.declared.notices.Leave.{Leave}
use Rattle.ba_core.specs.declared.notices.Notice.{Notice}
use Rattle.ba_core.specs.declared.notices.Notice.TheVariants as notice
use Rattle.ba_core.specs.declared.protocols.Protocol.{Protocol}
use Rattle.ba_core.specs.declared.protocols.Protocol.TheVariants.{Cc}
use Rattle.ba_core.specs.declared.protocols.Side.TheVariants.{Coordinator, Participant}
use Rattle.ba_core.specs.declared.protocols.Verdict.{Verdict}
use Rattle.ba_core.specs.declared.protocols.Verdict.TheVariants.{Undo}
use Rattle.ba_core.specs.declared.rows.CRow.{CRow}
use Rattle.ba_core.specs.declared.rows.CRow.TheVariants as crow
use Rattle.ba_core.specs.declared.states.CState.{CState}
use Rattle.ba_core.specs.declared.states.CState.TheVariants as end
use Rattle.ba_core.specs.declared.states.PState.{PState}
use Rattle.ba_link.proofs.Everywhere.{parts, part_passes, protocol_passes, protocols}
use Rattle.ba_link.specs.States.{end_number, part_number}
use Rattle.ba_record.specs.declared.records.Record.{Record}
use Rattle.ba_scope.proofs.Calls.{led, ticked_part}
use Rattle.ba_scope.proofs.Lists.{some_branch}
use Rattle.ba_scope.proofs.Tables.{if_leads}
use Rattle.ba_scope_ends.specs.Ends.{Tick, end_after_notice, end_after_row, end_asking, end_in_state, end_owing, end_with_verdict}
use Rattle.ba_scope_ends.specs.Ends.{end_with_verdict_if_none, tick_of_end, same_id}
use Rattle.ba_scope_ends.specs.Parts.{enrolled_part, part_asking, part_in_state, part_owing, refused_part, tick_of_part}
use Rattle.ba_scope.specs.Rules.{ScopeStep, changed_at, choose, complete, decide, expire, finish, is_expired, leave_act, leave_by}
use Rattle.ba_scope.specs.Rules.{part_at_tick, scope_with_end, state_at_tick, tick_up, with_end_changed, with_up, with_up_moved}
use Rattle.ba_scope.specs.Scope.{ScopeState}
use Rattle.ba_scope.specs.declared.answers.Said.{Said}
use Rattle.ba_scope.specs.declared.answers.Said.TheVariants as said
use Rattle.ba_scope_ends.specs.declared.ends.End.{End}
use Rattle.ba_scope_ends.specs.declared.parts.Part.{Part}
use Rattle.ba_node_steps.specs.declared.inputs.Input.{Input}
use Rattle.ba_node_steps.specs.declared.inputs.Input.TheVariants as input
use Rattle.ba_node_steps.specs.Lawful.{Event, given, ticked, formatted, change}
use Rattle.ba_node_steps.specs.Node.{Among, EndPlace, NodeState, PartPlace, nowhere, lone, upward, next_id, part_in_place_of, scope_in_place_of}
use Rattle.ba_node_steps.specs.Node.{with_lone, with_part_changed, with_scope}
use Rattle.ba_node_steps.specs.Steps.{NodeStep, is_registering_state, node_step, same_end_state, same_part_state}
use Rattle.ba_node_steps.specs.Ticks.{TickStep, tick_step}
use Rattle.ba_node_steps.proofs.Cases.{act_cases, ask_cases, create_cases, end_notice_cases, end_ticks, enrolled_cases, join_cases}
use Rattle.ba_node_steps.proofs.Cases.{on_choose_cases, on_complete_cases, on_decide_cases, on_finish_cases, on_leave_cases, part_notice_cases}
use Rattle.ba_node_steps.proofs.Cases.{refused_cases, register_cases, tick_cases, up_acts, up_talks}
use Rattle.ba_node_steps.proofs.Members.{number_is_same, same_id_is, stays_among}
use Rattle.ba_node_steps.proofs.Places.{EndStands, Stands, first_is, scope_found}
use Rattle.ba_scope.proofs.ScopeCases.{choose_cases, complete_cases, decide_cases, finish_cases, leave_cases}

-- ---- what differs

-- they differ where a test does
differ : {A : Type 0} (test : A → Bool) (x y : A) → test x ≡ true → test y ≡ false → x ≡ y → ⊥
differ test x y h k same = true≢false (sym h ∙ ap test same ∙ k)

differ_back : {A : Type 0} (test : A → Bool) (x y : A) → test x ≡ false → test y ≡ true → x ≡ y → ⊥
differ_back test x y h k same = true≢false (sym k ∙ sym (ap test same) ∙ h)

pushed_differs : {A : Type 0} (xs : List A) (x : A) → xs ++ x ∷ [] ≡ xs → ⊥
pushed_differs [] x h = cc
pushed_differs (y ∷ ys) x h = let rest : ys ++ x ∷ [] ≡ ys = cc in pushed_differs ys x rest

self_end_state : (s : CState) → same_end_state s s ≡ true
self_end_state s = by_number (end_number s)
  where
    by_number : (k : ℕ) → (nat_eq k k || false) ≡ true
    by_number k = let same : nat_eq k k ≡ true = grind (arith, nat_tests) in λ i. same i || false

self_part_state : (s : PState) → same_part_state s s ≡ true
self_part_state s = by_number (part_number s)
  where
    by_number : (k : ℕ) → (nat_eq k k || false) ≡ true
    by_number k = let same : nat_eq k k ≡ true = grind (arith, nat_tests) in λ i. same i || false

moved_differs : (p : Part) (next : PState) → same_part_state p.state next ≡ false → part_in_state next p ≡ p → ⊥
moved_differs p next other same =
    let states : next ≡ p.state = ap (λ (x : Part). x.state) same in
    true≢false (sym (self_part_state p.state) ∙ ap (same_part_state p.state) (sym states) ∙ other)

-- ---- a changed object in a node

scope_changes : (n : NodeState) (s new : ScopeState) → Among n.scopes s → new.id ≡ s.id → (new ≡ s → ⊥) → with_scope n new ≡ n → ⊥
scope_changes n s new among own differs same =
    let stays = stays_among (scope_in_place_of new) n.scopes s (ap (λ (m : NodeState). m.scopes) same) among in
    let here : same_id s.id new.id ≡ true = number_is_same s.id new.id (ap (λ (x : Id). x.0) (sym own)) in
    differs ((λ i. if sym here i then new else s) ∙ stays)

lone_changes : (n : NodeState) (p new : Part) → Among n.parts p → new.id ≡ p.id → (new ≡ p → ⊥) → with_lone n new ≡ n → ⊥
lone_changes n p new among own differs same =
    let stays = stays_among (part_in_place_of new) n.parts p (ap (λ (m : NodeState). m.parts) same) among in
    let here : same_id p.id new.id ≡ true = number_is_same p.id new.id (ap (λ (x : Id). x.0) (sym own)) in
    differs ((λ i. if sym here i then new else p) ∙ stays)

up_differs : (s : ScopeState) (p q : Part) → s.up ≡ Some p → (q ≡ p → ⊥) → with_up s q ≡ s → ⊥
up_differs s p q is differs same =
    let ups : ◌≡◌ {A = Option Part} (Some q) (Some p) = ap (λ (x : ScopeState). x.up) same ∙ is in
    differs cc

part_changes : (n : NodeState) (id : Id) (place : PartPlace) (p : Part) (f : Part → Part) → Stands n id place p → (f p).id ≡ p.id
    → (f p ≡ p → ⊥)
    → with_part_changed n place f ≡ n → ⊥
part_changes n id nowhere p f stands own differs same = stands
part_changes n id (lone q) p f stands own differs same =
    lone_changes n p (f p) (subst (λ (x : Part). Among n.parts x) stands.1 stands.0.part) own differs
    (subst (λ (x : Part). with_lone n (f x) ≡ n) stands.1 same)
part_changes n id (upward s q) p f stands own differs same =
    scope_changes n s (with_up s (f p)) stands.0.scope refl (up_differs s p (f p) (stands.0.up ∙ ap Some stands.1) differs)
    (subst (λ (x : Part). with_scope n (with_up s (f x)) ≡ n) stands.1 same)

end_differs : (s : ScopeState) (id : Id) (f : End → End) (e : End) → Among s.ends e → e.id ≡ id → (f e ≡ e → ⊥)
    → with_end_changed id f s ≡ s → ⊥
end_differs s id f e among own differs same =
    let stays = stays_among (changed_at id f) s.ends e (ap (λ (x : ScopeState). x.ends) same) among in
    let here : same_id e.id id ≡ true = number_is_same e.id id (ap (λ (x : Id). x.0) own) in
    differs ((λ i. if sym here i then f e else e) ∙ stays)

end_changes : (n : NodeState) (id : Id) (at : EndPlace) (f : End → End) → EndStands n id at → (f at.end ≡ at.end → ⊥)
    → with_scope n (with_end_changed at.end.id f at.scope) ≡ n → ⊥
end_changes n id at f stands differs =
    scope_changes n at.scope (with_end_changed at.end.id f at.scope) stands.scope refl
    (end_differs at.scope at.end.id f at.end stands.end refl differs)

-- ---- tables: what is done leads to another state

abbrev moves_by : Act → Protocol → PState → Bool
moves_by a protocol p = if_leads (λ to. not (same_part_state p to)) (acted_state protocol p a)

each_act_moves : (a : Act) → list_all (λ protocol. list_all (moves_by a protocol) parts) protocols ≡ true
each_act_moves act.Completed = refl
each_act_moves a = refl

not_is_false : (b : Bool) → not b ≡ true → b ≡ false
not_is_false true h = absurd (true≢false (sym h))
not_is_false false h = refl

act_moves : (protocol : Protocol) (p : PState) (a : Act) (next : PState) → acted_state protocol p a ≡ Some next
    → same_part_state p next ≡ false
act_moves protocol p a next is =
    let here = part_passes (moves_by a protocol)
    (protocol_passes (λ protocol. list_all (moves_by a protocol) parts) (each_act_moves a) protocol) p in
    not_is_false (same_part_state p next) (led (λ to. not (same_part_state p to)) (acted_state protocol p a) next is here)

complete_moves : (protocol : Protocol) (s next : CState) → completed_state protocol s ≡ Some next → same_end_state s next ≡ false
complete_moves Cc end.Active next is = let same : end.Completing ≡ next = cc in subst
    (λ (x : CState). same_end_state end.Active x ≡ false) same refl
complete_moves protocol s next is = cc

end_moved_differs : (e : End) (next : CState) → same_end_state e.state next ≡ false → next ≡ e.state → ⊥
end_moved_differs e next other same = true≢false (sym (self_end_state e.state) ∙ ap (same_end_state e.state) (sym same) ∙ other)

-- ---- rules

abbrev DoneChanges : ScopeState → ScopeStep Said → Type 0
DoneChanges s step = step.answer ≡ said.Ok → (step.after.id ≡ s.id) × (step.after ≡ s → ⊥)

not_done : {A : Type 0} (number : ℕ) (id : Id) → ◌≡◌ {A = Said} (said.No number id) said.Ok → A
not_done number id h = absurd cc

verdict_differs : {A : Type 0} (v : Verdict) (o : Option Verdict) → o ≡ None → ◌≡◌ {A = Option Verdict} (Some v) o → A
verdict_differs v o none same = absurd (no_none (same ∙ none))
  where
    no_none : ◌≡◌ {A = Option Verdict} (Some v) None → ⊥
    no_none h = cc

decide_changes : (s : ScopeState) (v : Verdict) → DoneChanges s (decide s v)
decide_changes s v =
    decide_cases (DoneChanges s) s v (λ number id. not_done number id)
    (λ root atomic undecided ready ok. (refl, λ same. verdict_differs v s.verdict undecided (ap (λ (x : ScopeState). x.verdict) same)))

choose_changes : (s : ScopeState) (id : Id) (v : Verdict) → DoneChanges s (choose s id v)
choose_changes s id v =
    choose_cases (DoneChanges s) s id v (λ number shown. not_done number shown)
    (λ e next found root mixed undecided chosen ok.
    let first = first_is (λ (x : End). same_id x.id id) s.ends e found in (
      refl,
      end_differs s id (end_with_verdict v) e first.0 (same_id_is e.id id first.1)
          (λ same. verdict_differs v e.verdict undecided (ap (λ (x : End). x.verdict) same)),
    ))

complete_changes : (s : ScopeState) (id : Id) → DoneChanges s (complete s id)
complete_changes s id =
    complete_cases (DoneChanges s) s id (λ number shown. not_done number shown)
    (λ e next found open_ undecided asked ok.
    let first = first_is (λ (x : End). same_id x.id id) s.ends e found in (
      refl,
      end_differs s id (end_in_state next) e first.0 (same_id_is e.id id first.1)
          (λ same. end_moved_differs e next (complete_moves e.protocol e.state next asked) (ap (λ (x : End). x.state) same)),
    ))

finish_changes : (s : ScopeState) → DoneChanges s (finish s)
finish_changes s =
    finish_cases (DoneChanges s) s (λ number shown. not_done number shown)
    (λ up next is acts ready ok.
    (refl, up_differs s up (part_in_state next up) is (moved_differs up next (act_moves up.protocol up.state act.Completed next acts))))

leave_changes : (s : ScopeState) (how : Leave) → DoneChanges s (leave_by s how)
leave_changes s how =
    leave_cases (DoneChanges s) s how (λ number shown. not_done number shown)
    (λ up next is may acts ended ok.
    (refl, up_differs s up (part_in_state next up) is (moved_differs up next (act_moves up.protocol up.state (leave_act how) next acts))))

done_changes : (n : NodeState) (s : ScopeState) (step : ScopeStep Said) → Among n.scopes s → DoneChanges s step → step.answer ≡ said.Ok
    → with_scope n step.after ≡ n → ⊥
done_changes n s step among changes ok = let done = changes ok in scope_changes n s step.after among done.0 done.1

-- the expiry by the answer of its test
abbrev pub expiry : ScopeState → Bool → ScopeStep Bool
expiry s b =
    if b then record { after = record s { verdict = Some Undo; ends = map (end_with_verdict_if_none Undo) s.ends }; answer = true }
    else record { after = s; answer = false }

expiry_changes : (s : ScopeState) (now : ℕ) → (expire s now).answer ≡ true → ((expire s now).after.id ≡ s.id)
    × ((expire s now).after ≡ s → ⊥)
expiry_changes s now = by_answer (is_expired s now) refl
  where
    undecided : is_expired s now ≡ true → s.verdict ≡ None
    undecided h = none_of s.verdict (and_parts (is_none s.verdict) _ (and_parts (is_none s.up) _ h).1).0
      where
        none_of : (o : Option Verdict) → is_none o ≡ true → o ≡ None
        none_of None h = refl
        none_of (Some v) h = absurd (true≢false (sym h))

    by_answer : (b : Bool) → is_expired s now ≡ b → (expiry s b).answer ≡ true → ((expiry s b).after.id ≡ s.id)
        × ((expiry s b).after ≡ s → ⊥)
    by_answer true is answer = (refl, λ same. verdict_differs Undo s.verdict (undecided is) (ap (λ (x : ScopeState). x.verdict) same))
    by_answer false is answer = absurd (true≢false (sym answer))

-- ---- ticks

-- the tick of an end by its flags
abbrev end_tick_by : End → Bool → Bool → Tick End
end_tick_by e owes asks =
    if owes then record { after = record e { owes = false }; says = Some (notice.Status (end_name e.state)) }
    else if asks then record { after = record e { asks = false }; says = Some notice.GetStatus }
    else record { after = end_in_state (end_tick e.state).0 e; says = (end_tick e.state).1 }

end_tick_differs : (e : End) → end_ticks e ≡ true → (tick_of_end e).after ≡ e → ⊥
end_tick_differs e = by_flags e.owes e.asks refl refl
  where
    by_flags : (owes asks : Bool) → e.owes ≡ owes → e.asks ≡ asks
        → ((owes || asks) || not (same_end_state e.state (end_tick_by e owes asks).after.state)) ≡ true
        → (end_tick_by e owes asks).after ≡ e → ⊥
    by_flags true asks owing asking ticks same = differ_back (λ (x : End). x.owes) (record e { owes = false }) e refl owing same
    by_flags false true owing asking ticks same = differ_back (λ (x : End). x.asks) (record e { asks = false }) e refl asking same
    by_flags false false owing asking ticks same =
        end_moved_differs e (end_tick e.state).0 (not_is_false (same_end_state e.state (end_tick e.state).0) ticks)
        (ap (λ (x : End). x.state) same)

abbrev part_tick : Part → Bool → Bool → Tick Part
part_tick p owes asks =
    if owes then record { after = record p { owes = false }; says = Some (notice.Status (part_name p.state)) }
    else if asks then record { after = record p { asks = false }; says = Some notice.GetStatus }
    else record { after = p; says = part_says p.state }

part_tick_differs : (p : Part) → (p.owes || p.asks) ≡ true → (tick_of_part p).after ≡ p → ⊥
part_tick_differs p = by_flags p.owes p.asks refl refl
  where
    by_flags : (owes asks : Bool) → p.owes ≡ owes → p.asks ≡ asks → (owes || asks) ≡ true → (part_tick p owes asks).after ≡ p → ⊥
    by_flags true asks owing asking talks same = differ_back (λ (x : Part). x.owes) (record p { owes = false }) p refl owing same
    by_flags false true owing asking talks same = differ_back (λ (x : Part). x.asks) (record p { asks = false }) p refl asking same
    by_flags false false owing asking talks same = true≢false (sym talks)

quiet_tick : (p : Part) → (p.owes || p.asks) ≡ false → (tick_of_part p).after ≡ p
quiet_tick p = by_flags p.owes p.asks refl refl
  where
    by_flags : (owes asks : Bool) → p.owes ≡ owes → p.asks ≡ asks → (owes || asks) ≡ false → (part_tick p owes asks).after ≡ p
    by_flags true asks owing asking quiet = absurd (true≢false quiet)
    by_flags false true owing asking quiet = absurd (true≢false quiet)
    by_flags false false owing asking quiet = refl

up_tick_differs : (s : ScopeState) (p : Part) → (up_talks p || up_acts s p) ≡ true → (tick_of_part (part_at_tick s p)).after ≡ p → ⊥
up_tick_differs s p = by_talks (up_talks p) refl
  where
    by_talks : (talks : Bool) → up_talks p ≡ talks → (talks || (not talks && not (same_part_state p.state (state_at_tick s p)))) ≡ true
        → (tick_of_part (if talks then p else part_in_state (state_at_tick s p) p)).after ≡ p → ⊥
    by_talks true is moves same = part_tick_differs p is same
    by_talks false is moves same =
        moved_differs p (state_at_tick s p) (not_is_false (same_part_state p.state (state_at_tick s p)) moves)
        (sym (quiet_tick (part_in_state (state_at_tick s p) p) is) ∙ same)

up_tick_changes : (s : ScopeState) (p : Part) → s.up ≡ Some p → (up_talks p || up_acts s p) ≡ true
    → ((tick_up s).after.id ≡ s.id) × ((tick_up s).after ≡ s → ⊥)
up_tick_changes s p is moves =
    let some : Part → Tick ScopeState =
    (λ up. record { after = with_up s (tick_of_part (part_at_tick s up)).after; says = (tick_of_part (part_at_tick s up)).says }) in
    let branch : tick_up s ≡ some p = some_branch s.up (record { after = s; says = None }) some p is in
    subst (λ (t : Tick ScopeState). (t.after.id ≡ s.id) × (t.after ≡ s → ⊥)) (sym branch)
    (refl, up_differs s p (tick_of_part (part_at_tick s p)).after is (up_tick_differs s p moves))

-- ---- each step

abbrev Changes : NodeState → NodeStep → Type 0
Changes n step = step.after ≡ n → step.written ≡ None

abbrev ChangesByTick : NodeState → TickStep → Type 0
ChangesByTick n step = step.after ≡ n → step.written ≡ None

-- a step that leads to another node may keep a record
changing : {A : Type 0} → (A → ⊥) → (r : Record) → A → ◌≡◌ {A = Option Record} (Some r) None
changing differs r same = absurd (differs same)

row_differs : (e : End) (m : Notice) (next : CState) (prompt : Bool) → end_row e.protocol e.state m ≡ crow.Row next prompt
    → same_end_state e.state (end_after_row (crow.Row next prompt) e).state ≡ false → end_after_notice m e ≡ e → ⊥
row_differs e m next prompt row other same =
    let after : end_after_row (crow.Row next prompt) e ≡ e = ap (λ (r : CRow). end_after_row r e) (sym row) ∙ same in
    end_moved_differs e (end_after_row (crow.Row next prompt) e).state other (ap (λ (x : End). x.state) after)

registering_differs : (p q : Part) → is_registering_state p.state ≡ true → is_registering_state q.state ≡ false → q ≡ p → ⊥
registering_differs p q registering other = differ_back (λ (x : Part). is_registering_state x.state) q p other registering

input_changes : (n : NodeState) (now : ℕ) (i : Input) → Changes n (node_step n now i)
input_changes n now (input.Create expires current kind protocol) =
    create_cases (Changes n) n now expires current kind protocol (λ r same. refl)
    (λ k is root. changing (λ same. pushed_differs n.scopes _ (ap (λ (m : NodeState). m.scopes) same)) _)
    (λ k c is of alike dialable. changing (λ same. pushed_differs n.scopes _ (ap (λ (m : NodeState). m.scopes) same)) _)
input_changes n now (input.Register scope protocol participant) =
    register_cases (Changes n) n scope protocol participant (λ r same. refl) (λ s known registers.
    changing (scope_changes n s (scope_with_end s (next_id n 1) known participant) (scope_found n scope s registers.here).0 refl
    (λ same. pushed_differs s.ends _ (ap (λ (x : ScopeState). x.ends) same))) _)
input_changes n now (input.Join protocol registration) =
    join_cases (Changes n) n protocol registration (λ r same. refl)
    (λ dialable. changing (λ same. pushed_differs n.parts _ (ap (λ (m : NodeState). m.parts) same)) _)
input_changes n now (input.Enrolled id coordinator) =
    enrolled_cases (Changes n) n id coordinator (λ r same. refl) (λ place p stands registering dialable.
    changing (part_changes n id place p (enrolled_part coordinator) stands refl
    (registering_differs p (enrolled_part coordinator p) registering refl)) _)
input_changes n now (input.RefusedBy id c) =
    refused_cases (Changes n) n id c (λ r same. refl) (λ place p number stands registering is.
    changing (part_changes n id place p refused_part stands refl (registering_differs p (refused_part p) registering refl)) _)
input_changes n now (input.Notice Coordinator id m) =
    end_notice_cases (Changes n) n id m (λ r same. refl) (λ shown prompt same. refl)
    (λ at stands owes asks. changing
    (end_changes n id at end_owing stands (differ (λ (x : End). x.owes) (end_owing at.end) at.end refl owes)) _)
    (λ at next prompt stands row other. changing
    (end_changes n id at (end_after_notice m) stands (row_differs at.end m next prompt row other)) _)
input_changes n now (input.Notice Participant id m) =
    part_notice_cases (Changes n) n id m (λ r same. refl) (λ shown prompt same. refl)
    (λ place p stands hears asks owes. changing
    (part_changes n id place p part_owing stands refl (differ (λ (x : Part). x.owes) (part_owing p) p refl owes)) _)
    (λ p next prompt stands hears row other. changing
    (lone_changes n p (part_in_state next p) stands.part refl (moved_differs p next other)) _)
    (λ s p next prompt stands hears row other. changing (scope_changes n s (with_up_moved s p next) stands.scope refl
    (λ same.
    let ups : ◌≡◌ {A = Option Part} (Some (part_in_state next p)) (Some p) = ap (λ (x : ScopeState). x.up) same ∙ stands.up in
    moved_differs p next other cc)) _)
input_changes n now (input.Act id a) =
    act_cases (Changes n) n id a (λ r same. refl) (λ p next stands acts.
    changing (lone_changes n p (part_in_state next p) stands.part refl
    (moved_differs p next (act_moves p.protocol p.state a next acts))) _)
input_changes n now (input.Ask id) =
    ask_cases (Changes n) n id (λ r same. refl)
    (λ at stands asks. changing
    (end_changes n id at end_asking stands (differ (λ (x : End). x.asks) (end_asking at.end) at.end refl asks)) _)
    (λ place p none stands hears asks. changing
    (part_changes n id place p part_asking stands refl (differ (λ (x : Part). x.asks) (part_asking p) p refl asks)) _)
input_changes n now (input.Decide id v) =
    on_decide_cases (Changes n) n id v (λ r same. refl) (λ s here ok.
    changing (done_changes n s (decide s v) (scope_found n id s here).0 (decide_changes s v) ok) _)
input_changes n now (input.Choose id v) =
    on_choose_cases (Changes n) n id v (λ r same. refl) (λ at stands ok.
    changing (done_changes n at.scope (choose at.scope id v) stands.scope (choose_changes at.scope id v) ok) _)
input_changes n now (input.Complete id) =
    on_complete_cases (Changes n) n id (λ r same. refl) (λ at stands ok.
    changing (done_changes n at.scope (complete at.scope id) stands.scope (complete_changes at.scope id) ok) _)
input_changes n now (input.Finish id) =
    on_finish_cases (Changes n) n id (λ r same. refl) (λ s up here is ok.
    changing (done_changes n s (finish s) (scope_found n id s here).0 (finish_changes s) ok) _)
input_changes n now (input.Leave id how) =
    on_leave_cases (Changes n) n id how (λ r same. refl) (λ s up here is ok.
    changing (done_changes n s (leave_by s how) (scope_found n id s here).0 (leave_changes s how) ok) _)

tick_changes : (n : NodeState) (now : ℕ) (id : Id) → ChangesByTick n (tick_step n now id)
tick_changes n now id =
    tick_cases (ChangesByTick n) n now id (λ l same. refl)
    (λ s here expired.
    let changes = expiry_changes s now expired in
    changing (scope_changes n s (expire s now).after (scope_found n id s here).0 changes.0 changes.1) _)
    (λ at w no_scope stands ticks. changing (end_changes n id at (λ it. (tick_of_end it).after) stands (end_tick_differs at.end ticks)) _)
    (λ p no_scope no_end stands hears talks.
    changing (lone_changes n p (tick_of_part p).after stands.part (ticked_part (λ (q : Part). q.id ≡ p.id) p refl refl refl)
    (part_tick_differs p talks)) _)
    (λ s p w no_scope no_end stands hears moves.
    let changes = up_tick_changes s p stands.up moves in
    changing (scope_changes n s (tick_up s).after stands.scope changes.0 changes.1) _)

pub changes : (n : NodeState) (e : Event) → (change n e).after ≡ n → (change n e).written ≡ None
changes n (given now i) = input_changes n now i
changes n (ticked now id) = tick_changes n now id
changes n formatted = λ same. refl
