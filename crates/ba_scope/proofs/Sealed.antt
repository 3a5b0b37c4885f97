-- What is sealed stays sealed, whatever is called.
use Rattle.std.proofs.Common.{◌≡◌, ℕ, Bool, true, false, not, ◌||◌, Option, None, Some, is_some, refl, sym, subst, true≢false}
use Rattle.std.specs.List.{list_all}
use Rattle.std.specs.Option.{option_map}
use Rattle.ba_core.specs.EndRows.{chosen_state, completed_state}
use Rattle.ba_core.specs.PartRows.{acted_state, part_row}
use Rattle.ba_core.specs.declared.identifiers.Id.{Id}
use Rattle.ba_core.specs.declared.notices.Act.{Act}
use Rattle.ba_core.specs.declared.notices.Act.TheVariants as act
use Rattle.ba_core.specs.declared.notices.Leave.{Leave}
use Rattle.ba_core.specs.declared.notices.Notice.{Notice}
use Rattle.ba_core.specs.declared.protocols.Verdict.{Verdict}
use Rattle.ba_core.specs.declared.rows.CRow.{CRow}
use Rattle.ba_core.specs.declared.rows.CRow.TheVariants as crow
use Rattle.ba_core.specs.declared.rows.PRow.{PRow}
use Rattle.ba_core.specs.declared.rows.PRow.TheVariants as prow
use Rattle.ba_core.specs.declared.states.CState.{CState}
use Rattle.ba_core.specs.declared.states.PState.{PState}
use Rattle.ba_link.specs.States.{part_among}
use Rattle.ba_link.proofs.Everywhere.{only_if, where_asked, protocol_passes, parts, part_passes}
use Rattle.ba_message.specs.declared.endpoints.Epr.{Epr}
use Rattle.ba_scope.specs.Calls.{Call, by_enrol, by_decide, by_choose, by_complete, by_expire, by_end_receive, by_end_tick, by_enrolled}
use Rattle.ba_scope.specs.Calls.{by_refused, by_finish, by_leave, by_up_receive, by_up_tick, by_owe, by_ask, scope_after}
use Rattle.ba_scope.specs.declared.answers.Said.{Said}
use Rattle.ba_core.specs.declared.refusals.TheConstants.{ALREADY_DECIDED, NOT_READY, NOT_A_ROOT, WRONG_KIND, NO_SUCH_END, NOT_A_CHILD}
use Rattle.ba_core.specs.declared.refusals.TheConstants.{NOT_DRAINED, WRONG_STATE}
use Rattle.ba_scope_ends.specs.declared.ends.End.{End}
use Rattle.ba_scope_ends.specs.declared.parts.Part.{Part}
use Rattle.ba_scope_ends.specs.Ends.{Tick, is_ready_for, end_owing, end_asking, end_with_id, first_failing, is_ended_state, is_ready_state}
use Rattle.ba_scope_ends.specs.Parts.{part_in_state, enrolled_part, refused_part, act_when_drained, state_after_act, state_after_row}
use Rattle.ba_scope_ends.specs.Parts.{is_enrolled_as, part_owing, part_asking, verdict_on_the_way, is_registering}
use Rattle.ba_scope.specs.Rules.{ScopeStep, refused_step, done_step, where_each_end, is_atomic, scope_with_verdict, decide, choose}
use Rattle.ba_scope.specs.Rules.{choose_for, complete, complete_for, expire, is_expired, enrol_refusal, with_up, finish, finish_for}
use Rattle.ba_scope.specs.Rules.{leave_by, leave_for, leave_act, may_leave, enrolled_scope, refused_scope, end_receive, up_receive}
use Rattle.ba_scope.specs.Rules.{tick_end, state_at_tick, part_at_tick, tick_up, flag, verdict_then, with_up_moved}
use Rattle.ba_scope.specs.Scope.{ScopeState, is_drained, any_failed, is_at_work, is_sealed}
use Rattle.ba_scope.proofs.Lists.{by_test}
use Rattle.ba_scope.proofs.Kept.{after_leads, self_leads}
use Rattle.ba_scope.proofs.Calls.{by_option, led, registering_is, ticked_part}
use Rattle.ba_scope.proofs.Tables.{act_closes, each_act_closes, drained_reopens_none, each_drained_reopens_none, is_open_state}
use Rattle.ba_scope.proofs.Tables.{no_reopening, row_known, rows_are_known, rows_lead, rows_reopen_none}

-- a verdict that stays, or a participant that doesn't come back to work
still : (a b c d : Bool) → (a ≡ true → c ≡ true) → (d ≡ true → b ≡ true) → (a || not b) ≡ true → (c || not d) ≡ true
still a b true d k w h = refl
still a b false false k w h = refl
still true b false true k w h = absurd (true≢false (sym (k refl)))
still false true false true k w h = h
still false false false true k w h = absurd (true≢false (sym (w refl)))

up_kept : (s : ScopeState) (up up2 : Part) → s.up ≡ Some up → (is_open_state up2.state ≡ true → is_open_state up.state ≡ true)
    → is_sealed s ≡ true → is_sealed (with_up s up2) ≡ true
up_kept s up up2 is_up work h =
    still (is_some s.verdict) (is_open_state up.state) (is_some s.verdict) (is_open_state up2.state) (λ v. v) work
    (subst (λ (u : Option Part). (is_some s.verdict || not (is_at_work u)) ≡ true) is_up h)

never_open : (p : PState) (b : Bool) → not (is_open_state p) ≡ true → is_open_state p ≡ true → b ≡ true
never_open p b h k = absurd (both (is_open_state p) h k)
  where
    both : (c : Bool) → not c ≡ true → c ≡ true → ⊥
    both true h k = true≢false (sym h)
    both false h k = true≢false (sym k)

-- ---- calls that end in a refusal, or set a verdict

abbrev pub AfterSealed : ScopeStep Said → Type 0
AfterSealed step = is_sealed step.after ≡ true

each_end_sealed : (s : ScopeState) (test : CState → Bool) (number : ℕ) (after : ScopeState) → is_sealed s ≡ true → is_sealed after ≡ true
    → AfterSealed (where_each_end s test number (done_step after))
each_end_sealed s test number after h k =
    by_option AfterSealed (first_failing test s.ends) (done_step after) (λ id. refused_step s number id) (λ _. k) (λ id is. h)

decide_sealed : (s : ScopeState) (v : Verdict) → is_sealed s ≡ true → is_sealed (decide s v).after ≡ true
decide_sealed s v h =
    by_test AfterSealed (is_some s.up) (refused_step s NOT_A_ROOT s.id) _ (λ _. h) (λ _.
    by_test AfterSealed (not (is_atomic s.kind)) (refused_step s WRONG_KIND s.id) _ (λ _. h) (λ _.
    by_test AfterSealed (is_some s.verdict) (refused_step s ALREADY_DECIDED s.id) _ (λ _. h) (λ _.
    each_end_sealed s (is_ready_for v) NOT_READY (scope_with_verdict v s) h refl)))

choose_for_sealed : (s : ScopeState) (id : Id) (v : Verdict) (o : Option CState) → is_sealed s ≡ true → AfterSealed (choose_for s id v o)
choose_for_sealed s id v None h = h
choose_for_sealed s id v (Some next) h = h

choose_sealed : (s : ScopeState) (id : Id) (v : Verdict) → is_sealed s ≡ true → is_sealed (choose s id v).after ≡ true
choose_sealed s id v h =
    by_option AfterSealed (end_with_id s.ends id) (refused_step s NO_SUCH_END id) _ (λ _. h) (λ e found.
    by_test AfterSealed (is_some s.up) (refused_step s NOT_A_ROOT id) _ (λ _. h) (λ _.
    by_test AfterSealed (is_atomic s.kind) (refused_step s WRONG_KIND id) _ (λ _. h) (λ _.
    by_test AfterSealed (is_some e.verdict) (refused_step s ALREADY_DECIDED id) _ (λ _. h) (λ _.
    choose_for_sealed s id v (chosen_state e.protocol e.state v) h))))

complete_for_sealed : (s : ScopeState) (id : Id) (o : Option CState) → is_sealed s ≡ true → AfterSealed (complete_for s id o)
complete_for_sealed s id None h = h
complete_for_sealed s id (Some next) h = h

complete_sealed : (s : ScopeState) (id : Id) → is_sealed s ≡ true → is_sealed (complete s id).after ≡ true
complete_sealed s id h =
    by_option AfterSealed (end_with_id s.ends id) (refused_step s NO_SUCH_END id) _ (λ _. h) (λ e found.
    by_test AfterSealed (is_some s.verdict || is_some e.verdict) (refused_step s ALREADY_DECIDED id) _ (λ _. h) (λ _.
    complete_for_sealed s id (completed_state e.protocol e.state) h))

expire_sealed : (s : ScopeState) (now : ℕ) → is_sealed s ≡ true → is_sealed (expire s now).after ≡ true
expire_sealed s now h =
    by_test (λ (r : ScopeStep Bool). is_sealed r.after ≡ true) (is_expired s now) _ (record { after = s; answer = false })
    (λ _. refl) (λ _. h)

-- ---- the upward part acts, and is told

act_keeps : (s : ScopeState) (up : Part) (a : Act) (next : PState) → s.up ≡ Some up → acted_state up.protocol up.state a ≡ Some next
    → is_sealed s ≡ true → is_sealed (with_up s (part_in_state next up)) ≡ true
act_keeps s up a next is_up is h =
    let here = part_passes (act_closes a up.protocol)
    (protocol_passes (λ protocol. list_all (act_closes a protocol) parts) (each_act_closes a) up.protocol) up.state in
    let closed = led (λ (to : PState). not (is_open_state to)) (acted_state up.protocol up.state a) next is here in
    up_kept s up (part_in_state next up) is_up (never_open next (is_open_state up.state) closed) h

finish_for_sealed : (s : ScopeState) (up : Part) → s.up ≡ Some up → is_sealed s ≡ true → (o : Option PState)
    → acted_state up.protocol up.state act.Completed ≡ o → AfterSealed (finish_for s up o)
finish_for_sealed s up is_up h None is = h
finish_for_sealed s up is_up h (Some next) is =
    each_end_sealed s is_ready_state NOT_READY (with_up s (part_in_state next up)) h (act_keeps s up act.Completed next is_up is h)

finish_sealed : (s : ScopeState) → is_sealed s ≡ true → is_sealed (finish s).after ≡ true
finish_sealed s h =
    by_option AfterSealed s.up (refused_step s NOT_A_CHILD s.id) _ (λ _. h)
    (λ up is_up. finish_for_sealed s up is_up h (acted_state up.protocol up.state act.Completed) refl)

leave_for_sealed : (s : ScopeState) (a : Act) (up : Part) → s.up ≡ Some up → is_sealed s ≡ true → (o : Option PState)
    → acted_state up.protocol up.state a ≡ o → AfterSealed (leave_for s up o)
leave_for_sealed s a up is_up h None is = h
leave_for_sealed s a up is_up h (Some next) is =
    each_end_sealed s is_ended_state NOT_DRAINED (with_up s (part_in_state next up)) h (act_keeps s up a next is_up is h)

leave_sealed : (s : ScopeState) (how : Leave) → is_sealed s ≡ true → is_sealed (leave_by s how).after ≡ true
leave_sealed s how h =
    by_option AfterSealed s.up (refused_step s NOT_A_CHILD s.id) _ (λ _. h) (λ up is_up.
    by_test AfterSealed (may_leave up.state) _ (refused_step s WRONG_STATE s.id)
    (λ _. leave_for_sealed s (leave_act how) up is_up h (acted_state up.protocol up.state (leave_act how)) refl) (λ _. h))

at_work_where_registering : (up : Part) → is_registering (Some up) ≡ true → is_open_state up.state ≡ true
at_work_where_registering up h = subst (λ (p : PState). is_open_state p ≡ true) (sym (registering_is up.state h)) refl

enrolled_sealed : (s : ScopeState) (coordinator : Epr) → is_sealed s ≡ true → is_registering s.up ≡ true
    → is_sealed (enrolled_scope coordinator s) ≡ true
enrolled_sealed s coordinator h registering = by_up s.up refl registering
  where
    by_up : (u : Option Part) → s.up ≡ u → is_registering u ≡ true → is_sealed (enrolled_scope coordinator s) ≡ true
    by_up None is k = absurd (true≢false (sym k))
    by_up (Some up) is k =
        subst (λ (u : Option Part). is_sealed (record s { up = option_map (enrolled_part coordinator) u }) ≡ true) (sym is)
        (up_kept s up (enrolled_part coordinator up) is (λ _. at_work_where_registering up k) h)

refused_sealed : (s : ScopeState) → is_sealed s ≡ true → is_registering s.up ≡ true → is_sealed (refused_scope s) ≡ true
refused_sealed s h registering = by_up s.up refl registering
  where
    by_up : (u : Option Part) → s.up ≡ u → is_registering u ≡ true → is_sealed (refused_scope s) ≡ true
    by_up None is k = absurd (true≢false (sym k))
    by_up (Some up) is k =
        subst (λ (u : Option Part). is_sealed (record s { up = option_map refused_part u }) ≡ true) (sym is)
        (up_kept s up (refused_part up) is (λ _. at_work_where_registering up k) h)

-- ---- notices and ticks

verdict_stays : (w v : Option Verdict) → is_some v ≡ true → is_some (verdict_then w v) ≡ true
verdict_stays None v h = h
verdict_stays (Some w) v h = refl

up_received_sealed : (s : ScopeState) (up : Part) (n : Notice) → s.up ≡ Some up → is_sealed s ≡ true
    → is_sealed (with_up_moved s up (state_after_row up.state (part_row up.protocol up.state n))) ≡ true
up_received_sealed s up n is_up h =
    let row : PRow = part_row up.protocol up.state n in
    let next : PState = state_after_row up.state row in
    let known = part_passes (row_known up.protocol n)
    (protocol_passes (λ protocol. list_all (row_known protocol n) parts) (rows_are_known n) up.protocol) up.state in
    let leads = after_leads up.state row known (part_passes (λ p. part_among (rows_lead p) p) self_leads up.state) in
    let by_before = part_passes (λ before. list_all (no_reopening before) parts) rows_reopen_none up.state in
    let by_next = part_passes (no_reopening up.state) by_before next in
    let asked = where_asked (part_among (rows_lead up.state) next)
    (λ to. only_if (is_open_state to) (λ _. is_open_state up.state) to) next by_next leads in
    still (is_some s.verdict) (is_open_state up.state)
    (is_some (verdict_then (verdict_on_the_way up.state next) s.verdict)) (is_open_state next)
    (verdict_stays (verdict_on_the_way up.state next) s.verdict)
    (λ open_. where_asked (is_open_state next) (λ _. is_open_state up.state) next asked open_)
    (subst (λ (u : Option Part). (is_some s.verdict || not (is_at_work u)) ≡ true) is_up h)

up_receive_sealed : (s : ScopeState) (n : Notice) → is_sealed s ≡ true → is_sealed (up_receive s n).after ≡ true
up_receive_sealed s n h =
    by_option (λ (r : ScopeStep PRow). is_sealed r.after ≡ true) s.up (record { after = s; answer = prow.Invalid }) _
    (λ _. h) (λ up is_up. up_received_sealed s up n is_up h)

end_receive_sealed : (s : ScopeState) (id : Id) (n : Notice) → is_sealed s ≡ true → is_sealed (end_receive s id n).after ≡ true
end_receive_sealed s id n h =
    by_option (λ (r : ScopeStep CRow). is_sealed r.after ≡ true) (end_with_id s.ends id) (record { after = s; answer = crow.Invalid }) _
    (λ _. h) (λ e found. h)

tick_end_sealed : (s : ScopeState) (id : Id) → is_sealed s ≡ true → is_sealed (tick_end s id).after ≡ true
tick_end_sealed s id h =
    by_option (λ (r : Tick ScopeState). is_sealed r.after ≡ true) (end_with_id s.ends id) (record { after = s; says = None }) _
    (λ _. h) (λ e found. h)

drained_sealed : (s : ScopeState) (up : Part) (failed : Bool) → s.up ≡ Some up → is_sealed s ≡ true
    → is_sealed (with_up s (part_in_state (state_after_act up.protocol up.state (act_when_drained up.state failed)) up)) ≡ true
drained_sealed s up failed is_up h =
    let next : PState = state_after_act up.protocol up.state (act_when_drained up.state failed) in
    let here = part_passes (drained_reopens_none failed up.protocol)
    (protocol_passes (λ protocol. list_all (drained_reopens_none failed protocol) parts) (each_drained_reopens_none failed) up.protocol)
    up.state in
    up_kept s up (part_in_state next up) is_up
    (λ open_. where_asked (is_open_state next) (λ p. is_open_state p) up.state here open_) h

part_at_tick_sealed : (s : ScopeState) (up : Part) → s.up ≡ Some up → is_sealed s ≡ true → is_sealed (with_up s (part_at_tick s up)) ≡ true
part_at_tick_sealed s up is_up h =
    let same = up_kept s up up is_up (λ open_. open_) h in
    by_test (λ (p : Part). is_sealed (with_up s p) ≡ true) (up.owes || up.asks) up (part_in_state (state_at_tick s up) up) (λ _. same)
    (λ _. by_test (λ (p : PState). is_sealed (with_up s (part_in_state p up)) ≡ true) (is_drained s)
    (state_after_act up.protocol up.state (act_when_drained up.state (any_failed s))) up.state
    (λ _. drained_sealed s up (any_failed s) is_up h) (λ _. same))

tick_up_sealed : (s : ScopeState) → is_sealed s ≡ true → is_sealed (tick_up s).after ≡ true
tick_up_sealed s h =
    by_option (λ (r : Tick ScopeState). is_sealed r.after ≡ true) s.up (record { after = s; says = None }) _ (λ _. h) (λ up is_up.
    let acted = part_at_tick_sealed s up is_up h in
    ticked_part (λ (p : Part). is_sealed (with_up s p) ≡ true) (part_at_tick s up) acted acted acted)

-- ---- flags

flag_sealed : (s : ScopeState) (id : Id) (part_has : Part → Bool) (part_with : Part → Part) (end_has : End → Bool) (end_with : End → End)
    → ((p : Part) → (part_with p).state ≡ p.state) → is_sealed s ≡ true
    → is_sealed (flag s id part_has part_with end_has end_with).after ≡ true
flag_sealed s id part_has part_with end_has end_with state h =
    by_option (λ (r : ScopeStep Bool). is_sealed r.after ≡ true) (end_with_id s.ends id) _ _
    (λ none. by_option (λ (r : ScopeStep Bool). is_sealed r.after ≡ true) s.up (record { after = s; answer = false }) _ (λ root. h)
    (λ up is_up. by_test (λ (r : ScopeStep Bool). is_sealed r.after ≡ true) (is_enrolled_as id up) _ (record { after = s; answer = false })
    (λ _. up_kept s up (part_with up) is_up (λ open_. subst (λ (p : PState). is_open_state p ≡ true) (state up) open_) h) (λ _. h)))
    (λ e found. h)

-- ---- each call

pub stays_sealed : (s : ScopeState) (call : Call) → is_sealed s ≡ true → is_sealed (scope_after s call) ≡ true
stays_sealed s (by_enrol id protocol participant) h =
    by_option (λ (t : ScopeState). is_sealed t ≡ true) (enrol_refusal s) _ (λ why. s) (λ _. h) (λ why is. h)
stays_sealed s (by_decide v) h = decide_sealed s v h
stays_sealed s (by_choose id v) h = choose_sealed s id v h
stays_sealed s (by_complete id) h = complete_sealed s id h
stays_sealed s (by_expire now) h = expire_sealed s now h
stays_sealed s (by_end_receive id n) h = end_receive_sealed s id n h
stays_sealed s (by_end_tick id) h = tick_end_sealed s id h
stays_sealed s (by_enrolled coordinator) h =
    by_test (λ (t : ScopeState). is_sealed t ≡ true) (is_registering s.up) (enrolled_scope coordinator s) s
    (λ registering. enrolled_sealed s coordinator h registering) (λ _. h)
stays_sealed s by_refused h =
    by_test (λ (t : ScopeState). is_sealed t ≡ true) (is_registering s.up) (refused_scope s) s
    (λ registering. refused_sealed s h registering) (λ _. h)
stays_sealed s by_finish h = finish_sealed s h
stays_sealed s (by_leave how) h = leave_sealed s how h
stays_sealed s (by_up_receive n) h = up_receive_sealed s n h
stays_sealed s by_up_tick h = tick_up_sealed s h
stays_sealed s (by_owe id) h = flag_sealed s id (λ p. p.owes) part_owing (λ e. e.owes) end_owing (λ p. refl) h
stays_sealed s (by_ask id) h = flag_sealed s id (λ p. p.asks) part_asking (λ e. e.asks) end_asking (λ p. refl) h
