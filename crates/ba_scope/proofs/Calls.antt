-- Each call of a scope keeps it fit, whatever it answers.
use Rattle.std.proofs.Common.{◌≡◌, ℕ, ◌≤◌, Bool, true, false, not, ◌&&◌, ◌||◌, List, [], ◌∷◌, ◌++◌, length, map, nat_le, Option, None, Some}
use Rattle.std.proofs.Common.{unwrap_or, is_none, is_some, refl, sym, ap, ◌∙◌, subst, if◌then◌else◌, true≢false, arith, length-append, lit≤}
use Rattle.std.specs.List.{AllByRecursion, find, list_all, list_any}
use Rattle.std.specs.Option.{option_map}
use Rattle.std.proofs.lemmas.Bool.{and_parts, and_from}
use Rattle.std.proofs.lemmas.Bool.Decides.{nat_tests}
use Rattle.std.proofs.lemmas.List.{length-map}
use Rattle.ba_core.specs.EndRows.{end_tick, chosen_state, completed_state}
use Rattle.ba_core.specs.PartRows.{part_says, acted_state, is_part_state}
use Rattle.ba_core.specs.declared.identifiers.Id.{Id}
use Rattle.ba_core.specs.declared.notices.Act.{Act}
use Rattle.ba_core.specs.declared.notices.Act.TheVariants as act
use Rattle.ba_core.specs.declared.notices.Leave.{Leave}
use Rattle.ba_core.specs.declared.notices.Notice.{Notice}
use Rattle.ba_core.specs.declared.notices.Notice.TheVariants as notice
use Rattle.ba_core.specs.declared.protocols.Kind.{Kind}
use Rattle.ba_core.specs.declared.protocols.Kind.TheVariants.{Atomic, Mixed}
use Rattle.ba_core.specs.declared.protocols.Protocol.{Protocol}
use Rattle.ba_core.specs.declared.protocols.Verdict.{Verdict}
use Rattle.ba_core.specs.declared.protocols.Verdict.TheVariants.{Undo}
use Rattle.ba_core.specs.declared.rows.CRow.{CRow}
use Rattle.ba_core.specs.declared.rows.CRow.TheVariants as crow
use Rattle.ba_core.specs.declared.rows.PRow.{PRow}
use Rattle.ba_core.specs.declared.rows.PRow.TheVariants as prow
use Rattle.ba_core.specs.declared.states.CState.{CState}
use Rattle.ba_core.specs.declared.states.CState.TheVariants as end
use Rattle.ba_core.specs.declared.states.How.TheVariants.{Refused}
use Rattle.ba_core.specs.declared.states.PState.{PState}
use Rattle.ba_core.specs.declared.states.PState.TheVariants as part
use Rattle.ba_link.specs.Pairs.{is_open}
use Rattle.ba_link.specs.States.{part_among}
use Rattle.ba_link.proofs.Everywhere.{only_if, where_asked, protocols, protocol_passes, parts, part_passes, verdict_passes}
use Rattle.ba_message.specs.Endpoints.{same_epr}
use Rattle.ba_message.specs.declared.endpoints.Epr.{Epr}
use Rattle.ba_scope.specs.declared.answers.EnrolFault.TheVariants.{NotYetEnrolled, Sealed, Full}
use Rattle.ba_scope.specs.declared.answers.Said.{Said}
use Rattle.ba_core.specs.declared.refusals.TheConstants.{ALREADY_DECIDED, NOT_READY, NOT_A_ROOT, WRONG_KIND, NO_SUCH_END, NOT_A_CHILD}
use Rattle.ba_core.specs.declared.refusals.TheConstants.{NOT_DRAINED, WRONG_STATE}
use Rattle.ba_scope_ends.specs.declared.ends.End.{End}
use Rattle.ba_scope_ends.specs.declared.parts.Part.{Part}
use Rattle.ba_scope_ends.specs.Parts.{part_fits, part_in_state, enrolled_part, refused_part, tick_of_part, act_when_drained, state_after_act}
use Rattle.ba_scope_ends.specs.Parts.{is_enrolled_as, part_owing, part_asking, has_no_coordinator, is_registering}
use Rattle.ba_scope.specs.Fits.{Above, goes_with, end_fits, above, are_apart, is_other_end, verdict_fits_above, verdict_goes, up_state}
use Rattle.ba_scope.specs.Fits.{up_fits, ScopeFits}
use Rattle.ba_scope_ends.specs.Ends.{Tick, is_ready_for, end_with_verdict, end_with_verdict_if_none, end_in_state, new_end, tick_of_end}
use Rattle.ba_scope_ends.specs.Ends.{end_owing, end_asking, same_id, end_with_id, end_of, first_failing, is_ready_state, is_ended_state}
use Rattle.ba_scope.specs.Rules.{ScopeStep, refused_step, done_step, where_each_end, is_atomic, scope_with_verdict, decide, choose}
use Rattle.ba_scope.specs.Rules.{choose_for, complete, complete_for, changed_at, with_end_changed, expire, is_expired, is_past}
use Rattle.ba_scope.specs.Rules.{enrol_refusal, scope_with_end, with_up, finish, finish_for, leave_by, leave_for, leave_act, may_leave}
use Rattle.ba_scope.specs.Rules.{enrolled_scope, refused_scope, new_scope, end_receive, up_receive, tick_end, state_at_tick, part_at_tick}
use Rattle.ba_scope.specs.Rules.{tick_up, flag, owe, ask}
use Rattle.ba_scope.specs.Scope.{ScopeState, has_id, is_own_id, is_drained, any_failed, is_at_work, is_sealed, is_full}
use Rattle.ba_scope.proofs.Lists.{by_test, none_fails}
use Rattle.ba_scope.proofs.Kept.{AllFit, KeepsWho, above_at, apart_kept, at_keeps, changed_fits, decided_fits, each_kept, ids_kept}
use Rattle.ba_scope.proofs.Kept.{end_received_fits, own_part_state, part_above, part_in_fits, same_up_fits, up_gone_fits, up_received_fits}
use Rattle.ba_scope.proofs.Kept.{verdict_below}
use Rattle.ba_scope.proofs.Places.{moves, others_stay, stays}
use Rattle.ba_scope.proofs.Tables.{Test, above_passes, acts_fit, any_state, anywhere_above, choosing, completing, draining, draining_at}
use Rattle.ba_scope.proofs.Tables.{draining_for, drained_fits, each_act_fits, each_asking_keeps, each_choice_keeps, each_draining_keeps}
use Rattle.ba_scope.proofs.Tables.{each_drained_fits, each_enrolled_keeps, each_expiry_keeps, each_finish_keeps, each_leave_keeps}
use Rattle.ba_scope.proofs.Tables.{each_new_end_fits, each_refused_keeps, each_tick_keeps, end_expired, end_goes, end_passes, enrolling_at}
use Rattle.ba_scope.proofs.Tables.{finishing, finishing_at, for_kinds, goes_pair, if_leads, leaving, leaving_at, same_truth, takes_below}
use Rattle.ba_scope.proofs.Tables.{takes_one, ticking, up_goes}

-- ---- by the answer of a look-up

abbrev pub AfterFits : ScopeStep Said → Type 0
AfterFits step = ScopeFits step.after

pub by_option : {X R : Type 0} (P : R → Type 0) (o : Option X) (none : R) (some : X → R)
    → (o ≡ None → P none) → ((x : X) → o ≡ Some x → P (some x)) → P (elim o [ None ↦ none | Some x ↦ some x ])
by_option P None none some h k = h refl
by_option P (Some x) none some h k = k x refl

pub is_absent : {X : Type 0} (o : Option X) → is_some o ≡ false → o ≡ None
is_absent None h = refl
is_absent (Some x) h = absurd (true≢false h)

pub atomic_is : (kind : Kind) → not (is_atomic kind) ≡ false → kind ≡ Atomic
atomic_is Atomic h = refl
atomic_is Mixed h = absurd (true≢false h)

pub each_end_fits : (s : ScopeState) (test : CState → Bool) (number : ℕ) (after : ScopeState) → ScopeFits s
    → (AllByRecursion (λ (e : End). test e.state ≡ true) s.ends → ScopeFits after)
    → AfterFits (where_each_end s test number (done_step after))
each_end_fits s test number after fits by_all =
    by_option AfterFits (first_failing test s.ends) (done_step after) (λ id. refused_step s number id)
    (λ none. by_all (none_fails test s.ends none)) (λ id is. fits)

-- ---- a decision

pub decide_fits : (s : ScopeState) (v : Verdict) → ScopeFits s → ScopeFits (decide s v).after
decide_fits s v fits =
    by_test AfterFits (is_some s.up) (refused_step s NOT_A_ROOT s.id) _ (λ child. fits) (λ root.
    by_test AfterFits (not (is_atomic s.kind)) (refused_step s WRONG_KIND s.id) _ (λ mixed. fits) (λ atomic.
    by_test AfterFits (is_some s.verdict) (refused_step s ALREADY_DECIDED s.id) _ (λ decided. fits) (λ undecided.
    each_end_fits s (is_ready_for v) NOT_READY (scope_with_verdict v s) fits (λ ready.
    decided_fits s v (is_absent s.up root) (atomic_is s.kind atomic) (is_absent s.verdict undecided) fits ready))))

-- ---- one end is changed that was found by its Id

each_kept_at : (a : Above) (id : Id) (e : End) (change : End → End) (es : List End) → are_apart es ≡ true → end_with_id es id ≡ Some e
    → (end_fits a e ≡ true → end_fits a (change e) ≡ true) → AllFit a es → AllFit a (map (changed_at id change) es)
each_kept_at a id e change [] apart found step all = tt
each_kept_at a id e change (x ∷ es) apart found step all =
    by_head (same_id x.id id) refl found
    (each_kept_at a id e change es (and_parts (list_all (is_other_end x) es) (are_apart es) apart).1)
  where
    by_head : (b : Bool) → same_id x.id id ≡ b → (if b then Some x else end_with_id es id) ≡ Some e
        → (end_with_id es id ≡ Some e → (end_fits a e ≡ true → end_fits a (change e) ≡ true) → AllFit a es
        → AllFit a (map (changed_at id change) es))
        → AllFit a (map (changed_at id change) (x ∷ es))
    by_head true is k rest =
        let same : x ≡ e = cc in
        let fit = step (subst (λ (y : End). end_fits a y ≡ true) same all.0) in (
          subst (λ (y : End). end_fits a y ≡ true) (ap change (sym same) ∙ moves id change x is) fit,
          subst (AllFit a) (others_stay id change x is es (and_parts (list_all (is_other_end x) es) (are_apart es) apart).0) all.1,
        )
    by_head false is k rest = (
      subst (λ (y : End). end_fits a y ≡ true) (stays id change x (λ same. absurd (true≢false (sym same ∙ is)))) all.0,
      rest k step all.1,
    )

pub found_changed_fits : (s : ScopeState) (id : Id) (e : End) (change : End → End) → end_with_id s.ends id ≡ Some e → KeepsWho change
    → (end_fits (above s) e ≡ true → end_fits (above s) (change e) ≡ true) → ScopeFits s → ScopeFits (with_end_changed id change s)
found_changed_fits s id e change found who step fits = record {
  ends = each_kept_at (above s) id e change s.ends fits.apart found step fits.ends;
  verdict = fits.verdict;
  up = fits.up;
  apart = apart_kept (changed_at id change) (at_keeps id change who) s.ends fits.apart;
  ids = ids_kept s (changed_at id change) (at_keeps id change who) s.ends fits.ids;
  limit = fits.limit;
  few = rw (length-map s.ends (changed_at id change)) fits.few;
}

-- ---- a choice

mixed_is : (kind : Kind) → is_atomic kind ≡ false → kind ≡ Mixed
mixed_is Atomic h = absurd (true≢false h)
mixed_is Mixed h = refl

-- what is true of the state that a rule leads to
pub led : {S : Type 0} (test : S → Bool) (o : Option S) (next : S) → o ≡ Some next → if_leads test o ≡ true → test next ≡ true
led test None next is h = cc
led test (Some x) next is h = let same : x ≡ next = cc in subst (λ y. test y ≡ true) same h

open_of : (v : Option Verdict) → is_some v ≡ false → is_open v ≡ true
open_of None h = refl
open_of (Some v) h = absurd (true≢false h)

choice_fits : (s : ScopeState) (v : Verdict) (e : End) (next : CState) → s.up ≡ None → s.kind ≡ Mixed → is_some e.verdict ≡ false
    → chosen_state e.protocol e.state v ≡ Some next → ScopeFits s → end_fits (above s) e ≡ true
    → end_fits (above s) (end_with_verdict v e) ≡ true
choice_fits s v e next root mixed undecided chosen fits fit =
    let a : Above = record { up = None; kind = Mixed; verdict = s.verdict } in
    let seen : above s ≡ a = (λ i. record { up = up_state (root i); kind = mixed i; verdict = s.verdict }) in
    let by_verdict = verdict_passes (λ w. only_if (verdict_fits_above None Mixed w)
    (λ u. choosing v (record { up = None; kind = Mixed; verdict = u })) w)
    (each_choice_keeps v) s.verdict in
    let here = where_asked (verdict_fits_above None Mixed s.verdict)
    (λ u. choosing v (record { up = None; kind = Mixed; verdict = u })) s.verdict
    by_verdict (subst (λ (x : Above). verdict_goes x ≡ true) seen fits.verdict) in
    let goes : Protocol → CState → Bool = λ protocol from. end_goes a protocol (Some v) (chosen_state protocol from v) in
    let at_e = end_passes (λ protocol state ev. only_if (is_open ev) (goes protocol) state) a here e.protocol e.state e.verdict
    (subst (λ (x : Above). end_fits x e ≡ true) seen fit) in
    let led_to = led (λ (to : CState). goes_with a e.protocol to (Some v) None) (chosen_state e.protocol e.state v) next chosen
    (where_asked (is_open e.verdict) (goes e.protocol) e.state at_e (open_of e.verdict undecided)) in
    let state : unwrap_or (chosen_state e.protocol e.state v) e.state ≡ next = ap (λ (o : Option CState). unwrap_or o e.state) chosen in
    subst (λ (x : Above). goes_with x e.protocol (unwrap_or (chosen_state e.protocol e.state v) e.state) (Some v) None ≡ true) (sym seen)
    (subst (λ (x : CState). goes_with a e.protocol x (Some v) None ≡ true) (sym state) led_to)

choose_for_fits : (s : ScopeState) (id : Id) (v : Verdict) (e : End) → end_with_id s.ends id ≡ Some e → s.up ≡ None → s.kind ≡ Mixed
    → is_some e.verdict ≡ false → ScopeFits s → (o : Option CState) → chosen_state e.protocol e.state v ≡ o
    → AfterFits (choose_for s id v o)
choose_for_fits s id v e found root mixed undecided fits None is = fits
choose_for_fits s id v e found root mixed undecided fits (Some next) is =
    found_changed_fits s id e (end_with_verdict v) found (record { id = λ x. refl; participant = λ x. refl })
    (choice_fits s v e next root mixed undecided is fits) fits

pub choose_fits : (s : ScopeState) (id : Id) (v : Verdict) → ScopeFits s → ScopeFits (choose s id v).after
choose_fits s id v fits =
    by_option AfterFits (end_with_id s.ends id) (refused_step s NO_SUCH_END id) _ (λ none. fits) (λ e found.
    by_test AfterFits (is_some s.up) (refused_step s NOT_A_ROOT id) _ (λ child. fits) (λ root.
    by_test AfterFits (is_atomic s.kind) (refused_step s WRONG_KIND id) _ (λ atomic. fits) (λ mixed.
    by_test AfterFits (is_some e.verdict) (refused_step s ALREADY_DECIDED id) _ (λ decided. fits) (λ undecided.
    choose_for_fits s id v e found (is_absent s.up root) (mixed_is s.kind mixed) undecided fits (chosen_state e.protocol e.state v) refl))))

-- ---- a participant is asked to complete

asked_fits : (s : ScopeState) (e : End) (next : CState) → is_some e.verdict ≡ false
    → completed_state e.protocol e.state ≡ Some next → ScopeFits s → end_fits (above s) e ≡ true
    → end_fits (above s) (end_in_state next e) ≡ true
asked_fits s e next undecided led_to fits fit =
    let a : Above = above s in
    let goes : Protocol → Option Verdict → CState → Bool = λ protocol ev from. end_goes a protocol ev (completed_state protocol from) in
    let at_e = end_passes (λ protocol state ev. only_if (is_open ev) (goes protocol ev) state) a
    (anywhere_above completing each_asking_keeps a fits.verdict) e.protocol e.state e.verdict fit in
    led (λ (to : CState). goes_with a e.protocol to e.verdict None) (completed_state e.protocol e.state) next led_to
    (where_asked (is_open e.verdict) (goes e.protocol e.verdict) e.state at_e (open_of e.verdict undecided))

complete_for_fits : (s : ScopeState) (id : Id) (e : End) → end_with_id s.ends id ≡ Some e → is_some e.verdict ≡ false → ScopeFits s
    → (o : Option CState) → completed_state e.protocol e.state ≡ o → AfterFits (complete_for s id o)
complete_for_fits s id e found undecided fits None is = fits
complete_for_fits s id e found undecided fits (Some next) is =
    found_changed_fits s id e (end_in_state next) found (record { id = λ x. refl; participant = λ x. refl })
    (asked_fits s e next undecided is fits) fits

second_false : (b c : Bool) → (b || c) ≡ false → c ≡ false
second_false true c h = absurd (true≢false h)
second_false false c h = h

pub complete_fits : (s : ScopeState) (id : Id) → ScopeFits s → ScopeFits (complete s id).after
complete_fits s id fits =
    by_option AfterFits (end_with_id s.ends id) (refused_step s NO_SUCH_END id) _ (λ none. fits) (λ e found.
    by_test AfterFits (is_some s.verdict || is_some e.verdict) (refused_step s ALREADY_DECIDED id) _ (λ decided. fits) (λ undecided.
    complete_for_fits s id e found (second_false (is_some s.verdict) (is_some e.verdict) undecided) fits
    (completed_state e.protocol e.state) refl))

-- ---- a root expires

both_true : (b c : Bool) → (b && c) ≡ true → (b ≡ true) × (c ≡ true)
both_true b c h = and_parts b c h

absent_by : {X : Type 0} (o : Option X) → is_none o ≡ true → o ≡ None
absent_by None h = refl
absent_by (Some x) h = absurd (true≢false (sym h))

expired_end_fits : (b : Above) (e : End) (v : Option Verdict) → e.verdict ≡ v
    → goes_pair b e.protocol (end_expired e.protocol e.state v) ≡ true
    → end_fits b (if is_none v then end_with_verdict Undo e else e) ≡ true
expired_end_fits b e None is h = h
expired_end_fits b e (Some v) is h = subst (λ (w : Option Verdict). goes_with b e.protocol e.state w None ≡ true) (sym is) h

expired_who : KeepsWho (end_with_verdict_if_none Undo)
expired_who = record {
  id = λ e. by_test (λ (x : End). x.id ≡ e.id) (is_none e.verdict) (end_with_verdict Undo e) e (λ h. refl) (λ h. refl);
  participant = λ e. by_test (λ (x : End). x.participant ≡ e.participant) (is_none e.verdict) (end_with_verdict Undo e) e
      (λ h. refl) (λ h. refl);
}

expired_verdict : (kind : Kind) → verdict_fits_above None kind (Some Undo) ≡ true
expired_verdict Atomic = refl
expired_verdict Mixed = refl

expired_fits : (s : ScopeState) → s.up ≡ None → s.verdict ≡ None → ScopeFits s
    → ScopeFits (record s { verdict = Some Undo; ends = map (end_with_verdict_if_none Undo) s.ends })
expired_fits s root undecided fits =
    let a : Above = record { up = None; kind = s.kind; verdict = None } in
    let b : Above = record { up = None; kind = s.kind; verdict = Some Undo } in
    let seen : above s ≡ a = (λ i. record { up = up_state (root i); kind = s.kind; verdict = undecided i }) in
    let after : above (record s { verdict = Some Undo }) ≡ b =
    (λ i. record { up = up_state (root i); kind = s.kind; verdict = Some Undo }) in
    let test : Test = λ protocol state ev. goes_pair b protocol (end_expired protocol state ev) in
    let each = each_kept a b (end_with_verdict_if_none Undo)
    (λ e fit. expired_end_fits b e e.verdict refl (end_passes test a (each_expiry_keeps s.kind) e.protocol e.state e.verdict fit))
    s.ends (subst (λ (x : Above). AllFit x s.ends) seen fits.ends) in
    record {
      ends = subst (λ (x : Above). AllFit x (map (end_with_verdict_if_none Undo) s.ends)) (sym after) each;
      verdict = subst (λ (x : Above). verdict_goes x ≡ true) (sym after) (expired_verdict s.kind);
      up = fits.up;
      apart = apart_kept (end_with_verdict_if_none Undo) expired_who s.ends fits.apart;
      ids = ids_kept s (end_with_verdict_if_none Undo) expired_who s.ends fits.ids;
      limit = fits.limit;
      few = rw (length-map s.ends (end_with_verdict_if_none Undo)) fits.few;
    }

pub expire_fits : (s : ScopeState) (now : ℕ) → ScopeFits s → ScopeFits (expire s now).after
expire_fits s now fits =
    by_test (λ (r : ScopeStep Bool). ScopeFits r.after) (is_expired s now) _ (record { after = s; answer = false })
    (λ past.
    let root = both_true (is_none s.up) (is_none s.verdict && is_past s.deadline now) past in
    let undecided = both_true (is_none s.verdict) (is_past s.deadline now) root.1 in
    expired_fits s (absent_by s.up root.0) (absent_by s.verdict undecided.0) fits)
    (λ _. fits)

-- ---- a new end

list_append : (test : End → Bool) (es : List End) (new : End) → list_all test es ≡ true → test new ≡ true
    → list_all test (es ++ new ∷ []) ≡ true
list_append test [] new h k = and_from (test new) true k refl
list_append test (e ∷ es) new h k =
    let both = and_parts (test e) (list_all test es) h in
    and_from (test e) (list_all test (es ++ new ∷ [])) both.0 (list_append test es new both.1 k)

apart_append : (new : End) (es : List End) → are_apart es ≡ true → list_all (λ e. is_other_end e new) es ≡ true
    → are_apart (es ++ new ∷ []) ≡ true
apart_append new [] apart other = refl
apart_append new (e ∷ es) apart other =
    let both = and_parts (list_all (is_other_end e) es) (are_apart es) apart in
    let others = and_parts (is_other_end e new) (list_all (λ x. is_other_end x new) es) other in
    and_from (list_all (is_other_end e) (es ++ new ∷ [])) (are_apart (es ++ new ∷ []))
    (list_append (is_other_end e) es new both.0 others.0) (apart_append new es both.1 others.1)

all_append : (a : Above) (es : List End) (new : End) → AllFit a es → end_fits a new ≡ true → AllFit a (es ++ new ∷ [])
all_append a [] new all fit = (fit, tt)
all_append a (e ∷ es) new all fit = (all.0, all_append a es new all.1 fit)

-- an Id and a participant that aren't found are no end's
others_than : (new : End) (es : List End) → end_with_id es new.id ≡ None → end_of es new.participant ≡ None
    → list_all (λ e. is_other_end e new) es ≡ true
others_than new [] by_id by_participant = refl
others_than new (e ∷ es) by_id by_participant =
    let ids = missed (λ (x : End). same_id x.id new.id) e es by_id in
    let participants = missed (λ (x : End). same_epr x.participant new.participant) e es by_participant in
    let here = and_from (not (same_id e.id new.id)) (not (same_epr e.participant new.participant)) ids.0 participants.0 in
    and_from (is_other_end e new) (list_all (λ x. is_other_end x new) es) here (others_than new es ids.1 participants.1)
  where
    by_head : (b : Bool) (e : End) (rest : Option End) → (if b then Some e else rest) ≡ None → (not b ≡ true) × (rest ≡ None)
    by_head true e rest h = cc
    by_head false e rest h = (refl, h)

    missed : (test : End → Bool) (e : End) (es : List End) → find test (e ∷ es) ≡ None → (not (test e) ≡ true) × (find test es ≡ None)
    missed test e es h = by_head (test e) e (find test es) h

-- where nothing is in the way of a new end
pub record Enrols (s : ScopeState) : Type 0 where
  pub answered : is_registering s.up ≡ false
  pub open_ : is_sealed s ≡ false
  pub room : is_full s ≡ false

enrols_by : (registering sealed full : Bool)
    → (if registering then Some NotYetEnrolled else if sealed then Some Sealed else if full then Some Full else None) ≡ None
    → (registering ≡ false) × (sealed ≡ false) × (full ≡ false)
enrols_by true sealed full h = cc
enrols_by false true full h = cc
enrols_by false false true h = cc
enrols_by false false false h = (refl, refl, refl)

first_false : (b c : Bool) → (b || c) ≡ false → b ≡ false
first_false true c h = absurd (true≢false h)
first_false false c h = refl

not_false : (b : Bool) → not b ≡ false → b ≡ true
not_false true h = refl
not_false false h = absurd (true≢false h)

takes_at : (p : PState) → part_among (part.Registering ∷ []) p ≡ false
    → part_among (part.Registering ∷ part.Active ∷ part.Completing ∷ []) p ≡ true → part_among (part.Active ∷ part.Completing ∷ []) p ≡ true
takes_at part.Registering h k = absurd (true≢false h)
takes_at (part.Ended Refused) h k = k
takes_at p h k = k

takes_up : (up : Option Part) → is_registering up ≡ false → is_at_work up ≡ true → takes_below (up_state up) ≡ true
takes_up None h k = refl
takes_up (Some up) h k = takes_at up.state h k

-- an Id that the scope hasn't is neither its own nor an end's
new_id_parts : (s : ScopeState) (id : Id) → not (has_id s id) ≡ true → (not (is_own_id s id) ≡ true) × (end_with_id s.ends id ≡ None)
new_id_parts s id h =
    let both = neither (is_own_id s id) (list_any (λ e. same_id e.id id) s.ends) h in
    (both.0, none_found s.ends both.1)
  where
    neither : (b c : Bool) → not (b || c) ≡ true → (not b ≡ true) × (c ≡ false)
    neither true c h = cc
    neither false true h = cc
    neither false false h = (refl, refl)

    by_head : (b : Bool) (e : End) (any : Bool) (rest : Option End) → (b || any) ≡ false → (any ≡ false → rest ≡ None)
        → (if b then Some e else rest) ≡ None
    by_head true e any rest h k = absurd (true≢false h)
    by_head false e any rest h k = k h

    none_found : (es : List End) → list_any (λ e. same_id e.id id) es ≡ false → end_with_id es id ≡ None
    none_found [] h = refl
    none_found (e ∷ es) h =
        by_head (same_id e.id id) e (list_any (λ x. same_id x.id id) es) (end_with_id es id) h (none_found es)

pub enrol_fits : (s : ScopeState) (id : Id) (protocol : Protocol) (participant : Epr) → end_of s.ends participant ≡ None
    → not (has_id s id) ≡ true → enrol_refusal s ≡ None → ScopeFits s → ScopeFits (scope_with_end s id protocol participant)
enrol_fits s id protocol participant by_participant new_id enrols fits =
    let ids = new_id_parts s id new_id in
    let a : Above = above s in
    let new : End = new_end id protocol participant in
    let clear = enrols_by (is_registering s.up) (is_sealed s) (is_full s) enrols in
    let undecided = open_of s.verdict (first_false (is_some s.verdict) (not (is_at_work s.up)) clear.1) in
    let at_work = not_false (is_at_work s.up) (second_false (is_some s.verdict) (not (is_at_work s.up)) clear.1) in
    let takes = and_from (is_open s.verdict) (takes_below (up_state s.up)) undecided (takes_up s.up clear.0 at_work) in
    let test : Protocol → Bool = λ p. goes_with a p end.Active None None in
    let each = where_asked (takes_one a) (λ b. list_all (λ p. goes_with b p end.Active None None) protocols) a
    (anywhere_above enrolling_at each_new_end_fits a fits.verdict) takes in
    let room : nat_le s.limit (length s.ends) ≡ false = clear.2 in
    record {
      ends = all_append a s.ends new fits.ends (protocol_passes test each protocol);
      verdict = fits.verdict;
      up = fits.up;
      apart = apart_append new s.ends fits.apart (others_than new s.ends ids.1 by_participant);
      ids = list_append (λ e. not (is_own_id s e.id)) s.ends new fits.ids ids.0;
      limit = fits.limit;
      few = room_for_one s.limit s.ends new room;
    }
  where
    room_for_one : (limit : ℕ) (es : List End) (new : End) → nat_le limit (length es) ≡ false → length (es ++ new ∷ []) ≤ limit
    room_for_one limit es new h = rw (length-append es (new ∷ [])) (grind (arith, nat_tests))

-- ---- the upward part's work is done, or it leaves

gone : (s : ScopeState) (up : Part) (next : PState) (test : CState → Bool) (number : ℕ) → s.up ≡ Some up → ScopeFits s
    → up_goes test (above_at up.state s) next ≡ true → part_fits (part_in_state next up) ≡ true
    → AfterFits (where_each_end s test number (done_step (with_up s (part_in_state next up))))
gone s up next test number is_up fits goes part =
    each_end_fits s test number (with_up s (part_in_state next up)) fits
    (λ ready. up_gone_fits s up (part_in_state next up) test is_up fits ready goes refl part)

acted_part_fits : (up : Part) (a : Act) (next : PState) → acted_state up.protocol up.state a ≡ Some next → part_fits up ≡ true
    → part_fits (part_in_state next up) ≡ true
acted_part_fits up a next is fits =
    let here = part_passes (acts_fit a up.protocol)
    (protocol_passes (λ protocol. list_all (acts_fit a protocol) parts) (each_act_fits a) up.protocol) up.state in
    let fit = where_asked (is_part_state up.protocol up.state)
    (λ before. if_leads (λ to. is_part_state up.protocol to && same_truth (has_no_coordinator before) (has_no_coordinator to))
    (acted_state up.protocol before a)) up.state here (own_part_state up fits) in
    part_in_fits up next fits
    (led (λ (to : PState). is_part_state up.protocol to && same_truth (has_no_coordinator up.state) (has_no_coordinator to))
    (acted_state up.protocol up.state a) next is fit)

finish_for_fits : (s : ScopeState) (up : Part) → s.up ≡ Some up → ScopeFits s → (o : Option PState)
    → acted_state up.protocol up.state act.Completed ≡ o → AfterFits (finish_for s up o)
finish_for_fits s up is_up fits None is = fits
finish_for_fits s up is_up fits (Some next) is =
    let a : Above = above_at up.state s in
    let by_state = above_passes (finishing_at up.state) a (part_passes finishing each_finish_keeps up.state)
    (verdict_below s up is_up fits) in
    let by_protocol = protocol_passes (λ protocol. if_leads (up_goes is_ready_state a) (acted_state protocol up.state act.Completed))
    by_state up.protocol in
    gone s up next is_ready_state NOT_READY is_up fits
    (led (up_goes is_ready_state a) (acted_state up.protocol up.state act.Completed) next is by_protocol)
    (acted_part_fits up act.Completed next is (part_above s up is_up fits))

pub finish_fits : (s : ScopeState) → ScopeFits s → ScopeFits (finish s).after
finish_fits s fits =
    by_option AfterFits s.up (refused_step s NOT_A_CHILD s.id) _ (λ root. fits)
    (λ up is_up. finish_for_fits s up is_up fits (acted_state up.protocol up.state act.Completed) refl)

leave_for_fits : (s : ScopeState) (how : Leave) (up : Part) → s.up ≡ Some up → may_leave up.state ≡ true → ScopeFits s → (o : Option PState)
    → acted_state up.protocol up.state (leave_act how) ≡ o → AfterFits (leave_for s up o)
leave_for_fits s how up is_up may fits None is = fits
leave_for_fits s how up is_up may fits (Some next) is =
    let a : Above = above_at up.state s in
    let by_state = above_passes (leaving_at how up.state) a (part_passes (leaving how) (each_leave_keeps how) up.state)
    (verdict_below s up is_up fits) in
    let leads : Protocol → PState → Bool = λ protocol p. if_leads (up_goes is_ended_state a) (acted_state protocol p (leave_act how)) in
    let by_protocol = protocol_passes (λ protocol. only_if (may_leave up.state) (leads protocol) up.state) by_state up.protocol in
    gone s up next is_ended_state NOT_DRAINED is_up fits
    (led (up_goes is_ended_state a) (acted_state up.protocol up.state (leave_act how)) next is
    (where_asked (may_leave up.state) (leads up.protocol) up.state by_protocol may))
    (acted_part_fits up (leave_act how) next is (part_above s up is_up fits))

pub leave_fits : (s : ScopeState) (how : Leave) → ScopeFits s → ScopeFits (leave_by s how).after
leave_fits s how fits =
    by_option AfterFits s.up (refused_step s NOT_A_CHILD s.id) _ (λ root. fits) (λ up is_up.
    by_test AfterFits (may_leave up.state) _ (refused_step s WRONG_STATE s.id)
    (λ may. leave_for_fits s how up is_up may fits (acted_state up.protocol up.state (leave_act how)) refl) (λ _. fits))

-- ---- the upward part is told where it stands

pub registering_is : (p : PState) → part_among (part.Registering ∷ []) p ≡ true → p ≡ part.Registering
registering_is part.Registering h = refl
registering_is (part.Ended Refused) h = absurd (true≢false (sym h))
registering_is p h = absurd (true≢false (sym h))

told_up_fits : (s : ScopeState) (up up2 : Part) → s.up ≡ Some up → is_registering (Some up) ≡ true
    → for_kinds (λ a. up_goes any_state a up2.state) (Some part.Registering) ≡ true → up2.id ≡ up.id → part_fits up2 ≡ true
    → ScopeFits s → ScopeFits (with_up s up2)
told_up_fits s up up2 is_up registering goes id has fits =
    let state = registering_is up.state registering in
    let verdict = subst (λ (p : PState). verdict_goes (above_at p s) ≡ true) state (verdict_below s up is_up fits) in
    let here = above_passes (λ a. up_goes any_state a up2.state) (above_at part.Registering s) goes verdict in
    up_gone_fits s up up2 any_state is_up fits (all_any s.ends)
    (subst (λ (p : PState). up_goes any_state (above_at p s) up2.state ≡ true) (sym state) here) id has
  where
    all_any : (es : List End) → AllByRecursion (λ (e : End). any_state e.state ≡ true) es
    all_any [] = tt
    all_any (e ∷ es) = (refl, all_any es)

each_protocol_at : (protocol : Protocol) (state : PState) → list_all (λ p. is_part_state p state) protocols ≡ true
    → is_part_state protocol state ≡ true
each_protocol_at protocol state h = protocol_passes (λ p. is_part_state p state) h protocol

no_coordinator : (up : Part) → is_registering (Some up) ≡ true → part_fits up ≡ true → is_none up.coordinator ≡ true
no_coordinator up registering fits =
    let both = and_parts (is_part_state up.protocol up.state)
    (if has_no_coordinator up.state then is_none up.coordinator else is_some up.coordinator) fits in
    subst (λ (p : PState). (if has_no_coordinator p then is_none up.coordinator else is_some up.coordinator) ≡ true)
    (registering_is up.state registering) both.1

pub enrolled_fits : (s : ScopeState) (coordinator : Epr) → is_registering s.up ≡ true → ScopeFits s
    → ScopeFits (enrolled_scope coordinator s)
enrolled_fits s coordinator registering fits = by_up s.up refl registering
  where
    by_up : (u : Option Part) → s.up ≡ u → is_registering u ≡ true → ScopeFits (enrolled_scope coordinator s)
    by_up None is h = absurd (true≢false (sym h))
    by_up (Some up) is h =
        subst (λ (u : Option Part). ScopeFits (record s { up = option_map (enrolled_part coordinator) u })) (sym is)
        (told_up_fits s up (enrolled_part coordinator up) is h each_enrolled_keeps refl
        (and_from (is_part_state up.protocol part.Active) true (each_protocol_at up.protocol part.Active refl) refl) fits)

pub refused_fits : (s : ScopeState) → is_registering s.up ≡ true → ScopeFits s → ScopeFits (refused_scope s)
refused_fits s registering fits = by_up s.up refl registering
  where
    by_up : (u : Option Part) → s.up ≡ u → is_registering u ≡ true → ScopeFits (refused_scope s)
    by_up None is h = absurd (true≢false (sym h))
    by_up (Some up) is h =
        subst (λ (u : Option Part). ScopeFits (record s { up = option_map refused_part u })) (sym is)
        (told_up_fits s up (refused_part up) is h each_refused_keeps refl
        (and_from (is_part_state up.protocol (part.Ended Refused)) (is_none up.coordinator)
        (each_protocol_at up.protocol (part.Ended Refused) refl) (no_coordinator up h (part_above s up is fits))) fits)

-- ---- notices and ticks

pub end_receive_fits : (s : ScopeState) (id : Id) (n : Notice) → ScopeFits s → ScopeFits (end_receive s id n).after
end_receive_fits s id n fits =
    by_option (λ (r : ScopeStep CRow). ScopeFits r.after) (end_with_id s.ends id) (record { after = s; answer = crow.Invalid }) _
    (λ none. fits) (λ e found. end_received_fits s id n fits)

pub up_receive_fits : (s : ScopeState) (n : Notice) → ScopeFits s → ScopeFits (up_receive s n).after
up_receive_fits s n fits =
    by_option (λ (r : ScopeStep PRow). ScopeFits r.after) s.up (record { after = s; answer = prow.Invalid }) _
    (λ root. fits) (λ up is_up. up_received_fits s up n is_up fits)

tick_who : KeepsWho (λ e. (tick_of_end e).after)
tick_who = record {
  id = λ e. by_test (λ (r : Tick End). r.after.id ≡ e.id) e.owes _ _ (λ h. refl)
      (λ h. by_test (λ (r : Tick End). r.after.id ≡ e.id) e.asks
      (record { after = record e { asks = false }; says = Some notice.GetStatus })
      (record { after = end_in_state (end_tick e.state).0 e; says = (end_tick e.state).1 }) (λ k. refl) (λ k. refl));
  participant = λ e. by_test (λ (r : Tick End). r.after.participant ≡ e.participant) e.owes _ _ (λ h. refl)
      (λ h. by_test (λ (r : Tick End). r.after.participant ≡ e.participant) e.asks
      (record { after = record e { asks = false }; says = Some notice.GetStatus })
      (record { after = end_in_state (end_tick e.state).0 e; says = (end_tick e.state).1 }) (λ k. refl) (λ k. refl));
}

ticked_end_fits : (a : Above) (e : End) → verdict_goes a ≡ true → end_fits a e ≡ true → end_fits a (tick_of_end e).after ≡ true
ticked_end_fits a e verdict fit =
    by_test (λ (r : Tick End). end_fits a r.after ≡ true) e.owes _ _ (λ h. fit)
    (λ h. by_test (λ (r : Tick End). end_fits a r.after ≡ true) e.asks
    (record { after = record e { asks = false }; says = Some notice.GetStatus })
    (record { after = end_in_state (end_tick e.state).0 e; says = (end_tick e.state).1 }) (λ k. fit)
    (λ k. end_passes (λ protocol state v. goes_with a protocol (end_tick state).0 v None) a
    (anywhere_above ticking each_tick_keeps a verdict) e.protocol e.state e.verdict fit))

pub tick_end_fits : (s : ScopeState) (id : Id) → ScopeFits s → ScopeFits (tick_end s id).after
tick_end_fits s id fits =
    by_option (λ (r : Tick ScopeState). ScopeFits r.after) (end_with_id s.ends id) (record { after = s; says = None }) _
    (λ none. fits)
    (λ e found. changed_fits s id (λ it. (tick_of_end it).after) tick_who (λ x here fit. ticked_end_fits (above s) x fits.verdict fit) fits)

-- a participant ticks in its state
pub ticked_part : (P : Part → Type 0) (p : Part) → P (record p { owes = false }) → P (record p { asks = false }) → P p
    → P (tick_of_part p).after
ticked_part P p owes asks same =
    by_test (λ (r : Tick Part). P r.after) p.owes _ _ (λ h. owes)
    (λ h. by_test (λ (r : Tick Part). P r.after) p.asks (record { after = record p { asks = false }; says = Some notice.GetStatus })
    (record { after = p; says = part_says p.state }) (λ k. asks) (λ k. same))

drained_up_fits : (s : ScopeState) (up : Part) (failed : Bool) → s.up ≡ Some up → ScopeFits s → is_drained s ≡ true
    → ScopeFits (with_up s (part_in_state (state_after_act up.protocol up.state (act_when_drained up.state failed)) up))
drained_up_fits s up failed is_up fits drained =
    let next : PState = state_after_act up.protocol up.state (act_when_drained up.state failed) in
    let a : Above = above_at up.state s in
    let by_state = above_passes (draining_at failed up.state) a (part_passes (draining failed) (each_draining_keeps failed) up.state)
    (verdict_below s up is_up fits) in
    let goes = protocol_passes (draining_for failed up.state a) by_state up.protocol in
    let part = part_above s up is_up fits in
    let here = part_passes (drained_fits failed up.protocol)
    (protocol_passes (λ protocol. list_all (drained_fits failed protocol) parts) (each_drained_fits failed) up.protocol) up.state in
    let fit = where_asked (is_part_state up.protocol up.state)
    (λ before. let to = state_after_act up.protocol before (act_when_drained before failed) in
    is_part_state up.protocol to && same_truth (has_no_coordinator before) (has_no_coordinator to)) up.state here
    (own_part_state up part) in
    up_gone_fits s up (part_in_state next up) is_ended_state is_up fits (all_ended s.ends drained) goes refl (part_in_fits up next part fit)
  where
    all_ended : (es : List End) → list_all (λ e. is_ended_state e.state) es ≡ true
        → AllByRecursion (λ (e : End). is_ended_state e.state ≡ true) es
    all_ended [] h = tt
    all_ended (e ∷ es) h =
        let both = and_parts (is_ended_state e.state) (list_all (λ x. is_ended_state x.state) es) h in
        (both.0, all_ended es both.1)

part_at_tick_fits : (s : ScopeState) (up : Part) → s.up ≡ Some up → ScopeFits s → ScopeFits (with_up s (part_at_tick s up))
part_at_tick_fits s up is_up fits =
    let same = same_up_fits s up up is_up fits refl refl (part_above s up is_up fits) in
    by_test (λ (p : Part). ScopeFits (with_up s p)) (up.owes || up.asks) up (part_in_state (state_at_tick s up) up) (λ flagged. same)
    (λ quiet. by_test (λ (p : PState). ScopeFits (with_up s (part_in_state p up))) (is_drained s)
    (state_after_act up.protocol up.state (act_when_drained up.state (any_failed s))) up.state
    (λ drained. drained_up_fits s up (any_failed s) is_up fits drained)
    (λ busy. same_up_fits s up (part_in_state up.state up) is_up fits refl refl (part_above s up is_up fits)))

pub tick_up_fits : (s : ScopeState) → ScopeFits s → ScopeFits (tick_up s).after
tick_up_fits s fits =
    by_option (λ (r : Tick ScopeState). ScopeFits r.after) s.up (record { after = s; says = None }) _ (λ root. fits)
    (λ up is_up.
    let acted = part_at_tick s up in
    let t : ScopeState = with_up s acted in
    let fit = part_at_tick_fits s up is_up fits in
    ticked_part (λ (p : Part). ScopeFits (with_up s p)) acted
    (same_up_fits t acted (record acted { owes = false }) refl fit refl refl (part_above t acted refl fit))
    (same_up_fits t acted (record acted { asks = false }) refl fit refl refl (part_above t acted refl fit)) fit)

-- ---- flags

flag_fits : (s : ScopeState) (id : Id) (part_has : Part → Bool) (part_with : Part → Part) (end_has : End → Bool) (end_with : End → End)
    → KeepsWho end_with → ((a : Above) (e : End) → end_fits a e ≡ true → end_fits a (end_with e) ≡ true)
    → ((p : Part) → (part_with p).state ≡ p.state) → ((p : Part) → (part_with p).id ≡ p.id)
    → ((p : Part) → part_fits p ≡ true → part_fits (part_with p) ≡ true)
    → ScopeFits s → ScopeFits (flag s id part_has part_with end_has end_with).after
flag_fits s id part_has part_with end_has end_with who keeps state same_id fit fits =
    by_option (λ (r : ScopeStep Bool). ScopeFits r.after) (end_with_id s.ends id) _ _
    (λ none. by_option (λ (r : ScopeStep Bool). ScopeFits r.after) s.up (record { after = s; answer = false }) _ (λ root. fits)
    (λ up is_up. by_test (λ (r : ScopeStep Bool). ScopeFits r.after) (is_enrolled_as id up) _ (record { after = s; answer = false })
    (λ enrolled. same_up_fits s up (part_with up) is_up fits (state up) (same_id up) (fit up (part_above s up is_up fits))) (λ _. fits)))
    (λ e found. changed_fits s id end_with who (λ x here h. keeps (above s) x h) fits)

pub owe_fits : (s : ScopeState) (id : Id) → ScopeFits s → ScopeFits (owe s id).after
owe_fits s id fits =
    flag_fits s id (λ p. p.owes) part_owing (λ e. e.owes) end_owing (record { id = λ e. refl; participant = λ e. refl })
    (λ a e h. h) (λ p. refl) (λ p. refl) (λ p h. h) fits

pub ask_fits : (s : ScopeState) (id : Id) → ScopeFits s → ScopeFits (ask s id).after
ask_fits s id fits =
    flag_fits s id (λ p. p.asks) part_asking (λ e. e.asks) end_asking (record { id = λ e. refl; participant = λ e. refl })
    (λ a e h. h) (λ p. refl) (λ p. refl) (λ p h. h) fits

-- ---- a new scope

pub new_scope_fits : (id : Id) (kind : Kind) (deadline : Option ℕ) (up : Option Part)
    → ((p : Part) → up ≡ Some p → is_registering (Some p) ≡ true)
    → up_fits up ≡ true → ScopeFits (new_scope id kind deadline up)
new_scope_fits id kind deadline up registering fits = record {
  ends = tt;
  verdict = at_start kind up registering;
  up = fits;
  apart = refl;
  ids = refl;
  few = lit≤ tt;
  limit = refl;
}
  where
    open_at : (kind : Kind) (p : PState) → p ≡ part.Registering → verdict_fits_above (Some p) kind None ≡ true
    open_at kind p is = subst (λ (q : PState). verdict_fits_above (Some q) kind None ≡ true) (sym is) refl

    at_start : (kind : Kind) (up : Option Part) → ((p : Part) → up ≡ Some p → is_registering (Some p) ≡ true)
        → verdict_fits_above (up_state up) kind None ≡ true
    at_start Atomic None h = refl
    at_start Mixed None h = refl
    at_start kind (Some p) h = open_at kind p.state (registering_is p.state (h p refl))
