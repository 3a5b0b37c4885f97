-- Tests of all that an end may be and may see of its scope: that each call of a scope keeps it fit, and that verdicts
-- may be set. The checker computes them.
use Rattle.std.proofs.Common.{◌≡◌, Bool, true, false, not, ◌&&◌, List, [], ◌∷◌, Option, None, Some, unwrap_or, is_some, refl}
use Rattle.std.proofs.lemmas.Bool.{and_parts}
use Rattle.std.specs.List.{list_all}
use Rattle.ba_core.specs.EndRows.{end_row, end_tick, chosen_state, completed_state}
use Rattle.ba_core.specs.PartRows.{part_row, acted_state, is_part_state}
use Rattle.ba_core.specs.declared.notices.Act.{Act}
use Rattle.ba_core.specs.declared.notices.Act.TheVariants as act
use Rattle.ba_core.specs.declared.notices.Leave.{Leave}
use Rattle.ba_core.specs.declared.notices.Leave.TheVariants as leave
use Rattle.ba_core.specs.declared.notices.Notice.{Notice}
use Rattle.ba_core.specs.declared.notices.Notice.TheVariants as notice
use Rattle.ba_core.specs.declared.protocols.Kind.{Kind}
use Rattle.ba_core.specs.declared.protocols.Kind.TheVariants.{Atomic, Mixed}
use Rattle.ba_core.specs.declared.protocols.Protocol.{Protocol}
use Rattle.ba_core.specs.declared.protocols.Verdict.{Verdict}
use Rattle.ba_core.specs.declared.protocols.Verdict.TheVariants.{Close, Undo}
use Rattle.ba_core.specs.declared.rows.CRow.{CRow}
use Rattle.ba_core.specs.declared.rows.CRow.TheVariants as crow
use Rattle.ba_core.specs.declared.rows.PRow.{PRow}
use Rattle.ba_core.specs.declared.rows.PRow.TheVariants as prow
use Rattle.ba_core.specs.declared.states.CState.{CState}
use Rattle.ba_core.specs.declared.states.CState.TheVariants as end
use Rattle.ba_core.specs.declared.states.How.TheVariants.{Failed, Exited, NotCompleted, Refused}
use Rattle.ba_core.specs.declared.states.PState.{PState}
use Rattle.ba_core.specs.declared.states.PState.TheVariants as part
use Rattle.ba_link.specs.Link.{settled_state}
use Rattle.ba_link.specs.States.{part_among}
use Rattle.ba_link.specs.Pairs.{is_open}
use Rattle.ba_link.proofs.Everywhere.{only_if, where_asked, protocols, protocol_passes, verdicts, verdict_passes, ends, state_passes, parts}
use Rattle.ba_link.proofs.Everywhere.{part_passes, at_place}
use Rattle.ba_scope.specs.Fits.{Above, goes_with, verdict_fits_above}
use Rattle.ba_scope_ends.specs.Parts.{act_when_drained, state_after_act, verdict_on_the_way, has_no_coordinator}
use Rattle.ba_scope_ends.specs.Ends.{is_ready_for, is_ended_state, is_ready_state}
use Rattle.ba_scope.specs.Rules.{leave_act, may_leave, verdict_then}

-- ---- all that an end may be, where it goes with what it sees

abbrev pub Test : Type 0
Test = Protocol → CState → Option Verdict → Bool

abbrev pub at_verdicts : Above → Test → Protocol → CState → Bool
at_verdicts a test protocol s = list_all (λ v. only_if (goes_with a protocol s v None) (test protocol s) v) verdicts

abbrev pub at_states : Above → Test → Protocol → Bool
at_states a test protocol = list_all (at_verdicts a test protocol) ends

-- the test, at each end that goes with this
abbrev pub at_ends : Test → Above → Bool
at_ends test a = list_all (at_states a test) protocols

pub end_passes : (test : Test) (a : Above) → at_ends test a ≡ true → (protocol : Protocol) (s : CState) (v : Option Verdict)
    → goes_with a protocol s v None ≡ true → test protocol s v ≡ true
end_passes test a h protocol s v fits =
    let by_protocol = protocol_passes (at_states a test) h protocol in
    let by_state = state_passes (at_verdicts a test protocol) by_protocol s in
    let by_verdict = verdict_passes (λ w. only_if (goes_with a protocol s w None) (test protocol s) w) by_state v in
    where_asked (goes_with a protocol s v None) (test protocol s) v by_verdict fits

-- ---- all that an end may see

abbrev pub kinds : List Kind
kinds = Atomic ∷ Mixed ∷ []

pub kind_passes : (test : Kind → Bool) → list_all test kinds ≡ true → (k : Kind) → test k ≡ true
kind_passes test h Atomic = at_place test kinds 0 Atomic refl h
kind_passes test h Mixed = at_place test kinds 1 Mixed refl h

abbrev pub with_up : Option PState → Kind → Option Verdict → Above
with_up up kind v = record { up = up; kind = kind; verdict = v }

abbrev pub for_verdicts : (Above → Bool) → Option PState → Kind → Bool
for_verdicts test up kind = list_all (λ v. only_if (verdict_fits_above up kind v) (λ w. test (with_up up kind w)) v) verdicts

abbrev pub for_kinds : (Above → Bool) → Option PState → Bool
for_kinds test up = list_all (for_verdicts test up) kinds

pub above_passes : (test : Above → Bool) (a : Above) → for_kinds test a.up ≡ true → verdict_fits_above a.up a.kind a.verdict ≡ true
    → test a ≡ true
above_passes test a h fits =
    let by_kind = kind_passes (for_verdicts test a.up) h a.kind in
    let by_verdict = verdict_passes (λ v. only_if (verdict_fits_above a.up a.kind v) (λ w. test (with_up a.up a.kind w)) v)
    by_kind a.verdict in
    where_asked (verdict_fits_above a.up a.kind a.verdict) (λ w. test (with_up a.up a.kind w)) a.verdict by_verdict fits

-- the test at a root, and below each upward part
abbrev pub everywhere_above : (Above → Bool) → Bool
everywhere_above test = for_kinds test None && list_all (λ p. for_kinds test (Some p)) parts

pub anywhere_above : (test : Above → Bool) → everywhere_above test ≡ true → (a : Above) → verdict_fits_above a.up a.kind a.verdict ≡ true
    → test a ≡ true
anywhere_above test h a fits = above_passes test a (up_passes test h a.up) fits
  where
    up_passes : (test : Above → Bool) → everywhere_above test ≡ true → (up : Option PState) → for_kinds test up ≡ true
    up_passes test h None = (and_parts (for_kinds test None) (list_all (λ p. for_kinds test (Some p)) parts) h).0
    up_passes test h (Some p) =
        part_passes (λ q. for_kinds test (Some q)) (and_parts (for_kinds test None) (list_all (λ q. for_kinds test (Some q)) parts) h).1 p

-- ---- an end moves, and its scope stays

abbrev pub row_keeps : Above → Protocol → Option Verdict → CRow → Bool
row_keeps a protocol v crow.Invalid = true
row_keeps a protocol v (crow.Row next prompt) = goes_with a protocol (settled_state protocol next v) v None

abbrev pub notices : List Notice
notices =
    notice.Complete ∷ notice.Close ∷ notice.Cancel ∷ notice.Compensate ∷ notice.Failed ∷ notice.Exited ∷ notice.NotCompleted
    ∷ notice.Completed ∷ notice.Closed ∷ notice.Canceled ∷ notice.Compensated ∷ notice.Fail ∷ notice.Exit ∷ notice.CannotComplete
    ∷ notice.GetStatus ∷ []

abbrev pub receiving : Notice → Above → Bool
receiving n a = at_ends (λ protocol s v. row_keeps a protocol v (end_row protocol s n)) a

pub each_notice_keeps : (n : Notice) → everywhere_above (receiving n) ≡ true
each_notice_keeps notice.Complete = refl
each_notice_keeps n = refl

abbrev pub ticking : Above → Bool
ticking a = at_ends (λ protocol s v. goes_with a protocol (end_tick s).0 v None) a

pub each_tick_keeps : everywhere_above ticking ≡ true
each_tick_keeps = refl

-- ---- a verdict is set on the scope and on each end

-- what a scope's ends see after their scope's verdict
abbrev pub told_above : Option PState → Kind → Verdict → Above
told_above up kind v = with_up up kind (Some v)

abbrev pub telling : Above → Verdict → (CState → Bool) → Above → Bool
telling after v ready a = at_ends (λ protocol s ev. only_if (ready s)
    (λ from. goes_with after protocol (unwrap_or (chosen_state protocol from v) from) (Some v) None) s) a

abbrev pub undecided : Above
undecided = with_up None Atomic None

pub decision_keeps : (v : Verdict) → telling (told_above None Atomic v) v (is_ready_for v) undecided ≡ true
decision_keeps Close = refl
decision_keeps Undo = refl

-- ---- the upward part receives

-- the states to which a participant's rows lead from a state
abbrev pub rows_lead : PState → List PState
rows_lead part.Active = part.Active ∷ part.Completing ∷ part.Canceling ∷ []
rows_lead part.Completing = part.Completing ∷ part.Canceling ∷ []
rows_lead part.Completed = part.Completed ∷ part.Closing ∷ part.Compensating ∷ []
rows_lead part.FailingActive = part.FailingActive ∷ part.Ended Failed ∷ []
rows_lead part.FailingCompleting = part.FailingCompleting ∷ part.Ended Failed ∷ []
rows_lead part.FailingCanceling = part.FailingCanceling ∷ part.Ended Failed ∷ []
rows_lead part.FailingCompensating = part.FailingCompensating ∷ part.Ended Failed ∷ []
rows_lead part.NotCompleting = part.NotCompleting ∷ part.Ended NotCompleted ∷ []
rows_lead part.Exiting = part.Exiting ∷ part.Ended Exited ∷ []
rows_lead p = p ∷ []

abbrev pub row_leads : PState → PRow → Bool
row_leads before prow.Invalid = true
row_leads before (prow.Row next prompt) = part_among (rows_lead before) next

abbrev pub row_known : Protocol → Notice → PState → Bool
row_known protocol n p = row_leads p (part_row protocol p n)

pub rows_are_known : (n : Notice) → list_all (λ protocol. list_all (row_known protocol n) parts) protocols ≡ true
rows_are_known notice.Complete = refl
rows_are_known n = refl

-- what the ends see after the upward part has moved from one state to another
abbrev pub moved_above : PState → PState → Above → Above
moved_above before next a = with_up (Some next) a.kind (verdict_then (verdict_on_the_way before next) a.verdict)

abbrev pub end_after_verdict : Option Verdict → Protocol → CState → Option Verdict → CState × Option Verdict
end_after_verdict None protocol s ev = (s, ev)
end_after_verdict (Some v) protocol s ev = (unwrap_or (chosen_state protocol s v) s, Some v)

abbrev pub goes_pair : Above → Protocol → CState × Option Verdict → Bool
goes_pair a protocol x = goes_with a protocol x.0 x.1 None

abbrev pub handing : PState → PState → Above → Bool
handing before next a =
    let after = moved_above before next a in
    verdict_fits_above after.up after.kind after.verdict
    && at_ends (λ protocol s ev. goes_pair after protocol (end_after_verdict (verdict_on_the_way before next) protocol s ev)) a

abbrev pub handings : PState → PState → Bool
handings before next = only_if (part_among (rows_lead before) next) (λ to. for_kinds (handing before to) (Some before)) next

pub each_handing_keeps : list_all (λ before. list_all (handings before) parts) parts ≡ true
each_handing_keeps = refl

-- ---- the upward part goes to another state, and the scope's verdict stays

-- the test of the state that a rule leads to, where it leads to one
abbrev pub if_leads : {S : Type 0} → (S → Bool) → Option S → Bool
if_leads test None = true
if_leads test (Some next) = test next

-- ends that pass the test go with the upward part in its next state
abbrev pub up_goes : (CState → Bool) → Above → PState → Bool
up_goes ready a next =
    let after : Above = with_up (Some next) a.kind a.verdict in
    verdict_fits_above after.up after.kind after.verdict
    && at_ends (λ own s ev. only_if (ready s) (λ from. goes_with after own from ev None) s) a

-- its scope is drained as it ticks
abbrev pub draining_for : Bool → PState → Above → Protocol → Bool
draining_for failed before a protocol = up_goes is_ended_state a (state_after_act protocol before (act_when_drained before failed))

abbrev pub draining_at : Bool → PState → Above → Bool
draining_at failed before a = list_all (draining_for failed before a) protocols

abbrev pub draining : Bool → PState → Bool
draining failed before = for_kinds (draining_at failed before) (Some before)

pub each_draining_keeps : (failed : Bool) → list_all (draining failed) parts ≡ true
each_draining_keeps true = refl
each_draining_keeps false = refl

-- its work is done
abbrev pub finishing_at : PState → Above → Bool
finishing_at before a = list_all (λ protocol. if_leads (up_goes is_ready_state a) (acted_state protocol before act.Completed)) protocols

abbrev pub finishing : PState → Bool
finishing before = for_kinds (finishing_at before) (Some before)

pub each_finish_keeps : list_all finishing parts ≡ true
each_finish_keeps = refl

-- it leaves
abbrev pub leaving_at : Leave → PState → Above → Bool
leaving_at how before a =
    list_all (λ protocol. only_if (may_leave before) (λ p. if_leads (up_goes is_ended_state a) (acted_state protocol p (leave_act how)))
    before) protocols

abbrev pub leaving : Leave → PState → Bool
leaving how before = for_kinds (leaving_at how before) (Some before)

pub each_leave_keeps : (how : Leave) → list_all (leaving how) parts ≡ true
each_leave_keeps leave.Exit = refl
each_leave_keeps leave.CannotComplete = refl
each_leave_keeps leave.Fail = refl

-- it is told where it stands
abbrev pub any_state : CState → Bool
any_state s = true

pub each_enrolled_keeps : for_kinds (λ a. up_goes any_state a part.Active) (Some part.Registering) ≡ true
each_enrolled_keeps = refl

pub each_refused_keeps : for_kinds (λ a. up_goes any_state a (part.Ended Refused)) (Some part.Registering) ≡ true
each_refused_keeps = refl

-- ---- one end of a scope is told something, and the scope stays

-- the end in the state that a rule leads to, where it leads to one
abbrev pub end_goes : Above → Protocol → Option Verdict → Option CState → Bool
end_goes a protocol v = if_leads (λ next. goes_with a protocol next v None)

-- a verdict of its own, in a MixedOutcome root
abbrev pub choosing : Verdict → Above → Bool
choosing v a = at_ends (λ protocol s ev. only_if (is_open ev) (λ from. end_goes a protocol (Some v) (chosen_state protocol from v)) s) a

pub each_choice_keeps : (v : Verdict) → for_verdicts (choosing v) None Mixed ≡ true
each_choice_keeps Close = refl
each_choice_keeps Undo = refl

-- its participant is asked to complete
abbrev pub completing : Above → Bool
completing a = at_ends (λ protocol s ev. only_if (is_open ev) (λ from. end_goes a protocol ev (completed_state protocol from)) s) a

pub each_asking_keeps : everywhere_above completing ≡ true
each_asking_keeps = refl

-- a root expires
abbrev pub end_expired : Protocol → CState → Option Verdict → CState × Option Verdict
end_expired protocol s None = (unwrap_or (chosen_state protocol s Undo) s, Some Undo)
end_expired protocol s (Some v) = (s, Some v)

abbrev pub expiring : Kind → Bool
expiring kind = at_ends (λ protocol s ev. goes_pair (with_up None kind (Some Undo)) protocol (end_expired protocol s ev))
    (with_up None kind None)

pub each_expiry_keeps : (kind : Kind) → expiring kind ≡ true
each_expiry_keeps Atomic = refl
each_expiry_keeps Mixed = refl

-- ---- a new end

-- a scope below this takes one
abbrev pub takes_below : Option PState → Bool
takes_below None = true
takes_below (Some p) = part_among (part.Active ∷ part.Completing ∷ []) p

abbrev pub takes_one : Above → Bool
takes_one a = is_open a.verdict && takes_below a.up

abbrev pub enrolling_at : Above → Bool
enrolling_at a = only_if (takes_one a) (λ b. list_all (λ protocol. goes_with b protocol end.Active None None) protocols) a

pub each_new_end_fits : everywhere_above enrolling_at ≡ true
each_new_end_fits = refl

-- a row leads to a state of the protocol, and neither from nor to where a participant has no coordinator

abbrev pub same_truth : Bool → Bool → Bool
same_truth true b = b
same_truth false b = not b

abbrev pub part_row_fits : Protocol → PState → PRow → Bool
part_row_fits protocol before prow.Invalid = true
part_row_fits protocol before (prow.Row next prompt) =
    is_part_state protocol next && same_truth (has_no_coordinator before) (has_no_coordinator next)

abbrev pub part_rows_fit : Notice → Protocol → PState → Bool
part_rows_fit n protocol p = only_if (is_part_state protocol p) (λ before. part_row_fits protocol before (part_row protocol before n)) p

pub each_part_row_fits : (n : Notice) → list_all (λ protocol. list_all (part_rows_fit n protocol) parts) protocols ≡ true
each_part_row_fits notice.Complete = refl
each_part_row_fits n = refl

-- an act leads to such a state
abbrev pub acts_fit : Act → Protocol → PState → Bool
acts_fit a protocol p =
    only_if (is_part_state protocol p) (λ before. if_leads
    (λ to. is_part_state protocol to && same_truth (has_no_coordinator before) (has_no_coordinator to))
    (acted_state protocol before a)) p

pub each_act_fits : (a : Act) → list_all (λ protocol. list_all (acts_fit a protocol) parts) protocols ≡ true
each_act_fits act.Completed = refl
each_act_fits a = refl

abbrev pub drained_fits : Bool → Protocol → PState → Bool
drained_fits failed protocol p =
    only_if (is_part_state protocol p) (λ before. let next =
    state_after_act protocol before (act_when_drained before failed) in is_part_state protocol next
    && same_truth (has_no_coordinator before) (has_no_coordinator next)) p

pub each_drained_fits : (failed : Bool) → list_all (λ protocol. list_all (drained_fits failed protocol) parts) protocols ≡ true
each_drained_fits true = refl
each_drained_fits false = refl

-- ---- that verdicts may be set, and that a scope isn't unsealed

abbrev pub allows : Option Verdict → Protocol → CState → Option Verdict → Bool
allows None protocol s ev = true
allows (Some v) protocol s ev = is_open ev && is_some (chosen_state protocol s v)

abbrev pub deciding_allows : Verdict → Bool
deciding_allows v = at_ends (λ protocol s ev. only_if (is_ready_for v s) (λ from. allows (Some v) protocol from ev) s) undecided

pub each_decision_allows : (v : Verdict) → deciding_allows v ≡ true
each_decision_allows Close = refl
each_decision_allows Undo = refl

abbrev pub handing_allows : PState → PState → Above → Bool
handing_allows before next a = at_ends (allows (verdict_on_the_way before next)) a

abbrev pub handings_allow : PState → PState → Bool
handings_allow before next = only_if (part_among (rows_lead before) next) (λ to. for_kinds (handing_allows before to) (Some before)) next

pub each_handing_allows : list_all (λ before. list_all (handings_allow before) parts) parts ≡ true
each_handing_allows = refl

abbrev pub is_open_state : PState → Bool
is_open_state = part_among (part.Registering ∷ part.Active ∷ part.Completing ∷ [])

-- an act leads to a state that isn't open
abbrev pub act_closes : Act → Protocol → PState → Bool
act_closes a protocol p = if_leads (λ to. not (is_open_state to)) (acted_state protocol p a)

pub each_act_closes : (a : Act) → list_all (λ protocol. list_all (act_closes a protocol) parts) protocols ≡ true
each_act_closes act.Completed = refl
each_act_closes a = refl

-- where the state after it is open, so is the one before it
abbrev pub no_reopening : PState → PState → Bool
no_reopening before next = only_if (part_among (rows_lead before) next)
    (λ to. only_if (is_open_state to) (λ _. is_open_state before) to) next

pub rows_reopen_none : list_all (λ before. list_all (no_reopening before) parts) parts ≡ true
rows_reopen_none = refl

abbrev pub drained_reopens_none : Bool → Protocol → PState → Bool
drained_reopens_none failed protocol before =
    only_if (is_open_state (state_after_act protocol before (act_when_drained before failed))) (λ p. is_open_state p) before

pub each_drained_reopens_none : (failed : Bool)
    → list_all (λ protocol. list_all (drained_reopens_none failed protocol) parts) protocols ≡ true
each_drained_reopens_none true = refl
each_drained_reopens_none false = refl
