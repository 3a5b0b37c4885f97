-- The plans of notices: an end or a participant moves by its row, where it stands.
use Rattle.std.proofs.Common.{◌≡◌, ℕ, Bool, true, false, not, ◌||◌, [], ◌∷◌, IsTrue, Option, None, Some, refl, sym, ap, ◌∙◌, subst}
use Rattle.std.proofs.Common.{if◌then◌else◌}
use Rattle.ba_core.specs.EndRows.{end_row}
use Rattle.ba_core.specs.Messages.{is_column}
use Rattle.ba_core.specs.PartRows.{part_row}
use Rattle.ba_core.specs.declared.codes.Code.TheVariants as code
use Rattle.ba_core.specs.declared.identifiers.Id.{Id}
use Rattle.ba_core.specs.declared.notices.Notice.{Notice}
use Rattle.ba_core.specs.declared.notices.Notice.TheVariants as notice
use Rattle.ba_core.specs.declared.rows.CRow.{CRow}
use Rattle.ba_core.specs.declared.rows.CRow.TheVariants as crow
use Rattle.ba_core.specs.declared.rows.PRow.{PRow}
use Rattle.ba_core.specs.declared.rows.PRow.TheVariants as prow
use Rattle.ba_core.specs.declared.states.CState.{CState}
use Rattle.ba_core.specs.declared.states.How.TheVariants as how
use Rattle.ba_core.specs.declared.states.PState.{PState}
use Rattle.ba_core.specs.declared.states.PState.TheVariants as part
use Rattle.ba_link.specs.Link.{settled_state}
use Rattle.ba_link.specs.States.{part_among}
use Rattle.ba_node_plans.proofs.Asked.{true_branch}
use Rattle.ba_node_plans.proofs.Planned.{found_step, lone_written, none_step, scope_written}
use Rattle.ba_node_objects.specs.Changes.{changed_node}
use Rattle.ba_node_objects.specs.declared.changes.Change.TheVariants as changes
use Rattle.ba_node_objects.specs.declared.changes.PartChange.TheVariants as by_part
use Rattle.ba_node_objects.specs.declared.changes.ScopeChange.TheVariants as by_scope
use Rattle.ba_node_objects.specs.Finds.{FindsEnd, FindsLone, FindsUp, end_at}
use Rattle.ba_record.specs.declared.records.Record.{Record}
use Rattle.ba_record.specs.declared.records.Record.TheVariants as journal
use Rattle.ba_scope.proofs.Lists.{false_branch, some_branch}
use Rattle.ba_scope_ends.specs.Ends.{end_after_notice, end_with_id}
use Rattle.ba_scope_ends.specs.Parts.{has_no_coordinator, is_registering, state_after_row}
use Rattle.ba_scope.specs.Rules.{ScopeStep, end_receive, up_receive, with_end_changed, with_up_moved}
use Rattle.ba_scope.specs.Scope.{ScopeState}
use Rattle.ba_scope_ends.specs.declared.ends.End.{End}
use Rattle.ba_scope_ends.specs.declared.parts.Part.{Part}
use Rattle.ba_node_steps.proofs.Own.{end_changed, moved_own, notice_who}
use Rattle.ba_node_steps.specs.Fits.{NodeFits}
use Rattle.ba_node_steps.specs.Node.{EndPlace, NodeState, PartPlace, counter, end_place, with_scope}
use Rattle.ba_node_steps.specs.Steps.{NodeStep, accepted_step, again_step, fault_step, is_get_status, is_status, on_end_asked, on_end_notice}
use Rattle.ba_node_steps.specs.Steps.{on_end_row, on_lone_row, on_part_asked, on_part_heard, on_up_row, same_end_state, same_part_state}
use Rattle.ba_node_steps.specs.Steps.{wake_of_end, wake_of_up, written_step}
use Rattle.ba_node_steps.specs.declared.answers.Reply.TheVariants as reply
use Rattle.ba_node_steps.specs.declared.answers.Wake.TheVariants as wake

-- ---- an end

-- no row, and a row that keeps the state
pub end_has_no_row : (n : NodeState) (s : ScopeState) (e : End) (m : Notice) → end_row e.protocol e.state m ≡ crow.Invalid
    → fault_step n code.InvalidState ≡ on_end_row n s e m (end_row e.protocol e.state m)
end_has_no_row n s e m is = ap (on_end_row n s e m) (sym is)

pub end_stays : (n : NodeState) (s : ScopeState) (e : End) (m : Notice) (next : CState) (prompt : Bool)
    → end_row e.protocol e.state m ≡ crow.Row next prompt → same_end_state e.state (settled_state e.protocol next e.verdict) ≡ true
    → again_step n e.id prompt ≡ on_end_row n s e m (end_row e.protocol e.state m)
end_stays n s e m next prompt is same =
    sym (ap (on_end_row n s e m) is
    ∙ true_branch (same_end_state e.state (settled_state e.protocol next e.verdict)) (again_step n e.id prompt) _ same)

pub end_moves : (n : NodeState) (id : Id) (place : ℕ) (s : ScopeState) (e : End) (m : Notice) (next settled : CState) (prompt : Bool)
    → NodeFits n → FindsEnd n id place s e → end_row e.protocol e.state m ≡ crow.Row next prompt
    → settled ≡ settled_state e.protocol next e.verdict → same_end_state e.state settled ≡ false
    → written_step (changed_node n (changes.Scope place (by_scope.EndReceive e.id m))) reply.Accepted
    (journal.Received (counter e.id) m) (wake_of_end s e.id settled)
    ≡ on_end_row n s e m (end_row e.protocol e.state m)
end_moves n id place s e m next settled prompt fits finds is settles moves =
    let found : end_with_id s.ends e.id ≡ Some e = subst (λ (i : Id). end_with_id s.ends i ≡ Some e) (sym finds.is) finds.found in
    let after : (end_receive s e.id m).after ≡ with_end_changed e.id (end_after_notice m) s =
    ap (λ (t : ScopeStep CRow). t.after) (some_branch (end_with_id s.ends e.id) _ _ e found) in
    let k : Record = journal.Received (counter e.id) m in
    let there : CState = settled_state e.protocol next e.verdict in
    let moves_there : same_end_state e.state there ≡ false = subst (λ (x : CState). same_end_state e.state x ≡ false) settles moves in
    scope_written n place s (with_end_changed e.id (end_after_notice m) s) (by_scope.EndReceive e.id m) k (wake_of_end s e.id settled) fits
    finds.at after (end_changed s e.id (end_after_notice m) (notice_who m)).own
    ∙ ap (λ (x : CState). written_step (with_scope n (with_end_changed e.id (end_after_notice m) s)) reply.Accepted k
    (wake_of_end s e.id x)) settles
    ∙ sym (ap (on_end_row n s e m) is ∙ false_branch (same_end_state e.state there) (again_step n e.id prompt) _ moves_there)

-- ---- a lone participant

pub lone_has_no_row : (n : NodeState) (p : Part) (m : Notice) → part_row p.protocol p.state m ≡ prow.Invalid
    → fault_step n code.InvalidState ≡ on_lone_row n p m (part_row p.protocol p.state m)
lone_has_no_row n p m is = ap (on_lone_row n p m) (sym is)

pub lone_stays : (n : NodeState) (p : Part) (m : Notice) (next : PState) (prompt : Bool)
    → part_row p.protocol p.state m ≡ prow.Row next prompt → same_part_state p.state next ≡ true
    → again_step n p.id prompt ≡ on_lone_row n p m (part_row p.protocol p.state m)
lone_stays n p m next prompt is same =
    sym (ap (on_lone_row n p m) is ∙ true_branch (same_part_state p.state next) (again_step n p.id prompt) _ same)

pub lone_moves : (n : NodeState) (id : Id) (place : ℕ) (p : Part) (m : Notice) (next : PState) (prompt : Bool) → NodeFits n
    → FindsLone n id place p → part_row p.protocol p.state m ≡ prow.Row next prompt → same_part_state p.state next ≡ false
    → written_step (changed_node n (changes.Part place (by_part.Move next))) reply.Accepted
    (journal.Received (counter p.id) m) (wake.One p.id)
    ≡ on_lone_row n p m (part_row p.protocol p.state m)
lone_moves n id place p m next prompt fits finds is moves =
    lone_written n place p (by_part.Move next) (journal.Received (counter p.id) m) (wake.One p.id) fits finds.at refl
    ∙ sym (ap (on_lone_row n p m) is ∙ false_branch (same_part_state p.state next) (again_step n p.id prompt) _ moves)

-- ---- a scope's own participant

pub up_has_no_row : (n : NodeState) (s : ScopeState) (p : Part) (m : Notice) → part_row p.protocol p.state m ≡ prow.Invalid
    → fault_step n code.InvalidState ≡ on_up_row n s p m (part_row p.protocol p.state m)
up_has_no_row n s p m is = ap (on_up_row n s p m) (sym is)

pub up_stays : (n : NodeState) (s : ScopeState) (p : Part) (m : Notice) (next : PState) (prompt : Bool)
    → part_row p.protocol p.state m ≡ prow.Row next prompt → same_part_state p.state next ≡ true
    → again_step n p.id prompt ≡ on_up_row n s p m (part_row p.protocol p.state m)
up_stays n s p m next prompt is same =
    sym (ap (on_up_row n s p m) is ∙ true_branch (same_part_state p.state next) (again_step n p.id prompt) _ same)

pub up_moves : (n : NodeState) (id : Id) (place : ℕ) (s : ScopeState) (p : Part) (m : Notice) (next : PState) (prompt : Bool) → NodeFits n
    → FindsUp n id place s p → part_row p.protocol p.state m ≡ prow.Row next prompt → same_part_state p.state next ≡ false
    → written_step (changed_node n (changes.Scope place (by_scope.UpReceive m))) reply.Accepted
    (journal.Received (counter p.id) m) (wake_of_up s p next)
    ≡ on_up_row n s p m (part_row p.protocol p.state m)
up_moves n id place s p m next prompt fits finds is moves =
    let by_row : PRow → ScopeState = λ row. with_up_moved s p (state_after_row p.state row) in
    let after : (up_receive s m).after ≡ with_up_moved s p next =
    ap (λ (t : ScopeStep PRow). t.after) (some_branch s.up _ _ p finds.up) ∙ ap by_row is in
    scope_written n place s (with_up_moved s p next) (by_scope.UpReceive m) (journal.Received (counter p.id) m) (wake_of_up s p next) fits
    finds.at after (moved_own s p next finds.up).own
    ∙ sym (ap (on_up_row n s p m) is ∙ false_branch (same_part_state p.state next) (again_step n p.id prompt) _ moves)

-- ---- what a participant hears

pub hears_nothing : (n : NodeState) (place : PartPlace) (p : Part) (m : Notice) (by_row : NodeStep) → has_no_coordinator p.state ≡ true
    → accepted_step n ≡ on_part_heard n place p m by_row
hears_nothing n place p m by_row h =
    sym (true_branch (is_status m || has_no_coordinator p.state) (accepted_step n) _ (either (is_status m) (has_no_coordinator p.state) h))
  where
    either : (a b : Bool) → b ≡ true → (a || b) ≡ true
    either true b h = refl
    either false b h = h

pub hears_status : (n : NodeState) (place : PartPlace) (p : Part) (m : Notice) (by_row : NodeStep) → is_status m ≡ true
    → accepted_step n ≡ on_part_heard n place p m by_row
hears_status n place p m by_row h =
    sym (true_branch (is_status m || has_no_coordinator p.state) (accepted_step n) _ (either (is_status m) (has_no_coordinator p.state) h))
  where
    either : (a b : Bool) → a ≡ true → (a || b) ≡ true
    either true b h = refl
    either false b h = absurd cc

neither : (a b : Bool) → a ≡ false → b ≡ false → (a || b) ≡ false
neither true b h k = absurd cc
neither false b h k = k

pub hears_get_status : (n : NodeState) (place : PartPlace) (p : Part) (m : Notice) (by_row : NodeStep) → is_status m ≡ false
    → has_no_coordinator p.state ≡ false → is_get_status m ≡ true → on_part_asked n place p ≡ on_part_heard n place p m by_row
hears_get_status n place p m by_row other answered asked =
    sym (false_branch (is_status m || has_no_coordinator p.state) (accepted_step n) _ (neither (is_status m)
    (has_no_coordinator p.state) other answered)
    ∙ true_branch (is_get_status m) (on_part_asked n place p) by_row asked)

pub hears_row : (n : NodeState) (place : PartPlace) (p : Part) (m : Notice) (by_row : NodeStep) → is_status m ≡ false
    → has_no_coordinator p.state ≡ false → is_get_status m ≡ false → by_row ≡ on_part_heard n place p m by_row
hears_row n place p m by_row other answered column =
    sym (false_branch (is_status m || has_no_coordinator p.state) (accepted_step n) _ (neither (is_status m)
    (has_no_coordinator p.state) other answered)
    ∙ false_branch (is_get_status m) (on_part_asked n place p) by_row column)

-- below a participant that has a coordinator a scope isn't Registering
registers_not : (s : PState) → IsTrue (not (has_no_coordinator s)) → IsTrue (not (part_among (part.Registering ∷ []) s))
registers_not part.Registering h = absurd cc
registers_not (part.Ended how.Refused) h = absurd cc
registers_not (part.Ended how.Canceled) h = refl
registers_not (part.Ended how.Closed) h = refl
registers_not (part.Ended how.Compensated) h = refl
registers_not (part.Ended how.Failed) h = refl
registers_not (part.Ended how.Exited) h = refl
registers_not (part.Ended how.NotCompleted) h = refl
registers_not part.Active h = refl
registers_not part.Completing h = refl
registers_not part.Completed h = refl
registers_not part.Closing h = refl
registers_not part.Canceling h = refl
registers_not part.Compensating h = refl
registers_not part.Exiting h = refl
registers_not part.NotCompleting h = refl
registers_not part.FailingActive h = refl
registers_not part.FailingCompleting h = refl
registers_not part.FailingCanceling h = refl
registers_not part.FailingCompensating h = refl

pub answered_above : (s : ScopeState) (p : Part) → s.up ≡ Some p → IsTrue (not (has_no_coordinator p.state))
    → IsTrue (not (is_registering s.up))
answered_above s p up answered =
    subst (λ (o : Option Part). IsTrue (not (is_registering o))) (sym up) (registers_not p.state answered)

-- ---- a notice that is neither Status nor GetStatus has a column

pub column_of : (m : Notice) → is_status m ≡ false → is_get_status m ≡ false → IsTrue (is_column m)
column_of notice.GetStatus h k = absurd cc
column_of (notice.Status name) h k = absurd cc
column_of notice.Complete h k = refl
column_of notice.Close h k = refl
column_of notice.Cancel h k = refl
column_of notice.Compensate h k = refl
column_of notice.Failed h k = refl
column_of notice.Exited h k = refl
column_of notice.NotCompleted h k = refl
column_of notice.Completed h k = refl
column_of notice.Closed h k = refl
column_of notice.Canceled h k = refl
column_of notice.Compensated h k = refl
column_of notice.Fail h k = refl
column_of notice.Exit h k = refl
column_of notice.CannotComplete h k = refl

-- ---- what an end hears

abbrev noticing : NodeState → Notice → EndPlace → NodeStep
noticing n m at =
    if is_status m then accepted_step n
    else if is_get_status m then on_end_asked n at.scope at.end
    else on_end_row n at.scope at.end m (end_row at.end.protocol at.end.state m)

pub no_end_hears : (n : NodeState) (id : Id) (m : Notice) → end_place n id ≡ None
    → fault_step n code.DestinationUnreachable ≡ on_end_notice n id m
no_end_hears n id m none = none_step (end_place n id) (fault_step n code.DestinationUnreachable) (noticing n m) none

end_hears : (n : NodeState) (id : Id) (m : Notice) (place : ℕ) (s : ScopeState) (e : End) → FindsEnd n id place s e
    → noticing n m (end_at s e) ≡ on_end_notice n id m
end_hears n id m place s e finds =
    found_step (end_place n id) (fault_step n code.DestinationUnreachable) (noticing n m) (end_at s e) finds.placed

pub end_hears_status : (n : NodeState) (id : Id) (m : Notice) (place : ℕ) (s : ScopeState) (e : End) → FindsEnd n id place s e
    → is_status m ≡ true → accepted_step n ≡ on_end_notice n id m
end_hears_status n id m place s e finds h = sym (true_branch (is_status m) (accepted_step n) _ h) ∙ end_hears n id m place s e finds

pub end_hears_get_status : (n : NodeState) (id : Id) (m : Notice) (place : ℕ) (s : ScopeState) (e : End) → FindsEnd n id place s e
    → is_status m ≡ false → is_get_status m ≡ true → on_end_asked n s e ≡ on_end_notice n id m
end_hears_get_status n id m place s e finds h k =
    sym (false_branch (is_status m) (accepted_step n) _ h ∙ true_branch (is_get_status m) (on_end_asked n s e) _ k)
    ∙ end_hears n id m place s e finds

pub end_hears_row : (n : NodeState) (id : Id) (m : Notice) (place : ℕ) (s : ScopeState) (e : End) → FindsEnd n id place s e
    → is_status m ≡ false → is_get_status m ≡ false → on_end_row n s e m (end_row e.protocol e.state m) ≡ on_end_notice n id m
end_hears_row n id m place s e finds h k =
    sym (false_branch (is_status m) (accepted_step n) _ h ∙ false_branch (is_get_status m) (on_end_asked n s e) _ k)
    ∙ end_hears n id m place s e finds
