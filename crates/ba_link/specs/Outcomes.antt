-- Believe: the outcomes that a participant tells of its own accord (WS-BusinessActivity 1.2, section 3: Fail, Exit and
-- CannotComplete), and how an end records one.
use Rattle.std.specs.Prelude.{Bool, true, false, Option, None, Some, if◌then◌else◌}
use Rattle.ba_core.specs.Cells.{Cell, to, pc_to}
use Rattle.ba_core.specs.EndRows.{end_rows, end_column}
use Rattle.ba_core.specs.declared.protocols.Protocol.{Protocol}
use Rattle.ba_core.specs.declared.protocols.Protocol.TheVariants.{Pc}
use Rattle.ba_core.specs.declared.notices.Notice.{Notice}
use Rattle.ba_core.specs.declared.notices.Notice.TheVariants as notice
use Rattle.ba_core.specs.declared.states.How.TheVariants.{Failed, Exited, NotCompleted}
use Rattle.ba_core.specs.declared.states.CState.{CState}
use Rattle.ba_core.specs.declared.states.CState.TheVariants.{FailingActive, FailingCompleting, FailingCanceling, FailingCompensating}
use Rattle.ba_core.specs.declared.states.CState.TheVariants.{NotCompleting, Exiting, Ended}

abbrev pub is_outcome : Notice → Bool
is_outcome notice.Fail = true
is_outcome notice.Exit = true
is_outcome notice.CannotComplete = true
is_outcome n = false

-- the outcome that an end's state keeps
abbrev pub outcome_kept : CState → Option Notice
outcome_kept FailingActive = Some notice.Fail
outcome_kept FailingCompleting = Some notice.Fail
outcome_kept FailingCanceling = Some notice.Fail
outcome_kept FailingCompensating = Some notice.Fail
outcome_kept (Ended Failed) = Some notice.Fail
outcome_kept Exiting = Some notice.Exit
outcome_kept (Ended Exited) = Some notice.Exit
outcome_kept NotCompleting = Some notice.CannotComplete
outcome_kept (Ended NotCompleted) = Some notice.CannotComplete
outcome_kept s = None

-- the cell of a row leads to another state
abbrev pub cell_leads_on : Protocol → Cell CState → Bool
cell_leads_on protocol (to next) = true
cell_leads_on Pc (pc_to next) = true
cell_leads_on protocol cell = false

-- what a notice to an end in this state records: an outcome whose row leads to another state
abbrev pub recorded_at : Protocol → CState → Notice → Option Notice
recorded_at protocol s n = if is_outcome n then (if cell_leads_on protocol (end_column n (end_rows s)) then Some n else None) else None
