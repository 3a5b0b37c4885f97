-- Believe: the coordinator's end of a link: its state table, and its rules of choosing, completing and sending.
-- The tables are this project's own, after WS-BusinessActivity 1.2; docs/formats/tables.md prints them.
use Rattle.std.specs.Prelude.{Bool, true, false, Option, None, Some}
use Rattle.ba_core.specs.Cells.{Cell, to, pc_to, stay, again, none, Mark, both, cc, pc, neither, is_marked}
use Rattle.ba_core.specs.declared.protocols.Protocol.{Protocol}
use Rattle.ba_core.specs.declared.protocols.Protocol.TheVariants.{Pc, Cc}
use Rattle.ba_core.specs.declared.protocols.Verdict.{Verdict}
use Rattle.ba_core.specs.declared.protocols.Verdict.TheVariants.{Close, Undo}
use Rattle.ba_core.specs.declared.notices.Notice.{Notice}
use Rattle.ba_core.specs.declared.notices.Notice.TheVariants as notice
use Rattle.ba_core.specs.declared.rows.CRow.{CRow}
use Rattle.ba_core.specs.declared.rows.CRow.TheVariants.{Invalid, Row}
use Rattle.ba_core.specs.declared.states.How.TheVariants.{Canceled, Closed, Compensated, Failed, Exited, NotCompleted, Refused}
use Rattle.ba_core.specs.declared.states.CState.{CState}
use Rattle.ba_core.specs.declared.states.CState.TheVariants.{Active, Completing, Canceling, CancelingActive, CancelingCompleting, Completed}
use Rattle.ba_core.specs.declared.states.CState.TheVariants.{Closing, Compensating, FailingActive, FailingCompleting, FailingCanceling}
use Rattle.ba_core.specs.declared.states.CState.TheVariants.{FailingCompensating, NotCompleting, Exiting, Ended}

-- a row of the table: its mark, and a cell for each notice that a participant alone sends
pub record EndCells : Type 0 where
  pub mark : Mark
  pub completed : Cell CState
  pub closed : Cell CState
  pub canceled : Cell CState
  pub compensated : Cell CState
  pub fail : Cell CState
  pub exit : Cell CState
  pub cannot_complete : Cell CState

abbrev pub end_cells : Mark → Cell CState → Cell CState → Cell CState → Cell CState → Cell CState → Cell CState → Cell CState → EndCells
end_cells m a b c d e f g = record {
  mark = m;
  completed = a;
  closed = b;
  canceled = c;
  compensated = d;
  fail = e;
  exit = f;
  cannot_complete = g;
}

-- The table of receiving, a line a row. After the mark stand the cells of the columns
-- Completed, Closed, Canceled, Compensated, Fail, Exit, CannotComplete.
abbrev pub end_rows : CState → EndCells
end_rows Active = end_cells both (pc_to Completed) none none none (to FailingActive) (to Exiting) (to NotCompleting)
end_rows Completing = end_cells cc (to Completed) none none none (to FailingCompleting) (to Exiting) (to NotCompleting)
end_rows Canceling = end_cells pc (to Completed) none (to (Ended Canceled)) none (to FailingCanceling) (to Exiting) (to NotCompleting)
end_rows CancelingActive = end_cells cc none none (to (Ended Canceled)) none (to FailingCanceling) (to Exiting) (to NotCompleting)
end_rows CancelingCompleting = end_cells cc (to Completed) none (to (Ended Canceled)) none (to FailingCanceling) (to Exiting)
    (to NotCompleting)
end_rows Completed = end_cells both stay none none none none none none
end_rows Closing = end_cells both again (to (Ended Closed)) none none none none none
end_rows Compensating = end_cells both again none none (to (Ended Compensated)) (to FailingCompensating) none none
end_rows FailingActive = end_cells both none none none none stay none none
end_rows FailingCanceling = end_cells both none none none none stay none none
end_rows FailingCompleting = end_cells cc none none none none stay none none
end_rows FailingCompensating = end_cells both stay none none none stay none none
end_rows NotCompleting = end_cells both none none none none none none stay
end_rows Exiting = end_cells both none none none none none stay none
end_rows (Ended Failed) = end_cells both stay stay stay stay again stay stay
end_rows (Ended Exited) = end_cells both stay stay stay stay stay again stay
end_rows (Ended NotCompleted) = end_cells both stay stay stay stay stay stay again
end_rows (Ended Canceled) = end_cells both stay stay stay stay stay stay stay
end_rows (Ended Closed) = end_cells both stay stay stay stay stay stay stay
end_rows (Ended Compensated) = end_cells both stay stay stay stay stay stay stay
end_rows (Ended Refused) = end_cells neither none none none none none none none

-- the column of a notice; a notice that is no column of this side has no row
abbrev pub end_column : Notice → EndCells → Cell CState
end_column notice.Completed cells = cells.completed
end_column notice.Closed cells = cells.closed
end_column notice.Canceled cells = cells.canceled
end_column notice.Compensated cells = cells.compensated
end_column notice.Fail cells = cells.fail
end_column notice.Exit cells = cells.exit
end_column notice.CannotComplete cells = cells.cannot_complete
end_column _ cells = none

-- what a cell of this state's row means
abbrev pub end_meaning : Protocol → CState → Cell CState → CRow
end_meaning protocol s (to next) = Row next true
end_meaning Pc s (pc_to next) = Row next true
end_meaning Cc s (pc_to next) = Invalid
end_meaning protocol s stay = Row s false
end_meaning protocol s again = Row s true
end_meaning protocol s none = Invalid

-- the row of a state for a notice, in a protocol; a pair without one is InvalidState
abbrev pub end_row : Protocol → CState → Notice → CRow
end_row protocol s n = end_meaning protocol s (end_column n (end_rows s))

-- the state is one of an end in this protocol
abbrev pub is_end_state : Protocol → CState → Bool
is_end_state protocol s = is_marked (end_rows s).mark protocol

-- the state that a verdict leads to, where the verdict may be set
abbrev pub chosen_state : Protocol → CState → Verdict → Option CState
chosen_state Pc Active Undo = Some Canceling
chosen_state Cc Active Undo = Some CancelingActive
chosen_state protocol Completing Undo = Some CancelingCompleting
chosen_state protocol Completed Undo = Some Compensating
chosen_state protocol Closing Undo = None
chosen_state protocol (Ended Closed) Undo = None
chosen_state protocol s Undo = Some s
chosen_state protocol Completed Close = Some Closing
chosen_state protocol Closing Close = Some Closing
chosen_state protocol Exiting Close = Some Exiting
chosen_state protocol (Ended Closed) Close = Some (Ended Closed)
chosen_state protocol (Ended Exited) Close = Some (Ended Exited)
chosen_state protocol s Close = None

-- the state of an end whose participant is asked to complete, where it may be asked
abbrev pub completed_state : Protocol → CState → Option CState
completed_state Cc Active = Some Completing
completed_state protocol s = None

-- what a tick makes of an end's state, and the notice by which the end then tells it
abbrev pub end_tick : CState → CState × Option Notice
end_tick Completing = (Completing, Some notice.Complete)
end_tick Canceling = (Canceling, Some notice.Cancel)
end_tick CancelingActive = (CancelingActive, Some notice.Cancel)
end_tick CancelingCompleting = (CancelingCompleting, Some notice.Cancel)
end_tick Closing = (Closing, Some notice.Close)
end_tick Compensating = (Compensating, Some notice.Compensate)
end_tick FailingActive = (Ended Failed, Some notice.Failed)
end_tick FailingCanceling = (Ended Failed, Some notice.Failed)
end_tick FailingCompleting = (Ended Failed, Some notice.Failed)
end_tick FailingCompensating = (Ended Failed, Some notice.Failed)
end_tick NotCompleting = (Ended NotCompleted, Some notice.NotCompleted)
end_tick Exiting = (Ended Exited, Some notice.Exited)
end_tick (Ended Failed) = (Ended Failed, Some notice.Failed)
end_tick (Ended NotCompleted) = (Ended NotCompleted, Some notice.NotCompleted)
end_tick (Ended Exited) = (Ended Exited, Some notice.Exited)
end_tick s = (s, None)
