-- Believe: the participant's side of a link: its state table, and its rules of acting and sending.
-- The tables are this project's own, after WS-BusinessActivity 1.2; docs/formats/tables.md prints them.
use Rattle.std.specs.Prelude.{Bool, true, false, Option, None, Some}
use Rattle.ba_core.specs.Cells.{Cell, to, pc_to, stay, again, none, Mark, both, cc, is_marked}
use Rattle.ba_core.specs.declared.protocols.Protocol.{Protocol}
use Rattle.ba_core.specs.declared.protocols.Protocol.TheVariants.{Pc, Cc}
use Rattle.ba_core.specs.declared.notices.Act.{Act}
use Rattle.ba_core.specs.declared.notices.Act.TheVariants as act
use Rattle.ba_core.specs.declared.notices.Notice.{Notice}
use Rattle.ba_core.specs.declared.notices.Notice.TheVariants as notice
use Rattle.ba_core.specs.declared.rows.PRow.{PRow}
use Rattle.ba_core.specs.declared.rows.PRow.TheVariants.{Invalid, Row}
use Rattle.ba_core.specs.declared.states.How.TheVariants.{Canceled, Closed, Compensated, Failed, Exited, NotCompleted, Refused}
use Rattle.ba_core.specs.declared.states.PState.{PState}
use Rattle.ba_core.specs.declared.states.PState.TheVariants.{Registering, Active, Completing, Canceling, Completed, Closing, Compensating}
use Rattle.ba_core.specs.declared.states.PState.TheVariants.{FailingActive, FailingCompleting, FailingCanceling, FailingCompensating}
use Rattle.ba_core.specs.declared.states.PState.TheVariants.{NotCompleting, Exiting, Ended}

-- a row of the table: its mark, and a cell for each notice that a coordinator alone sends
pub record PartCells : Type 0 where
  pub mark : Mark
  pub complete : Cell PState
  pub close : Cell PState
  pub cancel : Cell PState
  pub compensate : Cell PState
  pub failed : Cell PState
  pub exited : Cell PState
  pub not_completed : Cell PState

abbrev pub part_cells : Mark → Cell PState → Cell PState → Cell PState → Cell PState → Cell PState → Cell PState → Cell PState → PartCells
part_cells m a b c d e f g = record {
  mark = m;
  complete = a;
  close = b;
  cancel = c;
  compensate = d;
  failed = e;
  exited = f;
  not_completed = g;
}

-- The table of receiving, a line a row. After the mark stand the cells of the columns
-- Complete, Close, Cancel, Compensate, Failed, Exited, NotCompleted.
-- The line of Registering is no line of the table: nothing is received by it in that state.
abbrev pub part_rows : PState → PartCells
part_rows Registering = part_cells both none none none none none none none
part_rows Active = part_cells both (to Completing) none (to Canceling) none none none none
part_rows Completing = part_cells cc stay none (to Canceling) none none none none
part_rows Canceling = part_cells both stay none stay none none none none
part_rows Completed = part_cells both again (to Closing) again (to Compensating) none none none
part_rows Closing = part_cells both stay stay stay none none none none
part_rows Compensating = part_cells both stay none stay stay none none none
part_rows FailingActive = part_cells both again none again none (to (Ended Failed)) none none
part_rows FailingCanceling = part_cells both again none again none (to (Ended Failed)) none none
part_rows FailingCompleting = part_cells cc again none again none (to (Ended Failed)) none none
part_rows FailingCompensating = part_cells both stay none stay again (to (Ended Failed)) none none
part_rows NotCompleting = part_cells both again none again none none none (to (Ended NotCompleted))
part_rows Exiting = part_cells both again none again none none (to (Ended Exited)) none
part_rows (Ended Canceled) = part_cells both again again again again stay stay stay
part_rows (Ended Closed) = part_cells both again again again again stay stay stay
part_rows (Ended Compensated) = part_cells both again again again again stay stay stay
part_rows (Ended Failed) = part_cells both stay stay stay stay stay stay stay
part_rows (Ended Exited) = part_cells both stay stay stay stay stay stay stay
part_rows (Ended NotCompleted) = part_cells both stay stay stay stay stay stay stay
part_rows (Ended Refused) = part_cells both stay stay stay stay stay stay stay

-- the column of a notice; a notice that is no column of this side has no row, and Complete is of
-- CoordinatorCompletion alone
abbrev pub part_column : Protocol → Notice → PartCells → Cell PState
part_column Pc notice.Complete cells = none
part_column Cc notice.Complete cells = cells.complete
part_column protocol notice.Close cells = cells.close
part_column protocol notice.Cancel cells = cells.cancel
part_column protocol notice.Compensate cells = cells.compensate
part_column protocol notice.Failed cells = cells.failed
part_column protocol notice.Exited cells = cells.exited
part_column protocol notice.NotCompleted cells = cells.not_completed
part_column protocol _ cells = none

-- what a cell of this state's row means
abbrev pub part_meaning : Protocol → PState → Cell PState → PRow
part_meaning protocol s (to next) = Row next true
part_meaning Pc s (pc_to next) = Row next true
part_meaning Cc s (pc_to next) = Invalid
part_meaning protocol s stay = Row s false
part_meaning protocol s again = Row s true
part_meaning protocol s none = Invalid

-- the row of a state for a notice, in a protocol; a pair without one is InvalidState
abbrev pub part_row : Protocol → PState → Notice → PRow
part_row protocol s n = part_meaning protocol s (part_column protocol n (part_rows s))

-- the state is one of a participant in this protocol
abbrev pub is_part_state : Protocol → PState → Bool
is_part_state protocol s = is_marked (part_rows s).mark protocol

-- the state that an act of the participant's work leads to, where it may be done
abbrev pub acted_state : Protocol → PState → Act → Option PState
acted_state Pc Active act.Completed = Some Completed
acted_state Cc Completing act.Completed = Some Completed
acted_state protocol Closing act.Closed = Some (Ended Closed)
acted_state protocol Canceling act.Canceled = Some (Ended Canceled)
acted_state protocol Compensating act.Compensated = Some (Ended Compensated)
acted_state protocol Active act.Fail = Some FailingActive
acted_state protocol Completing act.Fail = Some FailingCompleting
acted_state protocol Canceling act.Fail = Some FailingCanceling
acted_state protocol Compensating act.Fail = Some FailingCompensating
acted_state protocol Active act.Exit = Some Exiting
acted_state protocol Completing act.Exit = Some Exiting
acted_state protocol Active act.CannotComplete = Some NotCompleting
acted_state protocol Completing act.CannotComplete = Some NotCompleting
acted_state protocol s a = None

-- the notice that a participant's state lets it send
abbrev pub part_says : PState → Option Notice
part_says Completed = Some notice.Completed
part_says FailingActive = Some notice.Fail
part_says FailingCompleting = Some notice.Fail
part_says FailingCanceling = Some notice.Fail
part_says FailingCompensating = Some notice.Fail
part_says NotCompleting = Some notice.CannotComplete
part_says Exiting = Some notice.Exit
part_says (Ended Canceled) = Some notice.Canceled
part_says (Ended Closed) = Some notice.Closed
part_says (Ended Compensated) = Some notice.Compensated
part_says s = None
