use Rattle.ba_world_play.proofs.Unhindered.{closed_stays, down_stays, full_stays, opens_up, silent_taken, step_taken}
use Rattle.ba_world_play.proofs.laws.steps_are_taken_where_nothing_hinders.Goals as goal

pub returns-clause-taken : goal.returns-clause-taken
returns-clause-taken c = step_taken

pub returns-clause-silent : goal.returns-clause-silent
returns-clause-silent c = silent_taken

pub returns-clause-full : goal.returns-clause-full
returns-clause-full c = full_stays

pub returns-clause-closed : goal.returns-clause-closed
returns-clause-closed c = closed_stays

pub returns-clause-down : goal.returns-clause-down
returns-clause-down c = down_stays

pub returns-clause-opening : goal.returns-clause-opening
returns-clause-opening c = opens_up
