use Rattle.ba_world_play.proofs.AppendStops.{failed_later, failed_reopened, stopped_later, stopped_reopened}
use Rattle.ba_world_play.proofs.laws.openings_find_the_record_from_its_gate_on.Goals as goal

pub returns-clause-stopped : goal.returns-clause-stopped
returns-clause-stopped c = stopped_reopened

pub returns-clause-failed : goal.returns-clause-failed
returns-clause-failed c = failed_reopened

pub returns-clause-stopped_later : goal.returns-clause-stopped_later
returns-clause-stopped_later c = stopped_later

pub returns-clause-failed_later : goal.returns-clause-failed_later
returns-clause-failed_later c = failed_later
