use Rattle.ba_world_play.proofs.Openings.{calls_go_well, openings_go_well}
use Rattle.ba_world_play.proofs.laws.nothing_armed_nothing_fails.Goals as goal

pub returns-clause-call : goal.returns-clause-call
returns-clause-call c = calls_go_well

pub returns-clause-opening : goal.returns-clause-opening
returns-clause-opening c = openings_go_well
