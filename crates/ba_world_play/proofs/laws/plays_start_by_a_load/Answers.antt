use Rattle.ba_world_play.proofs.Starts.{made_well, start_appends, start_rests}
use Rattle.ba_world_play.proofs.laws.plays_start_by_a_load.Goals as goal

pub returns-clause-load : goal.returns-clause-load
returns-clause-load c = made_well

pub returns-clause-append : goal.returns-clause-append
returns-clause-append c = start_appends

pub returns-clause-rests : goal.returns-clause-rests
returns-clause-rests c = start_rests
