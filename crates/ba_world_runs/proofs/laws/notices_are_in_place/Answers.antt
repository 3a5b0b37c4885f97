use Rattle.ba_world_runs.specs.World.{net_of}
use Rattle.ba_world_runs.proofs.InPlace.{notices_in_place}
use Rattle.ba_world_runs.proofs.SoundRuns.{sound_run}
use Rattle.ba_world_runs.proofs.laws.notices_are_in_place.Goals as goal

pub returns-clause-net : goal.returns-clause-net
returns-clause-net c = notices_in_place

pub returns-clause-run : goal.returns-clause-run
returns-clause-run c w before run = notices_in_place (net_of w) (sound_run w before run).net
