use Rattle.ba_world_runs.specs.World.{net_of}
use Rattle.ba_world_runs.proofs.SoundRuns.{safe_run, sound_run}
use Rattle.ba_world_runs.proofs.Told.{told_its_word}
use Rattle.ba_world_runs.proofs.laws.every_run_is_safe.Goals as goal

pub returns-clause-sound : goal.returns-clause-sound
returns-clause-sound c = sound_run

pub returns-clause-safe : goal.returns-clause-safe
returns-clause-safe c = safe_run

pub returns-clause-told : goal.returns-clause-told
returns-clause-told c w before run = told_its_word (net_of w) (sound_run w before run).net
