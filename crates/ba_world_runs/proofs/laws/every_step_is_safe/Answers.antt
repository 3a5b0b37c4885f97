use Rattle.ba_world_runs.proofs.SoundRuns.{sound_step}
use Rattle.ba_world_runs.proofs.laws.every_step_is_safe.Goals as goal

pub returns : goal.returns
returns c = sound_step
