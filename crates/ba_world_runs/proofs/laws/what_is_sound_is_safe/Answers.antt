use Rattle.ba_world_runs.proofs.SafeLemmas.{safe}
use Rattle.ba_world_runs.proofs.laws.what_is_sound_is_safe.Goals as goal

pub returns : goal.returns
returns c = safe
