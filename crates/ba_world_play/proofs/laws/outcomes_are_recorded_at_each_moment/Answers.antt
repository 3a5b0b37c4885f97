use Rattle.ba_world_play.proofs.Stories.{recorded_so_far}
use Rattle.ba_world_play.proofs.laws.outcomes_are_recorded_at_each_moment.Goals as goal

pub returns : goal.returns
returns c = recorded_so_far
