use Rattle.ba_world_play.proofs.Stories.{safe_story}
use Rattle.ba_world_play.proofs.laws.plays_stay_safe.Goals as goal

pub returns : goal.returns
returns c = safe_story
