use Rattle.ba_world_play.proofs.Stories.{posted_in_all}
use Rattle.ba_world_play.proofs.laws.whole_plays_can_be_posted.Goals as goal

pub returns : goal.returns
returns c = posted_in_all
