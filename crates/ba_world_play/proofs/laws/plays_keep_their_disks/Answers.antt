use Rattle.ba_world_play.proofs.Stories.{disks_at_end}
use Rattle.ba_world_play.proofs.laws.plays_keep_their_disks.Goals as goal

pub returns : goal.returns
returns c = disks_at_end
