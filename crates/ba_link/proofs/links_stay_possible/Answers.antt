use Rattle.ba_link.proofs.Kept.{links_stay_possible}
use Rattle.ba_link.proofs.links_stay_possible.Goals as goal

pub returns : goal.returns
returns c = links_stay_possible
