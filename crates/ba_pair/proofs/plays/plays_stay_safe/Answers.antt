use Rattle.ba_pair.proofs.Safety.{plays_are_safe}
use Rattle.ba_pair.proofs.plays.plays_stay_safe.Goals as goal

pub returns : goal.returns
returns c = plays_are_safe
