use Rattle.ba_node_steps.proofs.Replayed.{goes_on}
use Rattle.ba_node_steps.proofs.laws.replays_go_on.Goals as goal

pub returns : goal.returns
returns c = goes_on
