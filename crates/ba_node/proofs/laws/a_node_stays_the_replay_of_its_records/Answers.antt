use Rattle.ba_node.proofs.OwnRecords.{stays_replay}
use Rattle.ba_node.proofs.laws.a_node_stays_the_replay_of_its_records.Goals as goal

pub returns : goal.returns
returns c = stays_replay
