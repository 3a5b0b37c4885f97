use Rattle.ba_node_steps.proofs.FewObjects.{replay_last}
use Rattle.ba_node_steps.proofs.laws.a_replay_has_few_objects.Goals as goal

pub returns : goal.returns
returns c = replay_last
