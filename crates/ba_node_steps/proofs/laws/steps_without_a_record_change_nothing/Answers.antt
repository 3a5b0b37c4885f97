use Rattle.ba_node_steps.proofs.Changed.{changes}
use Rattle.ba_node_steps.proofs.Unchanged.{unchanged}
use Rattle.ba_node_steps.proofs.laws.steps_without_a_record_change_nothing.Goals as goal

pub returns : goal.returns
returns c = λ n e. (unchanged n e, changes n e)
