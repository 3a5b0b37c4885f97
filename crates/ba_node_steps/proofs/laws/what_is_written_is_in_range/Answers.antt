use Rattle.ba_node_steps.proofs.InRange.{in_range}
use Rattle.ba_node_steps.proofs.laws.what_is_written_is_in_range.Goals as goal

pub returns : goal.returns
returns c = in_range
