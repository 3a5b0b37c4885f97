use Rattle.ba_node.proofs.OwnRecords.{breaks_once}
use Rattle.ba_node.proofs.laws.a_history_breaks_at_one_place.Goals as goal

pub returns : goal.returns
returns c = breaks_once
