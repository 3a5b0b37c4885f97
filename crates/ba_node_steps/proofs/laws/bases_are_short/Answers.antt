use Rattle.ba_node_steps.proofs.OwnAddresses.{base_short, registration_short}
use Rattle.ba_node_steps.proofs.laws.bases_are_short.Goals as goal

pub returns : goal.returns
returns c = record { short = base_short; room = registration_short }
