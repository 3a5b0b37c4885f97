use Rattle.ba_node_plans.proofs.Registered.{dialing_is}
use Rattle.ba_node_plans.proofs.states.can_dial.Goals as goal

pub returns : goal.returns
returns c = dialing_is c.dialable.result c.args.address.now c.dialable.ensures.0 c.dialable.ensures.1
