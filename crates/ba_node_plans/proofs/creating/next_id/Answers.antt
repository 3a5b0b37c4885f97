use Rattle.ba_node_steps.proofs.Members.{id_by_number}
use Rattle.ba_node_steps.specs.Node.{next_id}
use Rattle.ba_node_plans.proofs.creating.next_id.Goals as goal

pub returns : goal.returns
returns c =
    id_by_number c.of.result (next_id c.args.node.now.node c.args.further)
    (rw (c.number.ensures, c.last.ensures) at c.of.ensures.id)
