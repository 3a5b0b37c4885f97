use Rattle.ba_node_objects.proofs.Counted.{counted_more}
use Rattle.ba_node_objects.specs.Objects.{node_of_fields}
use Rattle.ba_node_steps.specs.Node.{NodeState}
use Rattle.ba_node_objects.proofs.fields.Fields.push_scope.Goals as goal

pub returns-clause-count : goal.returns-clause-count
returns-clause-count c =
    let n : NodeState = node_of_fields c.args.self.now in
    rw (c.saturating_add-self.ensures, c.push_reserved.ensures.items)
    (counted_more n.scopes c.args.scope c.args.self.now.in_scopes c.ids_of.result c.requires.count c.ids_of.ensures)
