use Rattle.std.proofs.Common.{◌∙◌, None, Some}
use Rattle.ba_node_objects.proofs.Shows.{shows_deadline}
use Rattle.ba_node_objects.specs.Objects.{node_of_fields}
use Rattle.ba_node_steps.specs.Node.{NodeState}
use Rattle.ba_node_objects.proofs.looks.deadline.Goals as goal

pub returns-in-None : goal.returns-in-None
returns-in-None c =
    let n : NodeState = node_of_fields c.args.node.now in
    shows_deadline n c.args.scope None c.in-None.ensures.none

pub returns-in-Some : goal.returns-in-Some
returns-in-Some c =
    let n : NodeState = node_of_fields c.args.node.now in
    c.pending.ensures ∙ shows_deadline n c.args.scope (Some c.in-Some.found.scope.now) c.in-Some.ensures.some.found
