use Rattle.std.proofs.Common.{◌≡◌, arith, length}
use Rattle.ba_node_objects.proofs.Counted.{counted}
use Rattle.ba_node_objects.specs.Objects.{node_of_fields}
use Rattle.ba_node_steps.specs.Node.{NodeState}
use Rattle.ba_node_objects.proofs.counts.last.Goals as goal

pub returns : goal.returns
returns c =
    let n : NodeState = node_of_fields c.args.node.now in
    let parts : c.len.result ≡ length n.parts = omega (arith, c.len.ensures, c.args.node.now.parts.ok.0) in
    rw (c.saturating_add.ensures, parts) (counted n c.args.node.now.in_scopes c.requires.node c.requires.count)
