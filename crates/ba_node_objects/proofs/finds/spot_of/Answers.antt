use Rattle.std.proofs.Common.{◌∙◌, sym}
use Rattle.ba_node_objects.proofs.Spotted.{unused_stands}
use Rattle.ba_node_objects.specs.Objects.{node_of_fields}
use Rattle.ba_node_objects.proofs.finds.spot_of.Goals as goal

pub returns-then-not-may_be_used : goal.returns-then-not-may_be_used
returns-then-not-may_be_used c =
    unused_stands (node_of_fields c.args.node.now) c.args.id c.requires.node (sym c.may_be_used.ensures ∙ c.if-not-may_be_used.true)
