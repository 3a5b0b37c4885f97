-- The copies so far are those of the elements so far.
use Rattle.std.proofs.Common.{◌≡◌, take, map}
use Rattle.ba_tree.specs.declared.trees.Content.TheVariants.{Child}
use Rattle.ba_soap_shapes.proofs.endpoints.children.Given as goal

abbrev pub invariant-loop-tree : goal.invariant-loop-tree
invariant-loop-tree l = l.content ≡ map Child (take l.tree-index l.trees)
