-- The copies so far are of the attributes so far.
use Rattle.std.proofs.Common.{◌≡◌, take}
use Rattle.ba_tree.proofs.trees.copy_attributes.Given as goal

abbrev pub invariant-loop-attribute : goal.invariant-loop-attribute
invariant-loop-attribute l = l.copies ≡ take l.attribute-index l.attribute-items
