-- The copies so far are the trees so far.
use Rattle.std.proofs.Common.{◌≡◌, take}
use Rattle.ba_wire.proofs.envelopes.copy_trees.Given as goal

abbrev pub invariant-loop-tree : goal.invariant-loop-tree
invariant-loop-tree l = l.copies ≡ take l.tree-index l.trees
