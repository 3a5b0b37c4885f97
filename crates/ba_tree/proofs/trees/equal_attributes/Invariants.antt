-- The attributes so far are equal.
use Rattle.std.proofs.Common.{◌≡◌, take, length}
use Rattle.ba_tree.proofs.trees.equal_attributes.Given as goal

abbrev pub invariant-loop-index : goal.invariant-loop-index
invariant-loop-index l = (take l.index l.these ≡ take l.index l.those) × (length l.these ≡ length l.those)
