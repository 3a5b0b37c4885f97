-- The parts so far are equal.
use Rattle.std.proofs.Common.{◌≡◌, take, length}
use Rattle.ba_tree.proofs.trees.+equals.Given as goal

abbrev pub invariant-equal_content-loop-index : goal.invariant-equal_content-loop-index
invariant-equal_content-loop-index l = (take l.index l.these ≡ take l.index l.those) × (length l.these ≡ length l.those)
