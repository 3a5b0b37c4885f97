-- The trees so far are equal.
use Rattle.std.proofs.Common.{◌≡◌, take, length}
use Rattle.ba_message.proofs.endpoints.equal_trees.Given as goal

abbrev pub invariant-loop-index : goal.invariant-loop-index
invariant-loop-index l = (take l.index l.these ≡ take l.index l.those) × (length l.these ≡ length l.those)
