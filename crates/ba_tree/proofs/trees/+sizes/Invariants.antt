-- The size so far is that of the parts so far.
use Rattle.std.proofs.Common.{◌≡◌, take}
use Rattle.std.specs.List.{sum_by}
use Rattle.ba_tree.specs.Lengths.{part_length, in_u64}
use Rattle.ba_tree.proofs.trees.+sizes.Given as goal

abbrev pub invariant-content_size-loop-part : goal.invariant-content_size-loop-part
invariant-content_size-loop-part l = l.size ≡ in_u64 (sum_by part_length (take l.part-index l.content))
