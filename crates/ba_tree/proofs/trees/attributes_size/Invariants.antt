-- The size so far is that of the attributes so far.
use Rattle.std.proofs.Common.{◌≡◌, take}
use Rattle.std.specs.List.{sum_by}
use Rattle.ba_tree.specs.Lengths.{attribute_length, in_u64}
use Rattle.ba_tree.proofs.trees.attributes_size.Given as goal

abbrev pub invariant-loop-attribute : goal.invariant-loop-attribute
invariant-loop-attribute l = l.size ≡ in_u64 (sum_by attribute_length (take l.attribute-index l.attributes))
