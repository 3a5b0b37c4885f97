-- The size so far is that of the trees so far.
use Rattle.std.proofs.Common.{◌≡◌, take}
use Rattle.std.specs.List.{sum_by}
use Rattle.ba_tree.specs.Lengths.{tree_length, in_u64}
use Rattle.ba_message.proofs.endpoints.trees_size.Given as goal

abbrev pub invariant-loop-tree : goal.invariant-loop-tree
invariant-loop-tree l = l.size ≡ in_u64 (sum_by tree_length (take l.tree-index l.trees))
