-- The parts so far are within the limit.
use Rattle.std.proofs.Common.{◌≡◌, true, take, nat_le}
use Rattle.std.specs.List.{list_all}
use Rattle.ba_tree.specs.Trees.{levels_of}
use Rattle.ba_tree.proofs.trees.+levels.Given as goal

abbrev pub invariant-levels_are_within-loop-part : goal.invariant-levels_are_within-loop-part
invariant-levels_are_within-loop-part l = list_all (λ c. nat_le (levels_of c) l.limit) (take l.part-index l.content) ≡ true
