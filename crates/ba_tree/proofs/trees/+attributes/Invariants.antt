-- The parts so far are within the limit.
use Rattle.std.proofs.Common.{◌≡◌, true, take, length, nat_le}
use Rattle.std.specs.List.{list_all}
use Rattle.ba_tree.specs.Trees.{within}
use Rattle.ba_tree.proofs.trees.+attributes.Given as goal

abbrev pub invariant-attributes_are_within-loop-part : goal.invariant-attributes_are_within-loop-part
invariant-attributes_are_within-loop-part l =
    list_all (λ c. list_all (λ e. nat_le (length e.attributes) l.limit) (within c).elements) (take l.part-index l.content) ≡ true
