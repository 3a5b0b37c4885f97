-- The number so far is that of the parts so far.
use Rattle.std.proofs.Common.{◌≡◌, take, length}
use Rattle.std.specs.List.{sum_by}
use Rattle.ba_tree.specs.Trees.{within}
use Rattle.ba_soap_shapes.specs.Elements.{in_u32}
use Rattle.ba_soap_shapes.proofs.elements.+count.Given as goal

abbrev pub invariant-count_all-loop-part : goal.invariant-count_all-loop-part
invariant-count_all-loop-part l = l.number ≡ in_u32 (sum_by (λ c. length (within c).elements) (take l.part-index l.content))
