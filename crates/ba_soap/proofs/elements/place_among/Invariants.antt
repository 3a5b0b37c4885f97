-- The attributes so far are passed, and of the rest as many as stand before the place among them.
use Rattle.std.proofs.Common.{◌≡◌, ◌≤◌, ◌+◌, ◌-◌, not, drop, length}
use Rattle.std.specs.List.{prefix_len}
use Rattle.std.specs.Ordering.{is_lt}
use Rattle.ba_tree.specs.Trees.{name_cmp}
use Rattle.ba_soap.proofs.elements.place_among.Given as goal

abbrev pub invariant-loop-place : goal.invariant-loop-place
invariant-loop-place l =
    (l.place ≤ length l.attributes)
    × (prefix_len (λ a. not (is_lt (name_cmp l.name a.name))) l.attributes
    ≡ l.place + prefix_len (λ a. not (is_lt (name_cmp l.name a.name))) (drop l.place l.attributes))

abbrev pub decreases-loop-place : goal.decreases-loop-place
decreases-loop-place l = length l.attributes - l.place
