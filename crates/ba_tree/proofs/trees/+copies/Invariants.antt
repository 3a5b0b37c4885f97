-- The copies so far are of the parts so far.
use Rattle.std.proofs.Common.{◌≡◌, take}
use Rattle.ba_tree.proofs.trees.+copies.Given as goal

abbrev pub invariant-copy_content-loop-part : goal.invariant-copy_content-loop-part
invariant-copy_content-loop-part l = l.copies ≡ take l.part-index l.part-items
