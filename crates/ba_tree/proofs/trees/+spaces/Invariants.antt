-- What is noted so far and the parts that are left lead to the same row as all parts.
use Rattle.std.proofs.Common.{◌≡◌, drop, map}
use Rattle.ba_tree.specs.Trees.{joined}
use Rattle.ba_tree.specs.Spaces.{all_noted, spaces_within}
use Rattle.ba_tree.proofs.trees.+spaces.Given as goal

abbrev pub invariant-note_content-loop-part : goal.invariant-note_content-loop-part
invariant-note_content-loop-part l = all_noted l.most l.fn.spaces (joined (map spaces_within l.content))
    ≡ all_noted l.most l.noted (joined (map spaces_within (drop l.part-index l.content)))
