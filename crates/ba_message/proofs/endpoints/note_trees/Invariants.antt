-- What is noted so far and the trees that are left lead to the same row as all trees.
use Rattle.std.proofs.Common.{◌≡◌, [], drop, map}
use Rattle.ba_message.specs.declared.endpoints.TheConstants.{MOST_PARAMETER_NAMESPACES}
use Rattle.ba_tree.specs.Trees.{joined, spaces_named}
use Rattle.ba_tree.specs.Spaces.{all_noted}
use Rattle.ba_message.proofs.endpoints.note_trees.Given as goal

abbrev pub invariant-loop-tree : goal.invariant-loop-tree
invariant-loop-tree l = all_noted MOST_PARAMETER_NAMESPACES [] (joined (map spaces_named l.trees))
    ≡ all_noted MOST_PARAMETER_NAMESPACES l.noted (joined (map spaces_named (drop l.tree-index l.trees)))
