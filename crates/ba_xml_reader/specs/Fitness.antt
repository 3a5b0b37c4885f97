-- Believe: the limits that every tree that is read keeps.
use Rattle.std.specs.Prelude.{◌≤◌}
use Rattle.ba_tree.specs.Trees.{levels, most_attributes}
use Rattle.ba_tree.specs.declared.trees.Tree.{Tree}

-- an element stands at level 32 at most, and has at most 32 attributes
pub record IsWithinLimits (tree : Tree) : Type 0 where
  pub deep : levels tree ≤ 32
  pub few : most_attributes tree ≤ 32
