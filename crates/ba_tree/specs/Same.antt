-- Believe: tests of equality, of names, attributes and trees. A law says that each is true of equal values alone.
use Rattle.std.specs.Prelude.{Bool, true, false, ◌&&◌, List, [], ◌∷◌, bytes_eq}
use Rattle.std.specs.Cmp.Lexicographic.{pointwise}
use Rattle.ba_tree.specs.declared.trees.Tree.{Tree}
use Rattle.ba_tree.specs.declared.trees.Name.{Name}
use Rattle.ba_tree.specs.declared.trees.Attribute.{Attribute}
use Rattle.ba_tree.specs.declared.trees.Content.{Content}
use Rattle.ba_tree.specs.declared.trees.Content.TheOpen.{Content-F, Tree-F}
use Rattle.ba_tree.specs.declared.trees.Content.TheViews.{out-Content}
use Rattle.ba_tree.specs.declared.trees.Content.TheFolds.{fold-Content, fold-Tree}

-- both the namespaces and the local parts
abbrev pub same_name : Name → Name → Bool
same_name a b = bytes_eq a.space b.space && bytes_eq a.local b.local

-- the names and the values
abbrev pub same_attribute : Attribute → Attribute → Bool
same_attribute a b = same_name a.name b.name && bytes_eq a.value b.value

-- each test passes at the item in its place, and there are as many items as tests
abbrev pub all_in_place : {X : Type 0} → List (X → Bool) → List X → Bool
all_in_place [] [] = true
all_in_place (test ∷ tests) (x ∷ xs) = test x && all_in_place tests xs
all_in_place [] (x ∷ xs) = false
all_in_place (test ∷ tests) [] = false

-- both are texts with the same bytes, or the second is an element that passes the test of the first
abbrev pub same_part : Content-F (Content → Bool) (Tree → Bool) → Content-F Content Tree → Bool
same_part (Content-F.Text text) (Content-F.Text other) = bytes_eq text other
same_part (Content-F.Child test) (Content-F.Child tree) = test tree
same_part (Content-F.Text text) (Content-F.Child tree) = false
same_part (Content-F.Child test) (Content-F.Text other) = false

abbrev pub same_content_step : Content-F (Content → Bool) (Tree → Bool) → Content → Bool
same_content_step part other = same_part part (out-Content other)

-- the names, the attributes in their order, and the content in its order
abbrev pub same_tree_step : Tree-F (Content → Bool) (Tree → Bool) → Tree → Bool
same_tree_step element other =
    same_name element.name other.name
    && (pointwise same_attribute element.attributes other.attributes && all_in_place element.content other.content)

abbrev pub same_content : Content → Content → Bool
same_content = fold-Content (Content → Bool) (Tree → Bool) same_content_step same_tree_step

abbrev pub same_tree : Tree → Tree → Bool
same_tree = fold-Tree (Content → Bool) (Tree → Bool) same_content_step same_tree_step
