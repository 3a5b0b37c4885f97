-- Believe: what messages read of an element are its texts, its child elements by name, and their numbers.
use Rattle.std.specs.Prelude.{ℕ, Bool, true, false, ◌+◌, ◌-◌, ◌^◌, min, List, [], ◌∷◌, ◌++◌, length, Option, Some, None, if◌then◌else◌}
use Rattle.std.specs.List.{list_all}
use Rattle.ba_tree.specs.declared.trees.Tree.{Tree}
use Rattle.ba_tree.specs.declared.trees.Content.{Content}
use Rattle.ba_tree.specs.declared.trees.Content.TheOpen as layer
use Rattle.ba_tree.specs.declared.trees.Content.TheViews.{out-Content}
use Rattle.ba_tree.specs.Characters.{is_white}
use Rattle.ba_tree.specs.Trees.{elements}

-- ---- texts

-- the characters without white space at their beginning
abbrev pub trim_start : List ℕ → List ℕ
trim_start [] = []
trim_start (b ∷ bytes) = if is_white b then trim_start bytes else b ∷ bytes

-- the characters without white space at their end
abbrev pub trim_end : List ℕ → List ℕ
trim_end [] = []
trim_end (b ∷ bytes) = if list_all is_white (b ∷ bytes) then [] else b ∷ trim_end bytes

-- the characters without white space at both ends
abbrev pub trim : List ℕ → List ℕ
trim bytes = trim_end (trim_start bytes)

abbrev pub text_onto : layer.Content-F Content Tree → List ℕ → List ℕ
text_onto (layer.Content-F.Text t) more = t ++ more
text_onto (layer.Content-F.Child t) more = more

-- the texts that stand in the element itself, one after another; child elements are skipped
abbrev pub own_texts : List Content → List ℕ
own_texts [] = []
own_texts (c ∷ more) = text_onto (out-Content c) (own_texts more)

-- the text of an element
abbrev pub text_of : Tree → List ℕ
text_of t = trim (own_texts t.content)

-- ---- child elements

abbrev pub child_onto : layer.Content-F Content Tree → List Tree → List Tree
child_onto (layer.Content-F.Text t) more = more
child_onto (layer.Content-F.Child t) more = t ∷ more

abbrev pub children : List Content → List Tree
children [] = []
children (c ∷ more) = child_onto (out-Content c) (children more)

-- the number, or the greatest u32 where it is greater
abbrev pub in_u32 : ℕ → ℕ
in_u32 n = min n (2 ^ 32 - 1)

-- the number of the element that begins after this one, where this one has the number
abbrev pub number_after : ℕ → Tree → ℕ
number_after n t = in_u32 (n + length (elements t))

-- a child element, its number, and what stands after it: the number of the next one, and the content
pub record Found : Type 0 where
  pub tree : Tree
  pub number : ℕ
  pub next : ℕ
  pub rest : List Content

abbrev pub or_found : Bool → Found → Option Found → Option Found
or_found true found more = Some found
or_found false found more = more

-- one piece of content: passed over, or found, or passed over with all that stands in it
abbrev pub first_from : (Tree → Bool) → ℕ → List Content → layer.Content-F Content Tree → (ℕ → Option Found) → Option Found
first_from passes n rest (layer.Content-F.Text t) more = more n
first_from passes n rest (layer.Content-F.Child t) more =
    or_found (passes t) (record { tree = t; number = n; next = number_after n t; rest = rest }) (more (number_after n t))

-- the first child element that passes, where the first child element of all has that number
abbrev pub first_child : (Tree → Bool) → ℕ → List Content → Option Found
first_child passes n [] = None
first_child passes n (c ∷ rest) = first_from passes n rest (out-Content c) (λ m. first_child passes m rest)
