-- What is defined over a tree, said of an element and the list of what stands in it.
use Rattle.std.proofs.Common.{◌≡◌, ◌⊎◌, inl, inr, ℕ, ◌+◌, List, [], ◌∷◌, map, sym, ap, ◌∙◌, refl}
use Rattle.std.proofs.lemmas.List.Sums.{sum_by-cons}
use Rattle.std.specs.List.{sum, sum_by}
use Rattle.ba_tree.specs.declared.trees.Tree.{Tree}
use Rattle.ba_tree.specs.declared.trees.Content.{Content}
use Rattle.ba_tree.specs.declared.trees.Content.TheOpen as o
use Rattle.ba_tree.specs.declared.trees.Content.TheViews as v
use Rattle.ba_tree.specs.declared.trees.Content.TheFolds.{fold_out-Tree, fold-roll-Content}
use Rattle.ba_tree.specs.declared.trees.Content.TheVariants.{Child, Text, rolls-Child, rolls-Text}
use Rattle.ba_tree.specs.Trees.{Part, Element, Within, within_content, within_tree, elements, within, element_of, content_levels}
use Rattle.ba_tree.specs.Trees.{tree_levels, levels, levels_of, joined, greatest}
use Rattle.ba_tree.specs.Lengths.{content_length, element_length, tree_length, part_length, name_length, attribute_length, text_length}

-- content is a text or an element
content_from : (layer : o.Content-F Content Tree) (c : Content) → v.out-Content c ≡ layer
    → ((text : List ℕ) × (c ≡ Text text)) ⊎ ((tree : Tree) × (c ≡ Child tree))
content_from (o.Content-F.Text text) c e = inl (text, sym (v.roll-out-Content c) ∙ ap v.roll-Content e ∙ rolls-Text text)
content_from (o.Content-F.Child tree) c e = inr (tree, sym (v.roll-out-Content c) ∙ ap v.roll-Content e ∙ rolls-Child tree)

pub content_is : (c : Content) → ((text : List ℕ) × (c ≡ Text text)) ⊎ ((tree : Tree) × (c ≡ Child tree))
content_is c = content_from (v.out-Content c) c refl

pub within_text : (t : List ℕ) → within (Text t) ≡ record { part = Part.text t; elements = [] }
within_text t = ap within (sym (rolls-Text t)) ∙ fold-roll-Content Within (List Element) within_content within_tree (o.Text t)

pub within_child : (t : Tree) → within (Child t) ≡ record { part = Part.child; elements = elements t }
within_child t = ap within (sym (rolls-Child t)) ∙ fold-roll-Content Within (List Element) within_content within_tree (o.Child t)

pub levels_in : (t : Tree) → levels t ≡ 1 + greatest (map levels_of t.content)
levels_in = fold_out-Tree ℕ ℕ content_levels tree_levels

pub levels_text : (t : List ℕ) → levels_of (Text t) ≡ 0
levels_text t = ap levels_of (sym (rolls-Text t)) ∙ fold-roll-Content ℕ ℕ content_levels tree_levels (o.Text t)

pub levels_child : (t : Tree) → levels_of (Child t) ≡ levels t
levels_child t = ap levels_of (sym (rolls-Child t)) ∙ fold-roll-Content ℕ ℕ content_levels tree_levels (o.Child t)

sum-map : {X : Type 0} (f : X → ℕ) (xs : List X) → sum (map f xs) ≡ sum_by f xs
sum-map f [] = refl
sum-map f (x ∷ xs) = sum_by-cons (λ n. n) (f x) (map f xs) ∙ ap (λ n. f x + n) (sum-map f xs) ∙ sym (sum_by-cons f x xs)

pub length_in : (t : Tree) → tree_length t
    ≡ name_length t.name + ((1 + sum_by attribute_length t.attributes) + (2 + sum_by part_length t.content))
length_in t = fold_out-Tree ℕ ℕ content_length element_length t
    ∙ ap (λ n. name_length t.name + ((1 + sum_by attribute_length t.attributes) + (2 + n))) (sum-map part_length t.content)

pub length_text : (t : List ℕ) → part_length (Text t) ≡ 1 + text_length t
length_text t = ap part_length (sym (rolls-Text t)) ∙ fold-roll-Content ℕ ℕ content_length element_length (o.Text t)

pub length_child : (t : Tree) → part_length (Child t) ≡ 1 + tree_length t
length_child t = ap part_length (sym (rolls-Child t)) ∙ fold-roll-Content ℕ ℕ content_length element_length (o.Child t)

map-map : {X Y Z : Type 0} (f : X → Y) (g : Y → Z) (xs : List X) → map g (map f xs) ≡ map (λ x. g (f x)) xs
map-map f g [] = refl
map-map f g (x ∷ xs) = ap (λ ys. g (f x) ∷ ys) (map-map f g xs)

-- the elements of a tree: its own, and then those of each part in turn
pub elements_in : (t : Tree) → elements t ≡ element_of t ∷ joined (map (λ c. (within c).elements) t.content)
elements_in t = fold_out-Tree Within (List Element) within_content within_tree t
    ∙ (λ i. record { name = t.name; attributes = t.attributes; parts = map-map within (λ c. c.part) t.content i }
    ∷ joined (map-map within (λ c. c.elements) t.content i))
