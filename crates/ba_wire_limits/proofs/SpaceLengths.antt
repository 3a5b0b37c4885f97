-- The namespaces that a tree names are together no longer than its coding, also each once: for the law on short codings.
use Rattle.std.proofs.Common.{◌≡◌, ℕ, ◌+◌, ◌≤◌, Bool, true, false, List, [], ◌∷◌, ◌++◌, map, length, filter, cond, sym, ap, ◌∙◌}
use Rattle.std.proofs.Common.{arith}
use Rattle.std.proofs.lemmas.List.Sums.{sum_by-cons, sum_by-append}
use Rattle.std.specs.List.{sum_by}
use Rattle.std.specs.Str.{bytes_eq}
use Rattle.ba_tree.specs.declared.trees.Name.{Name}
use Rattle.ba_tree.specs.declared.trees.Attribute.{Attribute}
use Rattle.ba_tree.specs.declared.trees.Tree.{Tree}
use Rattle.ba_tree.specs.declared.trees.Content.{Content, Text, Child', Row_of-Content, end_of-Content, more_of-Content}
use Rattle.ba_tree.specs.declared.trees.Content.TheBlock.{items-the_row-Content, items_shown-the_row-Content-0}
use Rattle.ba_tree.specs.Lengths.{attribute_length, part_length, tree_length}
use Rattle.ba_tree.specs.Spaces.{spaces_within}
use Rattle.ba_tree.specs.Trees.{firsts, joined, named_spaces, namespaces, spaces_named, without}
use Rattle.ba_tree.proofs.SpaceLaws.{spaces_in}
use Rattle.ba_tree.proofs.TreeLaws.{length_in, within_text, within_child}
use Rattle.ba_xml.proofs.FineTrees.{shown, child_shown}
use Rattle.ba_wire_limits.proofs.TextLengths.{RowOf, parts_of, part_shown}
use mathlib.Core.Former.{Count}

abbrev pub total : List (List ℕ) → ℕ
total xs = sum_by length xs

total-cons : (x : List ℕ) (xs : List (List ℕ)) → total (x ∷ xs) ≡ length x + total xs
total-cons x xs = sum_by-cons {X = List ℕ} length x xs

total-append : (xs ys : List (List ℕ)) → total (xs ++ ys) ≡ total xs + total ys
total-append xs ys = sum_by-append {X = List ℕ} length xs ys

-- ---- all that a tree names

abbrev spaces_of_attributes : List Attribute → List (List ℕ)
spaces_of_attributes atts = map (λ a. a.name.space) atts

of_attributes : (atts : List Attribute) → total (spaces_of_attributes atts) ≤ sum_by attribute_length atts
of_attributes [] = omega arith
of_attributes (a ∷ atts) =
    let more = of_attributes atts in
    let here = total-cons a.name.space (spaces_of_attributes atts) in
    let split = sum_by-cons attribute_length a atts in
    omega arith

within_shown : (name : Name) (atts : List Attribute) (shape : List (Unit {0})) (row : RowOf shape)
    → spaces_within (Child' name atts shape row)
    ≡ name.space ∷ (spaces_of_attributes atts ++ joined (map spaces_within (parts_of shape row)))
within_shown name atts shape row =
    ap spaces_within (sym (child_shown name atts shape row))
    ∙ ap (λ w. joined (map named_spaces w.elements)) (within_child (shown name atts shape row))
    ∙ spaces_in (shown name atts shape row)
    ∙ ap (λ cs. name.space ∷ (spaces_of_attributes atts ++ joined (map spaces_within cs)))
    (items_shown-the_row-Content-0 shape row)

of_element : (space : List ℕ) (atts : List Attribute) (others : List (List ℕ)) (n : ℕ) → total others ≤ n
    → total (space ∷ (spaces_of_attributes atts ++ others)) ≤ length space + (sum_by attribute_length atts + n)
of_element space atts others n h =
    let here = total-cons space (spaces_of_attributes atts ++ others) in
    let both = total-append (spaces_of_attributes atts) others in
    let own = of_attributes atts in
    omega arith

mutual
  of_part : (c : Content) → total (spaces_within c) ≤ part_length c
  of_part (Text t) =
      let none : total (spaces_within (Text t)) ≡ 0 = ap (λ w. total (joined (map named_spaces w.elements))) (within_text t) in
      omega arith
  of_part (Child' name atts shape row) =
      let is = ap total (within_shown name atts shape row) in
      let size = part_shown name atts shape row in
      let all =
      of_element name.space atts (joined (map spaces_within (parts_of shape row))) (sum_by part_length (parts_of shape row))
      (of_row row) in
      omega arith

  of_row : {m : Count} (row : Row_of-Content m)
      → total (joined (map spaces_within (items-the_row-Content m row))) ≤ sum_by part_length (items-the_row-Content m row)
  of_row end_of-Content = omega arith
  of_row (more_of-Content c row) =
      let here = of_part c in
      let more = of_row row in
      let both = total-append (spaces_within c) (joined (map spaces_within (items-the_row-Content _ row))) in
      let split = sum_by-cons part_length c (items-the_row-Content _ row) in
      omega arith

of_parts : (cs : List Content) → total (joined (map spaces_within cs)) ≤ sum_by part_length cs
of_parts [] = omega arith
of_parts (c ∷ cs) =
    let here = of_part c in
    let more = of_parts cs in
    let both = total-append (spaces_within c) (joined (map spaces_within cs)) in
    let split = sum_by-cons part_length c cs in
    omega arith

of_tree : (t : Tree) → total (spaces_named t) ≤ tree_length t
of_tree t =
    let is = ap total (spaces_in t) in
    let all =
    of_element t.name.space t.attributes (joined (map spaces_within t.content)) (sum_by part_length t.content)
    (of_parts t.content) in
    let size = length_in t in
    omega arith

-- ---- each once, and those that pass a test

of_without : (x : List ℕ) (xs : List (List ℕ)) → total (without x xs) ≤ total xs
of_without x [] = omega arith
of_without x (y ∷ ys) = by (bytes_eq x y) (of_without x ys)
  where
    by : (b : Bool) → total (without x ys) ≤ total ys
        → total (elim b [ true ↦ without x ys | false ↦ y ∷ without x ys ]) ≤ total (y ∷ ys)
    by true more = let split = total-cons y ys in omega arith
    by false more = let split = total-cons y ys in let other = total-cons y (without x ys) in omega arith

of_firsts : (xs : List (List ℕ)) → total (firsts xs) ≤ total xs
of_firsts [] = omega arith
of_firsts (x ∷ xs) =
    let more = of_firsts xs in
    let less = of_without x (firsts xs) in
    let split = total-cons x xs in
    let other = total-cons x (without x (firsts xs)) in
    omega arith

of_filter : (p : List ℕ → Bool) (xs : List (List ℕ)) → total (filter p xs) ≤ total xs
of_filter p [] = omega arith
of_filter p (x ∷ xs) = by (p x) (of_filter p xs)
  where
    by : (b : Bool) → total (filter p xs) ≤ total xs → total (cond b (x ∷ filter p xs) (filter p xs)) ≤ total (x ∷ xs)
    by true more = let split = total-cons x xs in let other = total-cons x (filter p xs) in omega arith
    by false more = let split = total-cons x xs in omega arith

pub of_further : (p : List ℕ → Bool) (t : Tree) → total (filter p (namespaces t)) ≤ tree_length t
of_further p t =
    let passing = of_filter p (namespaces t) in
    let some = of_without [] (firsts (spaces_named t)) in
    let once = of_firsts (spaces_named t) in
    let all = of_tree t in
    omega arith
