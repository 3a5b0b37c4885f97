-- An endpoint that fits has every length and count in its range, and the test of it tells so.
use Rattle.std.proofs.Common.{◌≡◌, ℕ, zero, suc, ◌^◌, ◌<◌, ◌≤◌, inl, inr, true, nat_le, List, [], ◌∷◌, ◌++◌, length, map, ap, ◌∙◌, subst}
use Rattle.std.proofs.Common.{arith}
use Rattle.ba_tree.proofs.TreeLaws.{content_is}
use Rattle.std.proofs.lemmas.Bool.{leb-true}
use Rattle.std.proofs.lemmas.List.Sums.{sum_by-cons}
use Rattle.std.specs.Cmp.{first_so, second_so}
use Rattle.std.specs.List.{list_all, sum_by}
use Rattle.ba_tree.specs.declared.trees.Attribute.{Attribute}
use Rattle.ba_tree.specs.declared.trees.Tree.{Tree}
use Rattle.ba_tree.specs.declared.trees.Content.{Content}
use Rattle.ba_message.specs.declared.endpoints.Epr.{Epr}
use Rattle.ba_tree.specs.Trees.{Element, joined, greatest, elements, within, most_attributes}
use Rattle.ba_tree.specs.Lengths.{tree_length, part_length, attribute_length}
use Rattle.ba_message.specs.Endpoints.{Fits}
use Rattle.ba_tree.proofs.TreeLaws.{elements_in, within_child, length_in, length_text, length_child}
use Rattle.ba_record.proofs.Exact.{Each}
use Rattle.ba_record.proofs.ExactTrees.{IsAttribute, IsContent, IsTree, IsEndpoint}

-- the attributes of each of these elements are at most 16
abbrev FewAttributes : List Element → Type 0
FewAttributes es = greatest (map (λ e. length e.attributes) es) ≤ 16

few_front : (xs ys : List Element) → FewAttributes (xs ++ ys) → FewAttributes xs
few_front [] ys few = omega arith
few_front (x ∷ xs) ys few =
    let rest = few_front xs ys (omega arith) in
    omega arith

few_behind : (xs ys : List Element) → FewAttributes (xs ++ ys) → FewAttributes ys
few_behind [] ys few = few
few_behind (x ∷ xs) ys few = few_behind xs ys (omega arith)

attributes_in : (attributes : List Attribute) → sum_by attribute_length attributes < 2 ^ 16 → Each IsAttribute attributes
attributes_in [] small = tt
attributes_in (a ∷ more) small =
    let split = sum_by-cons attribute_length a more in
    (((omega arith, omega arith), omega arith), attributes_in more (omega arith))

content_in : (levels : ℕ) → ((t : Tree) → tree_length t ≤ levels → tree_length t < 2 ^ 16 → FewAttributes (elements t) → IsTree levels t)
    → (c : Content) → part_length c ≤ levels → part_length c < 2 ^ 16 → FewAttributes (within c).elements → IsContent (IsTree levels) c
content_in levels tree c deep small few =
    elim (content_is c) [
      | inl is ↦ let long = ap part_length is.1 ∙ length_text is.0 in inl (is.0, omega arith, is.1)
      | inr is ↦
          let long = ap part_length is.1 ∙ length_child is.0 in
          let below = ap (λ w. w.elements) (ap within is.1 ∙ within_child is.0) in
          inr (is.0, tree is.0 (omega arith) (omega arith) (subst FewAttributes below few), is.1)
    ]

contents_in : (levels : ℕ) → ((t : Tree) → tree_length t ≤ levels → tree_length t < 2 ^ 16 → FewAttributes (elements t) → IsTree levels t)
    → (contents : List Content) → sum_by part_length contents ≤ levels → sum_by part_length contents < 2 ^ 16
    → FewAttributes (joined (map (λ c. (within c).elements) contents))
    → Each (IsContent (IsTree levels)) contents
contents_in levels tree [] deep small few = tt
contents_in levels tree (c ∷ more) deep small few =
    let split = sum_by-cons part_length c more in
    let rest = joined (map (λ x. (within x).elements) more) in (
      content_in levels tree c (omega arith) (omega arith) (few_front (within c).elements rest few),
      contents_in levels tree more (omega arith) (omega arith) (few_behind (within c).elements rest few),
    )

content_some : (c : Content) → 1 ≤ part_length c
content_some c =
    elim (content_is c) [
      | inl is ↦ let long = ap part_length is.1 ∙ length_text is.0 in omega arith
      | inr is ↦ let long = ap part_length is.1 ∙ length_child is.0 in omega arith
    ]

count_below : (contents : List Content) → length contents ≤ sum_by part_length contents
count_below [] = omega arith
count_below (c ∷ more) =
    let split = sum_by-cons part_length c more in
    let some = content_some c in
    let rest = count_below more in
    omega arith

tree_in : (levels : ℕ) (t : Tree) → tree_length t ≤ levels → tree_length t < 2 ^ 16 → FewAttributes (elements t) → IsTree levels t
tree_in zero t deep small few = absurd (let is = length_in t in omega arith)
tree_in (suc levels) t deep small few =
    let is = length_in t in
    let here = subst FewAttributes (elements_in t) few in
    let count = count_below t.content in
    record {
      named = (omega arith, omega arith);
      few_attributes = omega arith;
      attributes = attributes_in t.attributes (omega arith);
      few_content = omega arith;
      content = contents_in levels (tree_in levels) t.content (omega arith) (omega arith) (omega arith);
    }

trees_in : (levels : ℕ) (ts : List Tree) → sum_by tree_length ts ≤ levels → levels < 2 ^ 16
    → list_all (λ t. nat_le (most_attributes t) 16) ts ≡ true → Each (IsTree levels) ts
trees_in levels [] deep small few = tt
trees_in levels (t ∷ more) deep small few =
    let split = sum_by-cons tree_length t more in
    let here = first_so (nat_le (most_attributes t) 16) (list_all (λ x. nat_le (most_attributes x) 16) more) few in
    let rest = second_so (nat_le (most_attributes t) 16) (list_all (λ x. nat_le (most_attributes x) 16) more) few in
    (tree_in levels t (omega arith) (omega arith) (leb-true (most_attributes t) 16 here), trees_in levels more (omega arith) small rest)

-- ---- an endpoint that fits

pub in_its_ranges : (e : Epr) → Fits e → IsEndpoint e
in_its_ranges e fits =
    let size = fits.size in
    (omega arith, (omega (arith, fits.count), trees_in 4096 e.parameters (omega arith) (omega arith) fits.attributes))
