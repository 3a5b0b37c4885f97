-- A coding is as long as the length that is told of it.
use Rattle.std.proofs.Common.{◌≡◌, ℕ, zero, suc, ◌≤◌, inl, inr, List, [], ◌∷◌, ◌++◌, length, map, ap, refl, ◌∙◌, arith, length-append}
use Rattle.ba_tree.proofs.TreeLaws.{content_is}
use Rattle.std.proofs.lemmas.List.Sums.{sum_by-cons}
use Rattle.std.specs.Int.{w8, w16, to_le_bytes}
use Rattle.std.specs.List.{sum_by}
use Rattle.ba_tree.specs.declared.trees.Name.{Name}
use Rattle.ba_tree.specs.declared.trees.Attribute.{Attribute}
use Rattle.ba_tree.specs.declared.trees.Tree.{Tree}
use Rattle.ba_tree.specs.declared.trees.Content.{Content}
use Rattle.ba_message.specs.declared.endpoints.Epr.{Epr}
use Rattle.ba_tree.specs.Trees.{joined}
use Rattle.ba_tree.specs.Lengths.{tree_length, part_length, name_length, attribute_length}
use Rattle.ba_message.specs.Endpoints.{endpoint_length}
use Rattle.ba_tree.proofs.TreeLaws.{length_in, length_text, length_child}
use Rattle.ba_record.specs.Coding.{string_coding, name_coding, attribute_coding, content_coding, tree_coding, endpoint_coding}
use Rattle.ba_record.proofs.Trees.{child_coding, text_coding, tree_is}

name_is_long : (n : Name) → length (name_coding n) ≡ name_length n
name_is_long n = omega (arith, length-append (string_coding n.space) (string_coding n.local))

attribute_is_long : (a : Attribute) → length (attribute_coding a) ≡ attribute_length a
attribute_is_long a = omega (arith, name_is_long a.name, length-append (name_coding a.name) (string_coding a.value))

attributes_are_long : (attributes : List Attribute) → length (joined (map attribute_coding attributes)) ≡ sum_by attribute_length attributes
attributes_are_long [] = refl
attributes_are_long (a ∷ more) =
    let split = sum_by-cons attribute_length a more in
    let here = attribute_is_long a in
    let rest = attributes_are_long more in
    let parts = length-append (attribute_coding a) (joined (map attribute_coding more)) in
    omega arith

content_is_long : (n : ℕ) → ((t : Tree) → tree_length t ≤ n → length (tree_coding t) ≡ tree_length t) → (c : Content)
    → part_length c ≤ n → length (content_coding c) ≡ part_length c
content_is_long n tree c within =
    elim (content_is c) [
      | inl is ↦
          let told = ap part_length is.1 ∙ length_text is.0 in
          let long = ap length (ap content_coding is.1 ∙ text_coding is.0) in
          omega arith
      | inr is ↦
          let told = ap part_length is.1 ∙ length_child is.0 in
          let long = ap length (ap content_coding is.1 ∙ child_coding is.0) in
          let below = tree is.0 (omega arith) in
          omega arith
    ]

contents_are_long : (n : ℕ) → ((t : Tree) → tree_length t ≤ n → length (tree_coding t) ≡ tree_length t)
    → (contents : List Content) → sum_by part_length contents ≤ n
    → length (joined (map content_coding contents)) ≡ sum_by part_length contents
contents_are_long n tree [] within = refl
contents_are_long n tree (c ∷ more) within =
    let split = sum_by-cons part_length c more in
    let here = content_is_long n tree c (omega arith) in
    let rest = contents_are_long n tree more (omega arith) in
    let parts = length-append (content_coding c) (joined (map content_coding more)) in
    omega arith

tree_is_long : (n : ℕ) (t : Tree) → tree_length t ≤ n → length (tree_coding t) ≡ tree_length t
tree_is_long zero t within = absurd (let told = length_in t in omega arith)
tree_is_long (suc n) t within =
    let told = length_in t in
    let long = ap length (tree_is t) in
    let name = name_is_long t.name in
    let attributes = attributes_are_long t.attributes in
    let contents = contents_are_long n (tree_is_long n) t.content (omega arith) in
    let a = to_le_bytes w8 (length t.attributes) ++ joined (map attribute_coding t.attributes) in
    let c = to_le_bytes w16 (length t.content) ++ joined (map content_coding t.content) in
    let parts = length-append (name_coding t.name) (a ++ c) in
    let more = length-append a c in
    omega arith

pub tree_length_is : (t : Tree) → length (tree_coding t) ≡ tree_length t
tree_length_is t = tree_is_long (tree_length t) t (omega arith)

trees_are_long : (ts : List Tree) → length (joined (map tree_coding ts)) ≡ sum_by tree_length ts
trees_are_long [] = refl
trees_are_long (t ∷ more) =
    let split = sum_by-cons tree_length t more in
    let here = tree_length_is t in
    let rest = trees_are_long more in
    let parts = length-append (tree_coding t) (joined (map tree_coding more)) in
    omega arith

pub endpoint_length_is : (e : Epr) → length (endpoint_coding e) ≡ endpoint_length e
endpoint_length_is e =
    let trees = trees_are_long e.parameters in
    let parts = length-append (string_coding e.address) (to_le_bytes w8 (length e.parameters) ++ joined (map tree_coding e.parameters)) in
    omega arith
