-- A child's coding is a byte 1 and the coding of its tree.
use Rattle.std.proofs.Common.{◌≡◌, ℕ, List, ◌∷◌, ◌++◌, length, map, ap, ◌∙◌}
use Rattle.std.proofs.lemmas.List.{length-map}
use Rattle.std.specs.Int.{w8, w16, to_le_bytes}
use Rattle.ba_tree.specs.declared.trees.Tree.{Tree}
use Rattle.ba_tree.specs.declared.trees.Content.{Content}
use Rattle.ba_tree.specs.declared.trees.Content.TheVariants.{Child, Text, outs-Child, outs-Text}
use Rattle.ba_tree.specs.declared.trees.Content.TheFolds as folds
use Rattle.ba_record.specs.Coding.{content_coding, tree_coding, layer_of_content, layer_of_tree, name_coding, attribute_coding}
use Rattle.ba_record.specs.Coding.{string_coding}
use Rattle.ba_tree.specs.Trees.{joined}

pub child_coding : (tree : Tree) → content_coding (Child tree) ≡ 1 ∷ tree_coding tree
unfolding content_coding tree_coding
child_coding tree = folds.fold_out-Content _ _ layer_of_content layer_of_tree (Child tree)
    ∙ ap (λ c. layer_of_content (folds.map-Content Content Tree (List ℕ) (List ℕ) content_coding tree_coding c)) (outs-Child tree)

pub text_coding : (text : List ℕ) → content_coding (Text text) ≡ 0 ∷ string_coding text
unfolding content_coding tree_coding
text_coding text = folds.fold_out-Content _ _ layer_of_content layer_of_tree (Text text)
    ∙ ap (λ c. layer_of_content (folds.map-Content Content Tree (List ℕ) (List ℕ) content_coding tree_coding c)) (outs-Text text)

pub tree_is : (t : Tree)
    → tree_coding t ≡ name_coding t.name ++
    ((to_le_bytes w8 (length t.attributes) ++ joined (map attribute_coding t.attributes)) ++
    (to_le_bytes w16 (length t.content) ++ joined (map content_coding t.content)))
unfolding content_coding tree_coding
tree_is t = folds.fold_out-Tree _ _ layer_of_content layer_of_tree t
    ∙ ap (λ n. name_coding t.name ++
    ((to_le_bytes w8 (length t.attributes) ++ joined (map attribute_coding t.attributes)) ++
    (to_le_bytes w16 n ++ joined (map content_coding t.content)))) (length-map t.content content_coding)
