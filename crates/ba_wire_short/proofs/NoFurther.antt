-- Envelopes without parameters name no further namespaces: for `encode`.
use Rattle.std.proofs.Common.{◌≡◌, ℕ, false, List, [], ◌∷◌, ◌++◌, map, filter, cond, refl, ap, ◌∙◌}
use Rattle.ba_wire_limits.proofs.FurtherSpaces.{filter_append, further_is}
use Rattle.ba_soap_shapes.specs.Endpoints.{bare_element}
use Rattle.ba_tree.proofs.SpaceLaws.{spaces_in}
use Rattle.ba_tree.proofs.TreeLaws.{within_child, within_text}
use Rattle.ba_tree.specs.Spaces.{spaces_within}
use Rattle.ba_tree.specs.Trees.{firsts, joined, named_spaces, spaces_named}
use Rattle.ba_tree.specs.declared.trees.Content.{Content}
use Rattle.ba_tree.specs.declared.trees.Content.TheVariants.{Child, Text}
use Rattle.ba_tree.specs.declared.trees.Name.{Name}
use Rattle.ba_tree.specs.declared.trees.Tree.{Tree}
use Rattle.ba_xml_writer.specs.Namespaces.{further, is_further}

-- no name in a tree, or in trees beside each other, is in a further namespace
abbrev pub HasNone : Tree → Type 0
HasNone t = filter is_further (spaces_named t) ≡ []

abbrev pub AllHaveNone : List Tree → Type 0
AllHaveNone ts = filter is_further (joined (map spaces_named ts)) ≡ []

pub and_more : (t : Tree) (ts : List Tree) → HasNone t → AllHaveNone ts → AllHaveNone (t ∷ ts)
and_more t ts one more = filter_append is_further (spaces_named t) (joined (map spaces_named ts)) ∙ (λ i. one i ++ more i)

spaces_of_children : (ts : List Tree) → joined (map spaces_within (map Child ts)) ≡ joined (map spaces_named ts)
spaces_of_children [] = refl
spaces_of_children (t ∷ ts) = λ i. joined (map named_spaces (within_child t i).elements) ++ spaces_of_children ts i

bare_names : (n : Name) (cs : List Content) → is_further n.space ≡ false
    → filter is_further (spaces_named (bare_element n cs)) ≡ filter is_further (joined (map spaces_within cs))
bare_names n cs fixed =
    let inner = filter is_further (joined (map spaces_within cs)) in
    ap (filter is_further) (spaces_in (bare_element n cs)) ∙ ap (λ b. cond b (n.space ∷ inner) inner) fixed

pub element_has_none : (n : Name) (ts : List Tree) → is_further n.space ≡ false → AllHaveNone ts → HasNone (bare_element n (map Child ts))
element_has_none n ts fixed all = bare_names n (map Child ts) fixed ∙ ap (filter is_further) (spaces_of_children ts) ∙ all

pub text_has_none : (n : Name) (text : List ℕ) → is_further n.space ≡ false → HasNone (bare_element n (Text text ∷ []))
text_has_none n text fixed =
    bare_names n (Text text ∷ []) fixed ∙ ap (λ w. filter is_further (joined (map named_spaces w.elements) ++ [])) (within_text text)

pub none_further : (t : Tree) → HasNone t → further t ≡ []
none_further t none = further_is t ∙ ap firsts none
