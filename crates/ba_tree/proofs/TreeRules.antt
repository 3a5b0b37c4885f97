-- The rules of a tree, said of its own element and of what stands in it.
use Rattle.std.proofs.Common.{◌≡◌, ◌&&◌, not, Bool, List, [], ◌∷◌, map, refl, ap, ◌∙◌}
use Rattle.std.proofs.lemmas.List.Folds.{list_all-append, list_all-map}
use Rattle.std.specs.List.{list_all}
use Rattle.ba_tree.specs.declared.trees.Tree.{Tree}
use Rattle.ba_tree.specs.Trees.{joined, element_of, within, is_fit_name, is_fit_attribute, rises, is_fit_part, is_text, is_fit_element}
use Rattle.ba_tree.specs.Trees.{is_fit_tree, all_adjacent}
use Rattle.ba_tree.proofs.Adjacent.{adjacent_map}
use Rattle.ba_tree.proofs.TreeLaws.{elements_in}

pub all_joined : {X Y : Type 0} (p : Y → Bool) (h : X → List Y) (xs : List X)
    → list_all p (joined (map h xs)) ≡ list_all (λ x. list_all p (h x)) xs
all_joined p h [] = refl
all_joined p h (x ∷ xs) = list_all-append p (h x) (joined (map h xs)) ∙ ap (λ b. list_all p (h x) && b) (all_joined p h xs)

pub fit_alone : (t : Tree) → is_fit_element (element_of t)
    ≡ ((is_fit_name t.name && (list_all is_fit_attribute t.attributes && rises t.attributes))
    && (list_all (λ c. is_fit_part (within c).part) t.content
    && all_adjacent (λ c d. not (is_text (within c).part && is_text (within d).part)) t.content))
fit_alone t = λ i. (is_fit_name t.name && (list_all is_fit_attribute t.attributes && rises t.attributes))
    && (list_all-map is_fit_part (λ c. (within c).part) t.content i
    && adjacent_map (λ p q. not (is_text p && is_text q)) (λ c. (within c).part) t.content i)

pub fit_in : (t : Tree) → is_fit_tree t ≡ (is_fit_element (element_of t)
    && list_all (λ c. list_all is_fit_element (within c).elements) t.content)
fit_in t = ap (list_all is_fit_element) (elements_in t)
    ∙ ap (λ b. is_fit_element (element_of t) && b) (all_joined is_fit_element (λ c. (within c).elements) t.content)
