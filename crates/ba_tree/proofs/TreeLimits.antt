-- The limits of a tree, said of its own element and of what stands in it.
use Rattle.std.proofs.Common.{◌≡◌, ◌+◌, ◌-◌, ◌&&◌, ℕ, max, true, List, [], ◌∷◌, map, length, sym, ap, ◌∙◌, arith, nat_le}
use Rattle.std.proofs.lemmas.Bool.Decides.{nat_tests}
use Rattle.std.specs.List.{list_all}
use Rattle.ba_tree.specs.declared.trees.Tree.{Tree}
use Rattle.ba_tree.specs.declared.trees.Content.TheVariants.{Child}
use Rattle.ba_tree.specs.Trees.{greatest, elements, within, levels, levels_of, most_attributes}
use Rattle.ba_tree.proofs.TreeLaws.{elements_in, levels_in, within_child}
use Rattle.ba_tree.proofs.TreeRules.{all_joined}

pub greatest_within : {X : Type 0} (f : X → ℕ) (limit : ℕ) (xs : List X)
    → nat_le (greatest (map f xs)) limit ≡ list_all (λ x. nat_le (f x) limit) xs
greatest_within f limit [] = none_above limit
  where
    none_above : (limit : ℕ) → nat_le 0 limit ≡ true
    none_above limit = grind (arith, nat_tests)
greatest_within f limit (x ∷ xs) = max_within (f x) (greatest (map f xs)) limit
    ∙ ap (λ b. nat_le (f x) limit && b) (greatest_within f limit xs)
  where
    max_within : (m n limit : ℕ) → nat_le (max m n) limit ≡ (nat_le m limit && nat_le n limit)
    max_within m n limit = grind (arith, nat_tests)

one_above : (n limit : ℕ) → nat_le (1 + n) limit ≡ (nat_le 1 limit && nat_le n (limit - 1))
one_above n limit = grind (arith, nat_tests)

pub levels_step : (t : Tree) (limit : ℕ) → nat_le (levels t) limit
    ≡ (nat_le 1 limit && list_all (λ c. nat_le (levels_of c) (limit - 1)) t.content)
levels_step t limit = ap (λ n. nat_le n limit) (levels_in t) ∙ one_above (greatest (map levels_of t.content)) limit
    ∙ ap (λ b. nat_le 1 limit && b) (greatest_within levels_of (limit - 1) t.content)

pub attributes_step : (t : Tree) (limit : ℕ)
    → nat_le (most_attributes t) limit ≡ (nat_le (length t.attributes) limit
    && list_all (λ c. list_all (λ e. nat_le (length e.attributes) limit) (within c).elements) t.content)
attributes_step t limit =
    greatest_within (λ e. length e.attributes) limit (elements t)
    ∙ ap (list_all (λ e. nat_le (length e.attributes) limit)) (elements_in t)
    ∙ ap (λ b. nat_le (length t.attributes) limit && b)
    (all_joined (λ e. nat_le (length e.attributes) limit) (λ c. (within c).elements) t.content)

pub attributes_of_child : (t : Tree) (limit : ℕ)
    → nat_le (most_attributes t) limit ≡ list_all (λ e. nat_le (length e.attributes) limit) (within (Child t)).elements
attributes_of_child t limit = greatest_within (λ e. length e.attributes) limit (elements t)
    ∙ ap (λ w. list_all (λ e. nat_le (length e.attributes) limit) w.elements) (sym (within_child t))
