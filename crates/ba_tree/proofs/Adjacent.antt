-- A slice in which each item and the next pass a test, as `is_sorted_by` tells it.
use Rattle.std.proofs.Common.{◌≡◌, ◌<◌, ◌+◌, ◌&&◌, ℕ, zero, suc, Bool, true, false, List, [], ◌∷◌, map, length, refl, ap, ◌∙◌, arith}
use native.Mathlib.Numerals.{unary_clauses}
use Rattle.std.specs.List.{IsAllAdjacentAnswer, slice_index_or}
use Rattle.ba_tree.specs.Trees.{all_adjacent}

never : (b : Bool) → false ≡ (b && false)
never true = refl
never false = refl

module _ {X : Type 0} (test : X → X → Bool) where
  all_pass : (xs : List X) → ((k : ℕ) (d : X) → k + 1 < length xs → true ≡ test (slice_index_or xs k d) (slice_index_or xs (k + 1) d))
      → true ≡ all_adjacent test xs
  all_pass [] h = refl
  all_pass (x ∷ []) h = refl
  all_pass (x ∷ y ∷ more) h =
      ap (λ b. b && true) (h 0 x (omega arith))
      ∙ ap (λ b. test x y && b) (all_pass (y ∷ more) (λ k d lt. simp unary_clauses (simp unary_clauses at (h (k + 1) d (omega arith)))))

  one_fails : (xs : List X) (k : ℕ) → k + 1 < length xs → ((d : X) → false ≡ test (slice_index_or xs k d) (slice_index_or xs (k + 1) d))
      → false ≡ all_adjacent test xs
  one_fails [] k lt h = absurd (omega arith)
  one_fails (x ∷ []) k lt h = absurd (omega arith)
  one_fails (x ∷ y ∷ more) zero lt h = ap (λ b. b && all_adjacent test (y ∷ more)) (h x)
  one_fails (x ∷ y ∷ more) (suc k) lt h =
      never (test x y) ∙ ap (λ b. test x y && b)
      (one_fails (y ∷ more) k (omega arith) (λ d. simp unary_clauses (simp unary_clauses at (h d))))

  pub adjacent_is : (xs : List X) (r : Bool) → IsAllAdjacentAnswer (λ x y b. b ≡ test x y) xs r → r ≡ all_adjacent test xs
  adjacent_is xs true h = all_pass xs h
  adjacent_is xs false h = one_fails xs h.0 h.1 h.2

pub adjacent_map : {X Y : Type 0} (test : Y → Y → Bool) (h : X → Y) (xs : List X)
    → all_adjacent test (map h xs) ≡ all_adjacent (λ x y. test (h x) (h y)) xs
adjacent_map test h [] = refl
adjacent_map test h (x ∷ []) = refl
adjacent_map test h (x ∷ y ∷ more) = ap (λ b. test (h x) (h y) && b) (adjacent_map test h (y ∷ more))
