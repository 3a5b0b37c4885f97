-- The further namespaces of a tree are the further ones of all that it names, each once: for the laws on envelopes.
use Rattle.std.proofs.Common.{◌≡◌, ℕ, ◌≤◌, Bool, true, false, List, [], ◌∷◌, ◌++◌, length, filter, cond, refl, sym, ap, ◌∙◌, arith}
use Rattle.std.specs.Cmp.Lexicographic as lexicographic
use Rattle.std.specs.Str.{bytes_eq}
use Rattle.ba_tree.specs.declared.trees.Tree.{Tree}
use Rattle.ba_tree.specs.Trees.{firsts, spaces_named, without}
use Rattle.ba_xml_writer.specs.Namespaces.{further, is_further}

pub filter_append : {X : Type 0} (p : X → Bool) (xs ys : List X) → filter p (xs ++ ys) ≡ filter p xs ++ filter p ys
filter_append p [] ys = refl
filter_append p (x ∷ xs) ys = by (p x) (filter_append p xs ys)
  where
    by : (b : Bool) → filter p (xs ++ ys) ≡ filter p xs ++ filter p ys
        → cond b (x ∷ filter p (xs ++ ys)) (filter p (xs ++ ys)) ≡ cond b (x ∷ filter p xs) (filter p xs) ++ filter p ys
    by true e = ap (λ l. x ∷ l) e
    by false e = e

-- ---- what passes, without one

abbrev left_out : Bool → List ℕ → List (List ℕ) → List (List ℕ)
left_out same y rest = elim same [ true ↦ rest | false ↦ y ∷ rest ]

module _ (p : List ℕ → Bool) (x : List ℕ) where
  filter_left_out : (y : List ℕ) (ys rest : List (List ℕ)) (same passes : Bool) → p y ≡ passes → filter p rest ≡ without x (filter p ys)
      → filter p (left_out same y rest) ≡ cond passes (left_out same y (without x (filter p ys))) (without x (filter p ys))
  filter_left_out y ys rest true true is e = e
  filter_left_out y ys rest true false is e = e
  filter_left_out y ys rest false true is e = ap (λ z. cond z (y ∷ filter p rest) (filter p rest)) is ∙ ap (λ l. y ∷ l) e
  filter_left_out y ys rest false false is e = ap (λ z. cond z (y ∷ filter p rest) (filter p rest)) is ∙ e

  without_filter : (y : List ℕ) (ys : List (List ℕ)) (passes : Bool) → p y ≡ passes
      → without x (filter p (y ∷ ys))
      ≡ cond passes (left_out (bytes_eq x y) y (without x (filter p ys))) (without x (filter p ys))
  without_filter y ys true is = ap (λ z. without x (cond z (y ∷ filter p ys) (filter p ys))) is
  without_filter y ys false is = ap (λ z. without x (cond z (y ∷ filter p ys) (filter p ys))) is

  pub filter_without : (ys : List (List ℕ)) → filter p (without x ys) ≡ without x (filter p ys)
  filter_without [] = refl
  filter_without (y ∷ ys) =
      filter_left_out y ys (without x ys) (bytes_eq x y) (p y) refl (filter_without ys)
      ∙ sym (without_filter y ys (p y) refl)

  -- one that doesn't pass is in none of what passes
  other : (y : List ℕ) → p x ≡ false → p y ≡ true → (same : Bool) → bytes_eq x y ≡ same → same ≡ false
  other y h is false e = refl
  other y h is true e = let same : p x ≡ p y = ap p (lexicographic.same_text x y (sym e)) in absurd (cc)

  absent : (ys : List (List ℕ)) → p x ≡ false → without x (filter p ys) ≡ filter p ys
  absent [] h = refl
  absent (y ∷ ys) h = by (p y) refl (absent ys h)
    where
      by : (b : Bool) → p y ≡ b → without x (filter p ys) ≡ filter p ys
          → without x (cond b (y ∷ filter p ys) (filter p ys)) ≡ cond b (y ∷ filter p ys) (filter p ys)
      by true is e =
          ap (λ z. left_out z y (without x (filter p ys))) (other y h is (bytes_eq x y) refl) ∙ ap (λ l. y ∷ l) e
      by false is e = e

-- ---- each once

filter_firsts : (p : List ℕ → Bool) (xs : List (List ℕ)) → filter p (firsts xs) ≡ firsts (filter p xs)
filter_firsts p [] = refl
filter_firsts p (x ∷ xs) = by (p x) refl (filter_firsts p xs)
  where
    by : (b : Bool) → p x ≡ b → filter p (firsts xs) ≡ firsts (filter p xs)
        → cond b (x ∷ filter p (without x (firsts xs))) (filter p (without x (firsts xs)))
        ≡ firsts (cond b (x ∷ filter p xs) (filter p xs))
    by true is e = ap (λ l. x ∷ l) (filter_without p x (firsts xs) ∙ ap (without x) e)
    by false is e = filter_without p x (firsts xs) ∙ absent p x (firsts xs) is ∙ e

-- no namespace is no further one
none_is_not_further : is_further [] ≡ false
none_is_not_further = refl

further_of_firsts : (xs : List (List ℕ)) → filter is_further (without [] (firsts xs)) ≡ firsts (filter is_further xs)
further_of_firsts xs =
    filter_without is_further [] (firsts xs) ∙ absent is_further [] (firsts xs) none_is_not_further
    ∙ filter_firsts is_further xs

pub further_is : (t : Tree) → further t ≡ firsts (filter is_further (spaces_named t))
further_is t = further_of_firsts (spaces_named t)

-- ---- they are no more than all namespaces

shorter : (p : List ℕ → Bool) (xs : List (List ℕ)) → length (filter p xs) ≤ length xs
shorter p [] = omega arith
shorter p (x ∷ xs) = by (p x) (shorter p xs)
  where
    by : (b : Bool) → length (filter p xs) ≤ length xs → length (cond b (x ∷ filter p xs) (filter p xs)) ≤ length (x ∷ xs)
    by true h = omega arith
    by false h = omega arith

pub few_further : (xs : List (List ℕ)) → length (firsts (filter is_further xs)) ≤ length (without [] (firsts xs))
few_further xs =
    let same = ap length (further_of_firsts xs) in
    let less = shorter is_further (without [] (firsts xs)) in
    omega arith
