-- A row that notes namespaces one after another holds each once, in the order of first appearance.
use Rattle.std.proofs.Common.{true, false, ◌<◌, ◌≤◌, length, nat_lt, arith, ◌≡◌, ◌||◌, ◌++◌, ◌∷◌, not, ℕ, Bool, List, [], refl, sym, ap}
use Rattle.std.proofs.Common.{◌∙◌, subst, Option, Some, None, append-nil, length-append}
use Rattle.std.proofs.lemmas.Bool.Decides.{nat_tests}
use Rattle.std.proofs.lemmas.List.Folds.{list_any-append}
use Rattle.std.specs.Cmp.Lexicographic as lexicographic
use Rattle.std.specs.List.{list_any}
use Rattle.std.specs.Str.{bytes_eq}
use Rattle.ba_tree.specs.Trees.{without, firsts}
use Rattle.ba_tree.proofs.SpaceLaws.{append_assoc}
use Rattle.ba_tree.specs.Spaces.{is_noted, go_on, all_noted}

-- the items that pass
abbrev keep : (List ℕ → Bool) → List (List ℕ) → List (List ℕ)
keep p [] = []
keep p (y ∷ ys) = elim (p y) [ true ↦ y ∷ keep p ys | false ↦ keep p ys ]

abbrev fresh : List (List ℕ) → List ℕ → Bool
fresh known y = not (is_noted known y)

same_is : (x y : List ℕ) → bytes_eq x y ≡ true → x ≡ y
same_is x y e = lexicographic.same_text x y (sym e)

same_self : (x : List ℕ) → bytes_eq x x ≡ true
same_self = lexicographic.nat_list_eq_equiv.refl

same_back : (x y : List ℕ) → bytes_eq x y ≡ bytes_eq y x
same_back = lexicographic.nat_list_eq_equiv.symm

alike : (p : List ℕ → Bool) (x y : List ℕ) → bytes_eq x y ≡ true → p x ≡ p y
alike p x y e = ap p (same_is x y e)

keep_without : (p : List ℕ → Bool) (x : List ℕ) (ys : List (List ℕ)) → p x ≡ false → keep p (without x ys) ≡ keep p ys
keep_without p x [] h = refl
keep_without p x (y ∷ ys) h = by (bytes_eq x y) refl (keep_without p x ys h)
  where
    by : (b : Bool) → bytes_eq x y ≡ b → keep p (without x ys) ≡ keep p ys
        → keep p (elim b [ true ↦ without x ys | false ↦ y ∷ without x ys ]) ≡ keep p (y ∷ ys)
    by true e others = others ∙ ap (λ b. elim b [ true ↦ y ∷ keep p ys | false ↦ keep p ys ]) (sym h ∙ alike p x y e)
    by false e others = ap (λ l. elim (p y) [ true ↦ y ∷ l | false ↦ l ]) others

or_last : (a b : Bool) → b ≡ true → (a || b) ≡ true
or_last true b h = refl
or_last false b h = h

or_none : (a b : Bool) → b ≡ false → (a || b) ≡ a
or_none true b h = refl
or_none false b h = h

-- one item more in the row, and its test
noted_more : (known : List (List ℕ)) (x y : List ℕ) → is_noted (known ++ x ∷ []) y ≡ (is_noted known y || bytes_eq y x)
noted_more known x y = ap (λ b. bytes_eq y [] || b)
    (list_any-append (bytes_eq y) known (x ∷ []) ∙ tail (list_any (bytes_eq y) known) (bytes_eq y x))
    ∙ group (bytes_eq y []) (list_any (bytes_eq y) known) (bytes_eq y x)
  where
    tail : (a b : Bool) → (a || (b || false)) ≡ (a || b)
    tail true b = refl
    tail false true = refl
    tail false false = refl

    group : (a b c : Bool) → (a || (b || c)) ≡ ((a || b) || c)
    group true b c = refl
    group false b c = refl

keep_fresh : (known : List (List ℕ)) (x : List ℕ) (ys : List (List ℕ))
    → keep (fresh known) (without x ys) ≡ keep (fresh (known ++ x ∷ [])) ys
keep_fresh known x [] = refl
keep_fresh known x (y ∷ ys) = by (bytes_eq x y) refl (keep_fresh known x ys)
  where
    taken : (b : Bool) → b ≡ false → (l : List (List ℕ)) → elim b [ true ↦ y ∷ l | false ↦ l ] ≡ l
    taken b e l = ap (λ c. elim c [ true ↦ y ∷ l | false ↦ l ]) e

    by : (b : Bool) → bytes_eq x y ≡ b → keep (fresh known) (without x ys) ≡ keep (fresh (known ++ x ∷ [])) ys
        → keep (fresh known) (elim b [ true ↦ without x ys | false ↦ y ∷ without x ys ]) ≡ keep (fresh (known ++ x ∷ [])) (y ∷ ys)
    by true e others =
        others ∙ sym (taken (fresh (known ++ x ∷ []) y)
        (ap not (noted_more known x y ∙ or_last (is_noted known y) (bytes_eq y x) (same_back y x ∙ e)))
        (keep (fresh (known ++ x ∷ [])) ys))
    by false e others =
        (λ i. elim (not (sym (noted_more known x y ∙ or_none (is_noted known y) (bytes_eq y x) (same_back y x ∙ e)) i))
        [ true ↦ y ∷ others i | false ↦ others i ])

-- what a row that knows these takes of some more
abbrev taken_of : List (List ℕ) → List (List ℕ) → List (List ℕ)
taken_of known xs = keep (fresh known) (firsts xs)

-- a row that had room holds all of these, and one that had none would have to hold more than it may
abbrev Fate : ℕ → List (List ℕ) → Option (List (List ℕ)) → Type 0
Fate most whole None = most < length whole
Fate most whole (Some known) = known ≡ whole

fate : (most : ℕ) (known xs : List (List ℕ)) → Fate most (known ++ taken_of known xs) (all_noted most known xs)
fate most known [] = sym (append-nil known)
fate most known (x ∷ xs) = by (is_noted known x) refl (fate most known xs) (fate most (known ++ x ∷ []) xs)
  where
    over : (rest : List (List ℕ)) → nat_lt (length known) most ≡ false → most < length (known ++ x ∷ rest)
    over rest e = let full : most ≤ length known = grind (arith, nat_tests) in omega (arith, full, length-append known (x ∷ rest))

    room : (r : Bool) → nat_lt (length known) most ≡ r
        → Fate most ((known ++ x ∷ []) ++ taken_of (known ++ x ∷ []) xs) (all_noted most (known ++ x ∷ []) xs)
        → Fate most (known ++ x ∷ keep (fresh known) (without x (firsts xs)))
        (go_on (elim r [ true ↦ Some (known ++ x ∷ []) | false ↦ None ]) (λ now. all_noted most now xs))
    room true e put =
        subst (λ w. Fate most w (all_noted most (known ++ x ∷ []) xs))
        (append_assoc known (x ∷ []) (taken_of (known ++ x ∷ []) xs)
        ∙ ap (λ l. known ++ x ∷ l) (sym (keep_fresh known x (firsts xs)))) put
    room false e put = over (keep (fresh known) (without x (firsts xs))) e

    by : (b : Bool) → is_noted known x ≡ b → Fate most (known ++ taken_of known xs) (all_noted most known xs)
        → Fate most ((known ++ x ∷ []) ++ taken_of (known ++ x ∷ []) xs) (all_noted most (known ++ x ∷ []) xs)
        → Fate most (known ++ elim (not b) [
          | true ↦ x ∷ keep (fresh known) (without x (firsts xs))
          | false ↦ keep (fresh known)
              (without x (firsts xs))
        ])
        (go_on (elim b [ true ↦ Some known | false ↦ elim (nat_lt (length known) most) [ true ↦ Some (known ++ x ∷ []) | false ↦ None ] ])
        (λ now. all_noted most now xs))
    by true e same put = subst (λ l. Fate most (known ++ l) (all_noted most known xs))
        (sym (keep_without (fresh known) x (firsts xs) (ap not e))) same
    by false e same put = room (nat_lt (length known) most) refl put

keep_some : (ys : List (List ℕ)) → keep (fresh []) ys ≡ without [] ys
keep_some [] = refl
keep_some (y ∷ ys) = by (bytes_eq y []) refl (keep_some ys)
  where
    by : (b : Bool) → bytes_eq y [] ≡ b → keep (fresh []) ys ≡ without [] ys
        → elim (not (b || false)) [ true ↦ y ∷ keep (fresh []) ys | false ↦ keep (fresh []) ys ] ≡ without [] (y ∷ ys)
    by true e others = others ∙ (λ i. elim (sym (same_back [] y ∙ e) i) [ true ↦ without [] ys | false ↦ y ∷ without [] ys ])
    by false e others = (λ i. y ∷ others i) ∙ (λ i. elim (sym (same_back [] y ∙ e) i) [ true ↦ without [] ys | false ↦ y ∷ without [] ys ])

pub row_is_firsts : (most : ℕ) (xs known : List (List ℕ)) → all_noted most [] xs ≡ Some known → known ≡ without [] (firsts xs)
row_is_firsts most xs known e = subst (Fate most (taken_of [] xs)) e (fate most [] xs) ∙ keep_some (firsts xs)

pub no_row_for : (most : ℕ) (xs : List (List ℕ)) → all_noted most [] xs ≡ None → most < length (without [] (firsts xs))
no_row_for most xs e = subst (λ l. most < length l) (keep_some (firsts xs)) (subst (Fate most (taken_of [] xs)) e (fate most [] xs))
