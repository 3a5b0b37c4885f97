-- The place of what passes a test in a list, for the look-up of an end by its Id.
use Rattle.std.proofs.Common.{◌≡◌, ℕ, ◌<◌, Bool, true, false, List, [], ◌∷◌, length, Option, None, Some, IfNone, IfSome, nat_lt, position}
use Rattle.std.proofs.Common.{slice_get, refl, sym, ap, ◌∙◌, subst, arith, if◌then◌else◌}
use Rattle.std.specs.List.{find, position_or_len}
use Rattle.std.proofs.lemmas.Bool.Decides.{nat_tests}
use Rattle.std.proofs.lemmas.List.Folds.{find_at}
use Rattle.std.proofs.lemmas.Option.{slice_get_past}

-- what is found passes the test
pub found_passes : {X : Type 0} (test : X → Bool) (xs : List X) (x : X) → find test xs ≡ Some x → test x ≡ true
found_passes test [] x h = cc
found_passes test (y ∷ ys) x h = by_head (test y) refl h (found_passes test ys x)
  where
    by_head : (b : Bool) → test y ≡ b → (if b then Some y else find test ys) ≡ Some x
        → (find test ys ≡ Some x → test x ≡ true) → test x ≡ true
    by_head true is k rest = let same : y ≡ x = cc in subst (λ z. test z ≡ true) same is
    by_head false is k rest = rest k

placed : (b : Bool) (n k : ℕ) → (if b then Some n else None) ≡ Some k → (b ≡ true) × (n ≡ k)
placed true n k h = let same : n ≡ k = cc in (refl, same)
placed false n k h = cc

not_placed : (b : Bool) (n : ℕ) → (if b then Some n else None) ≡ None → b ≡ false
not_placed true n h = cc
not_placed false n h = refl

pub place_within : {X : Type 0} (test : X → Bool) (xs : List X) (k : ℕ) → position test xs ≡ Some k → k < length xs
place_within test xs k h =
    let both = placed (nat_lt (position_or_len test xs) (length xs)) (position_or_len test xs) k h in
    let below = both.0 in
    let same = both.1 in
    grind (arith, nat_tests)

pub place_found : {X : Type 0} (test : X → Bool) (xs : List X) (k : ℕ) → position test xs ≡ Some k → find test xs ≡ slice_get xs k
place_found test xs k h =
    let both = placed (nat_lt (position_or_len test xs) (length xs)) (position_or_len test xs) k h in
    find_at test xs ∙ ap (slice_get xs) both.1

pub none_found : {X : Type 0} (test : X → Bool) (xs : List X) → position test xs ≡ None → find test xs ≡ None
none_found test xs h =
    let past = not_placed (nat_lt (position_or_len test xs) (length xs)) (position_or_len test xs) h in
    find_at test xs ∙ slice_get_past xs (position_or_len test xs) (grind (arith, nat_tests))

pub within_if_some : {X : Type 0} (test : X → Bool) (xs : List X) (o : Option ℕ) → o ≡ position test xs → IfSome o (λ k. k < length xs)
within_if_some test xs None h = tt
within_if_some test xs (Some k) h = place_within test xs k (sym h)

pub found_if_some : {X : Type 0} (test : X → Bool) (xs : List X) (o : Option ℕ) → o ≡ position test xs
    → IfSome o (λ k. find test xs ≡ slice_get xs k)
found_if_some test xs None h = tt
found_if_some test xs (Some k) h = place_found test xs k (sym h)

pub none_if_none : {X : Type 0} (test : X → Bool) (xs : List X) (o : Option ℕ) → o ≡ position test xs → IfNone o (find test xs ≡ None)
none_if_none test xs None h = none_found test xs (sym h)
none_if_none test xs (Some k) h = tt
