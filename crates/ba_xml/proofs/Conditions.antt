-- Conditions that are joined by "and", "or" and "not".
use Rattle.std.proofs.Common.{◌≡◌, Bool, true, false, not, ◌&&◌, ◌||◌, List, [], ◌∷◌, refl, sym, ◌∙◌, true≢false}
use Rattle.std.specs.List.{list_all}

pub both : (a b : Bool) → (a && b) ≡ true → (a ≡ true) × (b ≡ true)
both true b h = (refl, h)
both false b h = absurd (true≢false (sym h))

pub joined : (a b : Bool) → a ≡ true → b ≡ true → (a && b) ≡ true
joined true b h k = k
joined false b h k = h

pub and_false : (b : Bool) → (b && false) ≡ false
and_false true = refl
and_false false = refl

pub or_false : (a b : Bool) → (a || b) ≡ false → (a ≡ false) × (b ≡ false)
or_false false b h = (refl, h)
or_false true b h = absurd (true≢false h)

pub or_first : (a b : Bool) → (a || b) ≡ true → b ≡ false → a ≡ true
or_first true b h n = refl
or_first false b h n = absurd (true≢false (sym h ∙ n))

pub or_second : (a b : Bool) → b ≡ true → (a || b) ≡ true
or_second true b h = refl
or_second false b h = h

pub not_true : (b : Bool) → not b ≡ true → b ≡ false
not_true false h = refl
not_true true h = absurd (true≢false (sym h))

pub second_false : (a b : Bool) → a ≡ true → (a && b) ≡ false → b ≡ false
second_false true b e h = h
second_false false b e h = absurd (true≢false (sym e))

-- each item that passes both tests passes one of both
pub all_both : {X : Type 0} (p q : X → Bool) (xs : List X) → list_all p xs ≡ true → list_all q xs ≡ true
    → list_all (λ x. p x && q x) xs ≡ true
all_both p q [] h k = refl
all_both p q (x ∷ xs) h k =
    let hs : (p x ≡ true) × (list_all p xs ≡ true) = both (p x) (list_all p xs) h in
    let ks : (q x ≡ true) × (list_all q xs ≡ true) = both (q x) (list_all q xs) k in
    joined (p x && q x) (list_all (λ x. p x && q x) xs) (joined (p x) (q x) hs.0 ks.0) (all_both p q xs hs.1 ks.1)

pub all_imply : {X : Type 0} (p q : X → Bool) → ((x : X) → p x ≡ true → q x ≡ true) → (xs : List X) → list_all p xs ≡ true
    → list_all q xs ≡ true
all_imply p q f [] h = refl
all_imply p q f (x ∷ xs) h =
    let hs : (p x ≡ true) × (list_all p xs ≡ true) = both (p x) (list_all p xs) h in
    joined (q x) (list_all q xs) (f x hs.0) (all_imply p q f xs hs.1)
