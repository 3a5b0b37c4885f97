-- The first of some bytes, one more at a time.
use Rattle.std.proofs.Common.{◌≡◌, ℕ, zero, suc, ◌+◌, ◌<◌, Bool, true, false, ◌&&◌, ◌==◌, List, [], ◌∷◌, take, get_or, length, refl, sym}
use Rattle.std.proofs.Common.{ap, ap₂, ◌∙◌, arith, eq-eqb, true≢false}
use Rattle.ba_xml_words.specs.inside.Remaining.{is_front}

first_of : (x y : Bool) → (x && y) ≡ true → x ≡ true
first_of true y e = refl
first_of false y e = absurd (true≢false (sym e))

second_of : (x y : Bool) → (x && y) ≡ true → y ≡ true
second_of true y e = e
second_of false y e = absurd (true≢false (sym e))

next_front : (bs rest : List ℕ) (n : ℕ) → n < length bs → n < length rest → get_or rest n 0 ≡ get_or bs n 0
    → is_front (take n bs) rest ≡ true
    → is_front (take (suc n) bs) rest ≡ true
next_front [] rest n h k e f = refl
next_front (b ∷ bs) [] n h k e f = absurd (none k)
  where
    none : n < length {A = ℕ} [] → ⊥
    none k = omega (arith, k)
next_front (b ∷ bs) (x ∷ xs) zero h k e f = ap₂ (λ t u. t && u) (eq-eqb x b e) refl
next_front (b ∷ bs) (x ∷ xs) (suc n) h k e f =
    ap₂ (λ t u. t && u) (first_of (x == b) (is_front (take n bs) xs) f)
    (next_front bs xs n fewer less e (second_of (x == b) (is_front (take n bs) xs) f))
  where
    fewer : n < length bs
    fewer = omega (arith, h)

    less : n < length xs
    less = omega (arith, k)

-- one byte more that has to come
pub front_more : (bs rest : List ℕ) (n : ℕ) → n < length bs → n < length rest → get_or rest n 0 ≡ get_or bs n 0
    → is_front (take n bs) rest ≡ true
    → is_front (take (n + 1) bs) rest ≡ true
front_more bs rest n h k e f = ap (λ m. is_front (take m bs) rest) same ∙ next_front bs rest n h k e f
  where
    same : n + 1 ≡ suc n
    same = omega arith
