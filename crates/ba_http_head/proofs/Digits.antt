-- Digits, from the first on; for the clause of counted_length.
use Rattle.std.proofs.Common.{suc, zero, ◌≡◌, ℕ, ◌<◌, ◌≤◌, Bool, true, false, List, [], ◌∷◌, length, get_or, refl, ap, arith}
use Rattle.std.specs.Prelude.{◌&&◌, if◌then◌else◌}
use Rattle.std.specs.Str.{all_ascii_digits}
use Rattle.std.specs.Char.{is_ascii_digit}
use Rattle.std.specs.Prelude.{Ok, Err, Some}
use Rattle.std.specs.Int.{IsInRange}
use Rattle.std.proofs.Math.Dec.{leb}
use Rattle.std.proofs.lemmas.Bool.{leb-true, lt-leb, le-leb}
use Rattle.ba_http_head.specs.Lengths.{counted_length}
use Rattle.ba_http_head.specs.declared.faults.HttpFault.TheVariants.{TooLarge}
use Rattle.ba_http_head.specs.declared.lengths.Length.TheVariants.{Counted}

pub both : (a b : Bool) → (a && b) ≡ true → (a ≡ true) × (b ≡ true)
both true b h = (refl, h)
both false b h = let no : false ≡ true = h in absurd (cc)

pub digit_at : (text : List ℕ) (i : ℕ) → i < length text → all_ascii_digits text ≡ true → is_ascii_digit (get_or text i 0) ≡ true
digit_at [] i less all = absurd (omega (arith, less))
digit_at (x ∷ xs) zero less all = (both (is_ascii_digit x) (all_ascii_digits xs) all).0
digit_at (x ∷ xs) (suc i) less all = digit_at xs i (omega (arith, less)) (both (is_ascii_digit x) (all_ascii_digits xs) all).1

pub digit_range : (b : ℕ) → is_ascii_digit b ≡ true → IsInRange 48 57 b
digit_range b is = let h = both (leb 48 b) (leb b 57) is in (leb-true 48 b h.0, leb-true b 57 h.1)

pub too_many : (n : ℕ) → 262144 < n → counted_length n ≡ Err TooLarge
too_many n over = ap (λ t. if t then Ok (Some (Counted n)) else Err TooLarge) (lt-leb n 262144 over)

pub not_many : (n : ℕ) → n ≤ 262144 → counted_length n ≡ Ok (Some (Counted n))
not_many n within = ap (λ t. if t then Ok (Some (Counted n)) else Err TooLarge) (le-leb n 262144 within)
