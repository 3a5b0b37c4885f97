-- A number is read back from its digits: for the law on messages.
use Rattle.std.proofs.Common.{◌≡◌, ℕ, ◌-◌, ◌≤◌, ◌<◌, Bool, true, false, not, ◌&&◌, ◌||◌, ◌==◌, List, [], ◌∷◌, length, nat_le, slice_index}
use Rattle.std.proofs.Common.{refl, ap, ◌∙◌, arith}
use Rattle.std.proofs.lemmas.Bool.{le-leb}
use Rattle.std.proofs.lemmas.Bool.Decides.{nat_tests}
use Rattle.std.proofs.lemmas.Fmt.{decimal_is_IsNumeral}
use Rattle.std.proofs.lemmas.Str.Parse.{digit_at}
use Rattle.std.specs.Fmt.{decimal}
use Rattle.std.specs.List.{list_all}
use Rattle.std.specs.Char.{digit_value}
use Rattle.std.specs.Str.Parse.{AllDigits, IsNumeral, digits_value}
use Rattle.ba_soap_shapes.specs.declared.forms.TheConstants.{MOST_NUMBER}
use Rattle.ba_soap_shapes.specs.Forms.{is_number, is_there}
use Rattle.ba_tree.specs.Characters.{has_bare_ends, is_white}
use Rattle.ba_tree.specs.Names.{is_digit}

-- ---- digits

both : (a b : Bool) → a ≡ true → b ≡ true → (a && b) ≡ true
both true b p q = q
both false b p q = cc

is_digit_by : (c : ℕ) → digit_value c < 10 → is_digit c ≡ true
is_digit_by c h =
    let range = digit_at (c ∷ []) 0 (h, tt) (omega arith) in
    both (nat_le 0x30 c) (nat_le c 0x39) (le-leb 0x30 c range.0) (le-leb c 0x39 range.1)

all_digits : (ds : List ℕ) → AllDigits 10 ds → list_all is_digit ds ≡ true
all_digits [] h = refl
all_digits (c ∷ ds) h = both (is_digit c) (list_all is_digit ds) (is_digit_by c h.0) (all_digits ds h.1)

not_white : (c : ℕ) → 48 ≤ c → not (is_white c) ≡ true
not_white c h =
    λ i. not ((other 0x20 (omega arith) i || other 0x9 (omega arith) i) || (other 0xD (omega arith) i || other 0xA (omega arith) i))
  where
    other : (k : ℕ) → k < c → (c == k) ≡ false
    other k below = grind (arith, nat_tests)

bare_digits : (ds : List ℕ) → IsNumeral 10 ds → has_bare_ends ds ≡ true
bare_digits ds h =
    let begins = digit_at ds 0 h.1 h.0 in
    let some = h.0 in
    let ends = digit_at ds (length ds - 1) h.1 (omega arith) in
    both (not (is_white (slice_index ds 0))) (not (is_white (slice_index ds (length ds - 1)))) (not_white (slice_index ds 0) begins.0)
    (not_white (slice_index ds (length ds - 1)) ends.0)

there_is : (ds : List ℕ) → 0 < length ds → is_there ds ≡ true
there_is [] h = absurd (omega arith)
there_is (c ∷ ds) h = refl

-- ---- a number of 32 bits

module _ (n : ℕ) (small : n ≤ MOST_NUMBER) where
  numeral : IsNumeral 10 (decimal n) × (digits_value 10 (decimal n) ≡ n)
  numeral = decimal_is_IsNumeral n (omega arith)

  pub bare_number : has_bare_ends (decimal n) ≡ true
  bare_number = bare_digits (decimal n) numeral.0

  pub written_number : is_number (decimal n) ≡ true
  written_number =
      both (is_there (decimal n)) (list_all is_digit (decimal n) && nat_le (digits_value 10 (decimal n)) MOST_NUMBER) (there_is
      (decimal n) numeral.0.0)
      (both (list_all is_digit (decimal n)) (nat_le (digits_value 10 (decimal n)) MOST_NUMBER) (all_digits (decimal n) numeral.0.1)
      (ap (λ k. nat_le k MOST_NUMBER) numeral.1 ∙ le-leb n MOST_NUMBER small))

  pub read_number : digits_value 10 (decimal n) ≡ n
  read_number = numeral.1
