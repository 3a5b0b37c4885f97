-- The MessageID of a letter is plain and short, whatever its number: for the law on letters.
use Rattle.std.proofs.Common.{◌≡◌, ℕ, zero, suc, ◌/◌, ◌%◌, ◌<◌, Bool, true, false, ◌==◌, List, [], ◌∷◌, length}
use Rattle.std.proofs.Common.{length-append, if◌then◌else◌, slice_index, refl, arith}
use Rattle.std.proofs.lemmas.Bool.Decides.{nat_tests}
use Rattle.std.specs.Int.{to_be_bytes, w128}
use Rattle.uuid.specs.Text.{by_index, digit_place, hex_digit, hyphen, hyphenated_text, is_hyphen_place, lower, nibble, urn_prefix}
use Rattle.ba_wire.specs.Routes.{number_urn}
use Rattle.ba_message.proofs.PlainTexts.{and_both, is_plain, is_visible, plain_append}

index_length : (n : ℕ) (f : ℕ → ℕ) → length (by_index n f) ≡ n
unfolding by_index
index_length zero f = refl
index_length (suc n) f =
    let more = index_length n f in
    let both = length-append (by_index n f) (f n ∷ []) in
    omega arith

index_plain : (n : ℕ) (f : ℕ → ℕ) → ((k : ℕ) → is_visible (f k) ≡ true) → is_plain (by_index n f) ≡ true
unfolding by_index
index_plain zero f h = refl
index_plain (suc n) f h =
    plain_append (by_index n f) (f n ∷ []) (index_plain n f h) (and_both (is_visible (f n)) true (h n) refl)

digit_visible : (d : ℕ) → d < 16 → is_visible (hex_digit lower d) ≡ true
digit_visible d h = grind (arith, nat_tests)

nibble_small : (xs : List ℕ) (k : ℕ) → nibble xs k < 16
nibble_small xs k = by (k % 2 == 0)
  where
    by : (b : Bool) → (if b then slice_index xs (k / 2) / 16 % 16 else slice_index xs (k / 2) % 16) < 16
    by true = omega arith
    by false = omega arith

module _ (xs : List ℕ) where
  abbrev at : ℕ → ℕ
  at k = if is_hyphen_place k then hyphen else hex_digit lower (nibble xs (digit_place k))

  at_visible : (k : ℕ) → is_visible (at k) ≡ true
  at_visible k = by (is_hyphen_place k)
    where
      by : (b : Bool) → is_visible (if b then hyphen else hex_digit lower (nibble xs (digit_place k))) ≡ true
      by true = refl
      by false = digit_visible (nibble xs (digit_place k)) (nibble_small xs (digit_place k))

pub urn_plain : (n : ℕ) → is_plain (number_urn n) ≡ true
urn_plain n =
    plain_append urn_prefix (hyphenated_text lower (to_be_bytes w128 n)) refl
    (index_plain 36 (at (to_be_bytes w128 n)) (at_visible (to_be_bytes w128 n)))

pub urn_length : (n : ℕ) → length (number_urn n) ≡ 45
urn_length n =
    let digits = index_length 36 (at (to_be_bytes w128 n)) in
    let both = length-append urn_prefix (hyphenated_text lower (to_be_bytes w128 n)) in
    omega arith
