-- The hyphenated text of an identifier may stand in the path of an address; for laws on the endpoints of a node's objects.
use Rattle.std.proofs.Common.{◌≡◌, ℕ, suc, zero, ◌<◌, Bool, true, false, ◌&&◌, List, [], ◌∷◌, ◌++◌, refl, ◌∙◌, arith, if◌then◌else◌}
use Rattle.std.specs.Int.{to_be_bytes, w128}
use Rattle.std.specs.List.{list_all}
use Rattle.std.proofs.lemmas.Bool.Decides.{nat_tests}
use Rattle.std.proofs.lemmas.List.Folds.{list_all-append}
use Rattle.ba_message.specs.Addresses.{is_path_byte}
use Rattle.ba_node_steps.specs.Addresses.{hyphenated}
use Rattle.uuid.proofs.TextLemmas.{nibble_small}
use Rattle.uuid.specs.Text.{by_index, digit_place, hex_digit, hyphen, is_hyphen_place, lower, nibble}

both_pass : (a b : Bool) → a ≡ true → b ≡ true → (a && b) ≡ true
both_pass true true h k = refl
both_pass true false h k = k
both_pass false b h k = h

pub joined_passes : (xs ys : List ℕ) → list_all is_path_byte xs ≡ true → list_all is_path_byte ys ≡ true
    → list_all is_path_byte (xs ++ ys) ≡ true
joined_passes xs ys h k =
    list_all-append is_path_byte xs ys ∙ both_pass (list_all is_path_byte xs) (list_all is_path_byte ys) h k

places_pass : (count : ℕ) (byte : ℕ → ℕ) → ((k : ℕ) → is_path_byte (byte k) ≡ true) → list_all is_path_byte (by_index count byte) ≡ true
unfolding by_index
places_pass zero byte h = refl
places_pass (suc count) byte h =
    joined_passes (by_index count byte) (byte count ∷ []) (places_pass count byte h) (both_pass (is_path_byte (byte count)) true (h count) refl)

digit_passes : (d : ℕ) → d < 16 → is_path_byte (hex_digit lower d) ≡ true
digit_passes d small = grind (arith, nat_tests)

byte_passes : (hyphens : Bool) (d : ℕ) → d < 16 → is_path_byte (if hyphens then hyphen else hex_digit lower d) ≡ true
byte_passes true d small = refl
byte_passes false d small = digit_passes d small

pub text_passes : (n : ℕ) → list_all is_path_byte (hyphenated n) ≡ true
unfolding hyphenated
text_passes n =
    let digit : ℕ → ℕ = λ k. nibble (to_be_bytes w128 n) (digit_place k) in
    places_pass 36 (λ k. if is_hyphen_place k then hyphen else hex_digit lower (digit k))
    (λ k. byte_passes (is_hyphen_place k) (digit k) (nibble_small (to_be_bytes w128 n) (digit_place k)))
