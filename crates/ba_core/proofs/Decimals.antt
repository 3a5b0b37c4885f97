-- Decimal numbers and the digits that write them.
use Rattle.std.proofs.Common.{◌≡◌, ◌≢◌, ℕ, ◌<◌, ◌^◌, List, [], ◌∷◌, suc, zero, get_or, Result, Ok, Err, MatchResult, IsUtf8, sym, ap, ◌∙◌}
use Rattle.std.proofs.Common.{subst, arith}
use Rattle.std.specs.Fmt.{decimal}
use Rattle.std.specs.Str.Parse.{ParsesUnsigned, AllDigits, digits_value}
use Rattle.std.proofs.lemmas.Str.{IsUtf8-from_ascii}
use Rattle.std.proofs.lemmas.Str.Parse.{IsNumeralModel, numerals_by_value, tells_digits, parse_plain}
use Rattle.std.proofs.lemmas.Fmt.{decimal-digits_value, parse-decimal, IsAscii-decimal, first_decimal, decimal_digit}

own : IsNumeralModel (AllDigits 10) (digits_value 10)
own = numerals_by_value (AllDigits 10) tells_digits

-- what `parse` says of bytes that begin with no sign and no zero
pub parsed_digits : {E : Type 0} (bs : List ℕ) (r : Result ℕ E) → ParsesUnsigned 64 10 bs r → 48 < get_or bs 0 0
    → MatchResult r (λ n. (bs ≡ decimal n) × (n < 2 ^ 64)) (λ _. (n : ℕ) → n < 2 ^ 64 → bs ≢ decimal n)
parsed_digits {E} bs (Ok n) h first =
    let plain = parse_plain own {E = E} 64 bs (Ok n) h (λ e. absurd (omega arith)) in
    let same : digits_value 10 bs ≡ n = sym plain.1 in
    let fits : digits_value 10 bs < 2 ^ 64 = plain.0.2 in
    (sym (decimal-digits_value own bs plain.0.0 plain.0.1 (λ e. absurd (omega arith)) fits) ∙ ap decimal same, omega arith)
parsed_digits {E} bs (Err e) h first = λ n small same. absurd (cc (parse-decimal {E = E} 64 n bs (Err e) small small same h))

-- bytes that aren't text are no number's digits
pub digits_are_text : (bs : List ℕ) → (IsUtf8 bs → ⊥) → (n : ℕ) → n < 2 ^ 64 → bs ≢ decimal n
digits_are_text bs no_text n small same = no_text (subst IsUtf8 (sym same) (IsUtf8-from_ascii (decimal n) (IsAscii-decimal n small)))

-- the digits of a number above 0 begin with none below 1, and those of 0 are one
pub digits_begin : (bs : List ℕ) → bs ≢ 48 ∷ [] → get_or bs 0 0 < 49 → (n : ℕ) → n < 2 ^ 64 → bs ≢ decimal n
digits_begin bs other low zero small same = other (same ∙ decimal_digit 0 (omega arith))
digits_begin bs other low (suc n) small same =
    let first = first_decimal (suc n) (omega arith) small in
    let begins : get_or bs 0 0 ≡ get_or (decimal (suc n)) 0 0 = ap (λ xs. get_or xs 0 0) same in absurd (omega arith)

pub digits_of_zero : (bs : List ℕ) → bs ≡ 48 ∷ [] → bs ≡ decimal 0
digits_of_zero bs same = same ∙ sym (decimal_digit 0 (omega arith))
