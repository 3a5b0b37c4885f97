-- Texts of visible ASCII that are short, and numbers as texts: for the laws on envelopes.
use Rattle.std.proofs.Common.{◌≡◌, ℕ, ◌+◌, ◌%◌, ◌^◌, ◌<◌, ◌≤◌, Bool, true, ◌&&◌, List, [], ◌∷◌, length, length-append}
use Rattle.std.proofs.Common.{nat_le, decimal, refl, arith}
use Rattle.std.proofs.lemmas.Bool.{leb-true}
use Rattle.std.proofs.lemmas.Bool.Decides.{nat_tests}
use Rattle.std.proofs.lemmas.Fmt.{decimal_by_steps}
use Rattle.std.specs.Cmp.{first_so, second_so}
use Rattle.ba_message.proofs.PlainTexts.{and_both, is_plain, is_visible, plain_append, plain_is_legal}
use Rattle.ba_wire_limits.proofs.SoundTrees.{IsSaid}

pub plain_is_said : (bs : List ℕ) → is_plain bs ≡ true → 1 ≤ length bs → IsSaid bs
plain_is_said bs h there = record { legal = plain_is_legal bs h; there = there }

-- ---- short texts that can be computed

abbrev pub is_brief : List ℕ → Bool
is_brief text = is_plain text && (nat_le 1 (length text) && nat_le (length text) 99)

module _ (text : List ℕ) (h : is_brief text ≡ true) where
  brief_plain : is_plain text ≡ true
  brief_plain = first_so (is_plain text) (nat_le 1 (length text) && nat_le (length text) 99) h

  lengths_hold : (nat_le 1 (length text) && nat_le (length text) 99) ≡ true
  lengths_hold = second_so (is_plain text) (nat_le 1 (length text) && nat_le (length text) 99) h

  brief_there : 1 ≤ length text
  brief_there = leb-true 1 (length text) (first_so (nat_le 1 (length text)) (nat_le (length text) 99) lengths_hold)

  pub brief_short : length text ≤ 99
  brief_short = leb-true (length text) 99 (second_so (nat_le 1 (length text)) (nat_le (length text) 99) lengths_hold)

  pub brief_said : IsSaid text
  brief_said = plain_is_said text brief_plain brief_there

-- ---- numbers

pub record IsNumberText (text : List ℕ) : Type 0 where
  pub plain : is_plain text ≡ true
  pub there : 1 ≤ length text

digit_visible : (n : ℕ) → n < 10 → is_visible (48 + n) ≡ true
digit_visible n h = grind (arith, nat_tests)

one_digit : (n : ℕ) → n < 10 → is_plain ((48 + n) ∷ []) ≡ true
one_digit n h = and_both (is_visible (48 + n)) true (digit_visible n h) refl

pub number_text : (n : ℕ) → n < 2 ^ 64 → IsNumberText (decimal n)
number_text n small =
    decimal_by_steps (λ m ds. IsNumberText ds) (λ m h. record { plain = one_digit m h; there = omega arith })
    (λ m ds h is. record {
      plain = plain_append ds ((48 + m % 10) ∷ []) is.plain (one_digit (m % 10) (omega arith));
      there = let both = length-append ds ((48 + m % 10) ∷ []) in omega arith;
    }) n small
