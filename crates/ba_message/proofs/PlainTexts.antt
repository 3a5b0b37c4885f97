-- Texts of visible ASCII are legal, and have no white space at their ends: for the law on own endpoints.
use Rattle.std.proofs.Common.{◌≡◌, ℕ, zero, suc, ◌-◌, ◌<◌, Bool, true, false, not, ◌&&◌, List, [], ◌∷◌, ◌++◌, length}
use Rattle.std.proofs.Common.{slice_index, refl, ap, ◌∙◌, arith}
use Rattle.std.proofs.lemmas.Bool.Decides.{nat_tests}
use Rattle.std.proofs.lemmas.List.Folds.{list_all-append}
use Rattle.std.proofs.lemmas.Str.{IsUtf8-from_ascii, chars-IsAscii, is_utf8-from_IsUtf8}
use Rattle.std.specs.Cmp.{first_so, second_so}
use Rattle.std.specs.List.{list_all}
use Rattle.std.specs.Str.{IsAscii, chars, is_utf8}
use Rattle.ba_tree.specs.Characters.{has_bare_ends, is_legal, is_legal_text, is_white, is_within}

abbrev pub is_visible : ℕ → Bool
is_visible b = is_within 0x21 0x7E b

abbrev pub is_plain : List ℕ → Bool
is_plain = list_all is_visible

pub and_both : (a b : Bool) → a ≡ true → b ≡ true → (a && b) ≡ true
and_both true b e f = f
and_both false b e f = cc

-- ---- legal

below : (b : ℕ) → is_visible b ≡ true → b < 128
below b h = grind (arith, nat_tests)

legal : (b : ℕ) → is_visible b ≡ true → is_legal b ≡ true
legal b h = grind (arith, nat_tests)

is_ascii : (bs : List ℕ) → is_plain bs ≡ true → IsAscii bs
is_ascii [] h i = omega arith
is_ascii (b ∷ bs) h zero = below b (first_so (is_visible b) (is_plain bs) h)
is_ascii (b ∷ bs) h (suc i) = is_ascii bs (second_so (is_visible b) (is_plain bs) h) i

pub all_pass : (p q : ℕ → Bool) → ((b : ℕ) → p b ≡ true → q b ≡ true) → (bs : List ℕ) → list_all p bs ≡ true
    → list_all q bs ≡ true
all_pass p q implies [] h = refl
all_pass p q implies (b ∷ bs) h =
    and_both (q b) (list_all q bs) (implies b (first_so (p b) (list_all p bs) h))
    (all_pass p q implies bs (second_so (p b) (list_all p bs) h))

pub plain_is_legal : (bs : List ℕ) → is_plain bs ≡ true → is_legal_text bs ≡ true
plain_is_legal bs h =
    let ascii = is_ascii bs h in
    and_both (is_utf8 bs) (list_all is_legal (chars bs)) (is_utf8-from_IsUtf8 bs (IsUtf8-from_ascii bs ascii))
    (ap (list_all is_legal) (chars-IsAscii bs ascii) ∙ all_pass is_visible is_legal legal bs h)

-- ---- bare

dark : (b : ℕ) → is_visible b ≡ true → is_white b ≡ false
dark b h = grind (arith, nat_tests)

no_white : (bs : List ℕ) → is_plain bs ≡ true → (i : ℕ) → is_white (slice_index bs i) ≡ false
no_white [] h i = refl
no_white (b ∷ bs) h zero = dark b (first_so (is_visible b) (is_plain bs) h)
no_white (b ∷ bs) h (suc i) = no_white bs (second_so (is_visible b) (is_plain bs) h) i

pub plain_is_bare : (bs : List ℕ) → is_plain bs ≡ true → has_bare_ends bs ≡ true
plain_is_bare bs h = λ i. not (no_white bs h 0 i) && not (no_white bs h (length bs - 1) i)

-- ---- put together

pub plain_append : (xs ys : List ℕ) → is_plain xs ≡ true → is_plain ys ≡ true → is_plain (xs ++ ys) ≡ true
plain_append xs ys h k = list_all-append is_visible xs ys ∙ and_both (is_plain xs) (is_plain ys) h k
