-- A legal text without the white space at its ends is legal, and so are legal texts one after another: for the law on what
-- was read.
use Rattle.std.proofs.Common.{◌≡◌, ℕ, ◌+◌, ◌/◌, ◌%◌, ◌≤◌, Bool, true, false, ◌&&◌, List, [], ◌∷◌, ◌++◌, cond, nat_lt}
use Rattle.std.proofs.Common.{if◌then◌else◌, refl, sym, ap, ◌∙◌, arith}
use Rattle.std.proofs.lemmas.Bool.{ltb-true, ltb-false}
use Rattle.std.proofs.lemmas.Bool.Decides.{nat_tests}
use Rattle.std.proofs.lemmas.List.Folds.{list_all-append}
use Rattle.std.proofs.lemmas.Str.{IsUtf8-from_is_utf8, chars-encodes, encode_ascii, encodes-append, encodes-chars, is_utf8-from_IsUtf8}
use Rattle.std.specs.Cmp.{first_so, second_so}
use Rattle.std.specs.List.{list_all}
use Rattle.std.specs.Str.{chars, is_utf8}
use Rattle.ba_message.proofs.PlainTexts.{and_both}
use Rattle.ba_soap_shapes.specs.Elements.{trim, trim_end, trim_start}
use Rattle.ba_tree.specs.Characters.{is_legal, is_legal_text, is_white}
use lib.Utf8.{encode, encodes, scalar, scalars}

-- ---- texts as lists of characters

-- the bytes are those of legal characters
pub record IsSpelled (bytes : List ℕ) : Type 0 where
  pub characters : List ℕ
  pub legal : list_all is_legal characters ≡ true
  pub spelled : bytes ≡ encodes characters

legal_scalar : (c : ℕ) → is_legal c ≡ true → scalar c ≡ true
legal_scalar c h = grind (arith, nat_tests)

legal_scalars : (cs : List ℕ) → list_all is_legal cs ≡ true → scalars cs ≡ true
legal_scalars [] h = refl
legal_scalars (c ∷ cs) h =
    and_both (scalar c) (scalars cs) (legal_scalar c (first_so (is_legal c) (list_all is_legal cs) h))
    (legal_scalars cs (second_so (is_legal c) (list_all is_legal cs) h))

spelled_is_legal : (bytes : List ℕ) → IsSpelled bytes → is_legal_text bytes ≡ true
spelled_is_legal bytes is =
    let proper = legal_scalars is.characters is.legal in
    let all =
    and_both (is_utf8 (encodes is.characters)) (list_all is_legal (chars (encodes is.characters)))
    (is_utf8-from_IsUtf8 (encodes is.characters) (is.characters, (proper, refl)))
    (ap (list_all is_legal) (chars-encodes is.characters proper) ∙ is.legal) in
    ap is_legal_text is.spelled ∙ all

pub legal_is_spelled : (bytes : List ℕ) → is_legal_text bytes ≡ true → IsSpelled bytes
legal_is_spelled bytes h = record {
  characters = chars bytes;
  legal = second_so (is_utf8 bytes) (list_all is_legal (chars bytes)) h;
  spelled = sym (encodes-chars bytes (IsUtf8-from_is_utf8 bytes (first_so (is_utf8 bytes) (list_all is_legal (chars bytes)) h)));
}

-- ---- one after another

pub legal_append : (xs ys : List ℕ) → is_legal_text xs ≡ true → is_legal_text ys ≡ true → is_legal_text (xs ++ ys) ≡ true
legal_append xs ys h k =
    let a = legal_is_spelled xs h in
    let b = legal_is_spelled ys k in
    spelled_is_legal (xs ++ ys) (record {
      characters = a.characters ++ b.characters;
      legal = list_all-append is_legal a.characters b.characters
          ∙ and_both (list_all is_legal a.characters) (list_all is_legal b.characters) a.legal b.legal;
      spelled = (λ i. a.spelled i ++ b.spelled i) ∙ sym (encodes-append a.characters b.characters);
    })

-- ---- bytes of characters past ASCII

abbrev AreHigh : List ℕ → Type 0
AreHigh [] = Unit {0}
AreHigh (b ∷ bs) = (128 ≤ b) × AreHigh bs

-- there is a first byte, and all are high
abbrev IsHigh : List ℕ → Type 0
IsHigh [] = ⊥
IsHigh (b ∷ bs) = (128 ≤ b) × AreHigh bs

-- the bytes of a character by how many there are
abbrev two_bytes : ℕ → List ℕ
two_bytes c = (192 + c / 64) ∷ (128 + c % 64) ∷ []

abbrev three_bytes : ℕ → List ℕ
three_bytes c = (224 + c / 4096) ∷ (128 + c / 64 % 64) ∷ (128 + c % 64) ∷ []

abbrev four_bytes : ℕ → List ℕ
four_bytes c = (240 + c / 262144) ∷ (128 + c / 4096 % 64) ∷ (128 + c / 64 % 64) ∷ (128 + c % 64) ∷ []

high : (c : ℕ) → 128 ≤ c → IsHigh (encode c)
unfolding encode
high c h = by (nat_lt c 128) (nat_lt c 2048) (nat_lt c 65536) refl
  where
    by : (x y z : Bool) → nat_lt c 128 ≡ x
        → IsHigh (cond x (c ∷ []) (cond y (two_bytes c) (cond z (three_bytes c) (four_bytes c))))
    by true y z e = let less = ltb-true c 128 e in absurd (omega arith)
    by false true z e = (omega arith, (omega arith, tt))
    by false false true e = (omega arith, (omega arith, (omega arith, tt)))
    by false false false e = (omega arith, (omega arith, (omega arith, (omega arith, tt))))

high_is_dark : (b : ℕ) → 128 ≤ b → is_white b ≡ false
high_is_dark b h = grind (arith, nat_tests)

start_at_high : (hs rest : List ℕ) → IsHigh hs → trim_start (hs ++ rest) ≡ hs ++ rest
start_at_high [] rest h = absurd h
start_at_high (b ∷ bs) rest h = ap (λ x. if x then trim_start (bs ++ rest) else b ∷ (bs ++ rest)) (high_is_dark b h.0)

end_after_high : (hs rest : List ℕ) → AreHigh hs → trim_end (hs ++ rest) ≡ hs ++ trim_end rest
end_after_high [] rest h = refl
end_after_high (b ∷ bs) rest h =
    ap (λ x. if x && list_all is_white (bs ++ rest) then [] else b ∷ trim_end (bs ++ rest)) (high_is_dark b h.0)
    ∙ ap (λ l. b ∷ l) (end_after_high bs rest h.1)

are_high : (hs : List ℕ) → IsHigh hs → AreHigh hs
are_high [] h = tt
are_high (b ∷ bs) h = h

-- ---- without white space

start_spelled : (cs : List ℕ) → list_all is_legal cs ≡ true → IsSpelled (trim_start (encodes cs))
start_spelled [] h = record { characters = []; legal = refl; spelled = refl }
start_spelled (c ∷ cs) h = by (nat_lt c 128) (is_white c) refl refl (start_spelled cs)
  where
    by : (x y : Bool) → nat_lt c 128 ≡ x → is_white c ≡ y → (list_all is_legal cs ≡ true → IsSpelled (trim_start (encodes cs)))
        → IsSpelled (trim_start (encodes (c ∷ cs)))
    by true true e w again =
        let is = again (second_so (is_legal c) (list_all is_legal cs) h) in
        record {
          characters = is.characters;
          legal = is.legal;
          spelled = ap (λ l. trim_start (l ++ encodes cs)) (encode_ascii c (ltb-true c 128 e))
              ∙ ap (λ x. if x then trim_start (encodes cs) else c ∷ encodes cs) w ∙ is.spelled;
        }
    by true false e w again = record {
      characters = c ∷ cs;
      legal = h;
      spelled = ap (λ l. trim_start (l ++ encodes cs)) (encode_ascii c (ltb-true c 128 e))
          ∙ ap (λ x. if x then trim_start (encodes cs) else c ∷ encodes cs) w
          ∙ sym (ap (λ l. l ++ encodes cs) (encode_ascii c (ltb-true c 128 e)));
    }
    by false y e w again = record {
      characters = c ∷ cs;
      legal = h;
      spelled = start_at_high (encode c) (encodes cs) (high c (ltb-false c 128 e));
    }

end_spelled : (cs : List ℕ) → list_all is_legal cs ≡ true → IsSpelled (trim_end (encodes cs))
end_spelled [] h = record { characters = []; legal = refl; spelled = refl }
end_spelled (c ∷ cs) h =
    by (nat_lt c 128) (list_all is_white (c ∷ encodes cs)) refl refl
    (end_spelled cs (second_so (is_legal c) (list_all is_legal cs) h))
  where
    one : is_legal c ≡ true
    one = first_so (is_legal c) (list_all is_legal cs) h

    by : (x y : Bool) → nat_lt c 128 ≡ x → list_all is_white (c ∷ encodes cs) ≡ y → IsSpelled (trim_end (encodes cs))
        → IsSpelled (trim_end (encodes (c ∷ cs)))
    by true true e w is = record {
      characters = [];
      legal = refl;
      spelled = ap (λ l. trim_end (l ++ encodes cs)) (encode_ascii c (ltb-true c 128 e))
          ∙ ap (λ x. if x then [] else c ∷ trim_end (encodes cs)) w;
    }
    by true false e w is = record {
      characters = c ∷ is.characters;
      legal = and_both (is_legal c) (list_all is_legal is.characters) one is.legal;
      spelled = ap (λ l. trim_end (l ++ encodes cs)) (encode_ascii c (ltb-true c 128 e))
          ∙ ap (λ x. if x then [] else c ∷ trim_end (encodes cs)) w ∙ ap (λ l. c ∷ l) is.spelled
          ∙ sym (ap (λ l. l ++ encodes is.characters) (encode_ascii c (ltb-true c 128 e)));
    }
    by false y e w is = record {
      characters = c ∷ is.characters;
      legal = and_both (is_legal c) (list_all is_legal is.characters) one is.legal;
      spelled = end_after_high (encode c) (encodes cs) (are_high (encode c) (high c (ltb-false c 128 e)))
          ∙ ap (λ l. encode c ++ l) is.spelled;
    }

pub trim_is_legal : (bytes : List ℕ) → is_legal_text bytes ≡ true → is_legal_text (trim bytes) ≡ true
trim_is_legal bytes h =
    let is = legal_is_spelled bytes h in
    let first = start_spelled is.characters is.legal in
    let both = end_spelled first.characters first.legal in
    ap (λ b. is_legal_text (trim b)) is.spelled ∙ ap (λ b. is_legal_text (trim_end b)) first.spelled
    ∙ spelled_is_legal (trim_end (encodes first.characters)) both
