-- Texts of legal characters, byte by byte.
use Rattle.std.proofs.Common.{◌≡◌, ℕ, ◌≤◌, Bool, true, false, not, ◌||◌, ◌==◌, nat_lt, List, [], ◌∷◌, ◌++◌, length, encode_utf8_all, refl}
use Rattle.std.proofs.Common.{sym, subst, arith, true≢false}
use Rattle.std.proofs.lemmas.Bool.{ltb-true, ltb-false}
use Rattle.std.proofs.lemmas.Bool.Decides.{nat_tests}
use Rattle.std.proofs.lemmas.Str.{IsUtf8-from_is_utf8, encodes-chars}
use Rattle.std.specs.Char.{encode_utf8}
use Rattle.std.specs.List.{list_all}
use Rattle.std.specs.Str.{is_utf8, chars}
use Rattle.ba_tree.specs.Characters.{is_legal, is_legal_text}
use Rattle.ba_tree.specs.Trees as rules
use Rattle.ba_tree.specs.Trees.{is_fit_part}
use Rattle.ba_xml_reader.proofs.CompleteCharacters.{encoded_one, encoded_two, encoded_three, encoded_four}
use Rattle.ba_xml_grammar.specs.GrammarWords.{Each, Begun, is_character}
use Rattle.ba_xml.proofs.Fine.{IsLegal}
use Rattle.ba_xml.proofs.Conditions.{both}

pub legal_of : (bytes : List ℕ) → is_legal_text bytes ≡ true → IsLegal bytes
legal_of bytes h =
    let parts = both (is_utf8 bytes) (list_all is_legal (chars bytes)) h in
    (chars bytes, parts.1, sym (encodes-chars bytes (IsUtf8-from_is_utf8 bytes parts.0)))

begun : (t : List ℕ) → not (length t == 0) ≡ true → Begun t
begun [] h = absurd (true≢false (sym h))
begun (b ∷ bs) h = tt

pub fine_text : (t : List ℕ) → is_fit_part (rules.text t) ≡ true → Begun t × IsLegal t
fine_text t h =
    let parts = both (not (length t == 0)) (is_legal_text t) h in
    (begun t parts.0, legal_of t parts.1)

-- ---- the bytes of a character

-- every byte is above ASCII
abbrev pub IsHigh : List ℕ → Type 0
IsHigh [] = Unit {0}
IsHigh (b ∷ bs) = (128 ≤ b) × IsHigh bs

pub high_bytes : (c : ℕ) → 128 ≤ c → IsHigh (encode_utf8 c)
high_bytes c h = by (nat_lt c 0x800) (nat_lt c 0x10000) refl refl
  where
    by : (x y : Bool) → nat_lt c 0x800 ≡ x → nat_lt c 0x10000 ≡ y → IsHigh (encode_utf8 c)
    by true y p q = subst IsHigh (sym (encoded_two c h (ltb-true c 0x800 p))) (omega arith, (omega arith, tt))
    by false true p q = subst IsHigh (sym (encoded_three c (ltb-false c 0x800 p) (ltb-true c 0x10000 q))) (
      omega arith,
      (omega arith, (omega arith, tt)),
    )
    by false false p q = subst IsHigh (sym (encoded_four c (ltb-false c 0x10000 q))) (
      omega arith,
      (omega arith, (omega arith, (omega arith, tt))),
    )

-- a byte of a legal text: a carriage return, or what may stand in a text
abbrev pub is_text_byte : ℕ → Bool
is_text_byte b = is_character b || b == 13

one_byte : (c : ℕ) → is_legal c ≡ true → is_text_byte c ≡ true
one_byte c h = grind (arith, nat_tests)

high_byte : (b : ℕ) → 128 ≤ b → is_text_byte b ≡ true
high_byte b h = grind (arith, nat_tests)

pub each_append : (test : ℕ → Bool) (xs ys : List ℕ) → Each test xs → Each test ys → Each test (xs ++ ys)
each_append test [] ys e f = f
each_append test (x ∷ xs) ys e f = (e.0, each_append test xs ys e.1 f)

high_each : (bs : List ℕ) → IsHigh bs → Each is_text_byte bs
high_each [] h = tt
high_each (b ∷ bs) h = (high_byte b h.0, high_each bs h.1)

character_each : (c : ℕ) → is_legal c ≡ true → Each is_text_byte (encode_utf8 c)
character_each c h = by (nat_lt c 128) refl
  where
    by : (x : Bool) → nat_lt c 128 ≡ x → Each is_text_byte (encode_utf8 c)
    by true e = subst (Each is_text_byte) (sym (encoded_one c (ltb-true c 128 e))) (one_byte c h, tt)
    by false e = high_each (encode_utf8 c) (high_bytes c (ltb-false c 128 e))

all_each : (cs : List ℕ) → list_all is_legal cs ≡ true → Each is_text_byte (encode_utf8_all cs)
all_each [] h = tt
all_each (c ∷ cs) h =
    let parts = both (is_legal c) (list_all is_legal cs) h in
    each_append is_text_byte (encode_utf8 c) (encode_utf8_all cs) (character_each c parts.0) (all_each cs parts.1)

pub text_bytes : (bytes : List ℕ) → IsLegal bytes → Each is_text_byte bytes
text_bytes bytes h = subst (Each is_text_byte) (sym h.2) (all_each h.0 h.1)
