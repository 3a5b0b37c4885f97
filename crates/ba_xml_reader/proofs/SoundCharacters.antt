-- UTF-8 backward: bytes that the machine passes are those of legal characters.
use Rattle.std.proofs.Common.{◌≡◌, ℕ, ◌+◌, ◌-◌, ◌*◌, ◌/◌, ◌%◌, ◌<◌, ◌≤◌, ◌==◌, nat_lt, Bool, true, false, cond, ◌⊎◌, inl, inr, List, []}
use Rattle.std.proofs.Common.{◌∷◌, ◌++◌, refl, sym, ap, ap₂, ◌∙◌, subst, arith}
use Rattle.std.proofs.lemmas.Bool.{ltb-true, ltb-false, eqb-true, eqb-false, and_from}
use Rattle.std.specs.Char.{encode_utf8}
use Rattle.std.specs.List.{list_all}
use Rattle.ba_tree.specs.Characters.{is_legal}
use Rattle.ba_xml_reader.proofs.CompleteCharacters.{octets, encoded_one, encoded_two, encoded_three, encoded_four}
use Rattle.ba_xml_reader.proofs.SoundLegal as legal
use Rattle.ba_xml_grammar.specs.GrammarTexts.{IsOfCharacters}
use Rattle.ba_xml_words.specs.inside.Octets.{octet_after, lead, followed, third_last, last, lead_of_three, lead_of_four}
use Rattle.ba_xml_words.specs.declared.faults.Reason.{Reason}
use Rattle.ba_xml_words.specs.declared.faults.Reason.TheVariants.{NotUtf8, Syntax}
use Rattle.ba_xml_words.specs.declared.octets.Octet.{Octet}
use Rattle.ba_xml_words.specs.declared.octets.Octet.TheVariants.{Between, One, Two, Three, AfterE0, AfterED, AfterEF, AfterEFBF, AfterF0}
use Rattle.ba_xml_words.specs.declared.octets.Octet.TheVariants.{AfterF4}
use Rattle.ba_xml_words.specs.declared.octets.Decoding.TheVariants.{At, Broken}

-- ---- one character and those behind it

with_one : (c : ℕ) (bytes rest : List ℕ) → is_legal c ≡ true → encode_utf8 c ≡ bytes → IsOfCharacters rest → IsOfCharacters (bytes ++ rest)
with_one c bytes rest l e r = (c ∷ r.0, and_from (is_legal c) (list_all is_legal r.0) l r.1, ap₂ (λ x y. x ++ y) (sym e) r.2)

one : (b : ℕ) (rest : List ℕ) → b < 0x80 → is_legal b ≡ true → IsOfCharacters rest → IsOfCharacters (b ∷ rest)
one b rest h l r = with_one b (b ∷ []) rest l (encoded_one b h) r

two_parts : (h l c : ℕ) → 2 ≤ h → h < 32 → l < 64 → c ≡ h * 64 + l → (is_legal c ≡ true) × (encode_utf8 c ≡ (192 + h) ∷ (128 + l) ∷ [])
two_parts h l c low high small is = (
  legal.first c (omega (arith, is)) (omega (arith, is)),
  encoded_two c (omega (arith, is)) (omega (arith, is)) ∙ ap₂ (λ x y. (192 + x) ∷ (128 + y) ∷ []) upper lower,
)
  where
    upper : c / 64 ≡ h
    upper = omega (arith, is, small)

    lower : c % 64 ≡ l
    lower = omega (arith, is, small)

two : (b x : ℕ) (rest : List ℕ) → 0xC2 ≤ b → b < 0xE0 → 0x80 ≤ x → x ≤ 0xBF → IsOfCharacters rest → IsOfCharacters (b ∷ x ∷ rest)
two b x rest bl bh xl xh r =
    let p = two_parts (b - 192) (x - 128) ((b - 192) * 64 + (x - 128)) (omega (arith, bl)) (omega (arith, bh))
    (omega (arith, xl, xh)) refl in
    with_one ((b - 192) * 64 + (x - 128)) (b ∷ x ∷ []) rest p.0 (p.1 ∙ ap₂ (λ y z. y ∷ z ∷ []) first second) r
  where
    first : 192 + (b - 192) ≡ b
    first = omega (arith, bl)

    second : 128 + (x - 128) ≡ x
    second = omega (arith, xl)

-- the ranges of characters of three bytes
abbrev IsThree : ℕ → Type 0
IsThree c = (0x800 ≤ c) × (c < 0x10000) × ((c < 0xD800) ⊎ ((0xE000 ≤ c) × (c ≤ 0xFFFD)))

legal_three : (c : ℕ) → 0x800 ≤ c → (c < 0xD800) ⊎ ((0xE000 ≤ c) × (c ≤ 0xFFFD)) → is_legal c ≡ true
legal_three c l (inl h) = legal.first c (omega (arith, l)) (omega (arith, h))
legal_three c l (inr h) = legal.second c h.0 h.1

three_parts : (h m l c : ℕ) → m < 64 → l < 64 → c ≡ h * 4096 + m * 64 + l → 0x800 ≤ c → c < 0x10000
    → encode_utf8 c ≡ (224 + h) ∷ (128 + m) ∷ (128 + l) ∷ []
three_parts h m l c middle small is low high =
    encoded_three c low high ∙ ap₂ (λ x (y : List ℕ). (224 + x) ∷ y) upper (ap₂ (λ x y. (128 + x) ∷ (128 + y) ∷ []) mid lower)
  where
    upper : c / 4096 ≡ h
    upper = omega (arith, is, middle, small)

    mid : (c / 64) % 64 ≡ m
    mid = omega (arith, is, middle, small)

    lower : c % 64 ≡ l
    lower = omega (arith, is, middle, small)

three_of : ℕ → ℕ → ℕ → ℕ
three_of b x y = (b - 224) * 4096 + (x - 128) * 64 + (y - 128)

three : (b x y : ℕ) (rest : List ℕ) → 0xE0 ≤ b → 0x80 ≤ x → x ≤ 0xBF → 0x80 ≤ y → y ≤ 0xBF → IsThree (three_of b x y) → IsOfCharacters rest
    → IsOfCharacters (b ∷ x ∷ y ∷ rest)
unfolding three_of
three b x y rest bl xl xh yl yh t r =
    with_one (three_of b x y) (b ∷ x ∷ y ∷ []) rest (legal_three (three_of b x y) t.0 t.2)
    (three_parts (b - 224) (x - 128) (y - 128) (three_of b x y) (omega (arith, xl, xh)) (omega (arith, yl, yh)) refl t.0 t.1
    ∙ ap₂ (λ p (q : List ℕ). p ∷ q) first (ap₂ (λ p q. p ∷ q ∷ []) second third)) r
  where
    first : 224 + (b - 224) ≡ b
    first = omega (arith, bl)

    second : 128 + (x - 128) ≡ x
    second = omega (arith, xl)

    third : 128 + (y - 128) ≡ y
    third = omega (arith, yl)

four_parts : (h m n l c : ℕ) → m < 64 → n < 64 → l < 64 → c ≡ h * 262144 + m * 4096 + n * 64 + l → 0x10000 ≤ c
    → encode_utf8 c ≡ (240 + h) ∷ (128 + m) ∷ (128 + n) ∷ (128 + l) ∷ []
four_parts h m n l c middle next small is low =
    encoded_four c low ∙ ap₂ (λ x (y : List ℕ). (240 + x) ∷ y) upper
    (ap₂ (λ x (y : List ℕ). (128 + x) ∷ y) mid (ap₂ (λ x y. (128 + x) ∷ (128 + y) ∷ []) after lower))
  where
    upper : c / 262144 ≡ h
    upper = omega (arith, is, middle, next, small)

    mid : (c / 4096) % 64 ≡ m
    mid = omega (arith, is, middle, next, small)

    after : (c / 64) % 64 ≡ n
    after = omega (arith, is, next, small)

    lower : c % 64 ≡ l
    lower = omega (arith, is, small)

four_of : ℕ → ℕ → ℕ → ℕ → ℕ
four_of b x y z = (b - 240) * 262144 + (x - 128) * 4096 + (y - 128) * 64 + (z - 128)

four : (b x y z : ℕ) (rest : List ℕ) → 0xF0 ≤ b → 0x80 ≤ x → x ≤ 0xBF → 0x80 ≤ y → y ≤ 0xBF → 0x80 ≤ z → z ≤ 0xBF
    → 0x10000 ≤ four_of b x y z → four_of b x y z ≤ 0x10FFFF
    → IsOfCharacters rest → IsOfCharacters (b ∷ x ∷ y ∷ z ∷ rest)
unfolding four_of
four b x y z rest bl xl xh yl yh zl zh low high r =
    with_one (four_of b x y z) (b ∷ x ∷ y ∷ z ∷ []) rest (legal.third (four_of b x y z) low high)
    (four_parts (b - 240) (x - 128) (y - 128) (z - 128) (four_of b x y z) (omega (arith, xl, xh)) (omega (arith, yl, yh))
    (omega (arith, zl, zh)) refl low
    ∙ ap₂ (λ p (q : List ℕ). p ∷ q) first (ap₂ (λ p (q : List ℕ). p ∷ q) second (ap₂ (λ p q. p ∷ q ∷ []) third fourth))) r
  where
    first : 240 + (b - 240) ≡ b
    first = omega (arith, bl)

    second : 128 + (x - 128) ≡ x
    second = omega (arith, xl)

    third : 128 + (y - 128) ≡ y
    third = omega (arith, yl)

    fourth : 128 + (z - 128) ≡ z
    fourth = omega (arith, zl)

-- ---- what the bytes behind a part of a character are

-- a byte within these bounds, and what is behind it
abbrev Next : ℕ → ℕ → (List ℕ → Type 0) → List ℕ → Type 0
Next least most Rest bytes = (b : ℕ) × (rest : List ℕ) × (bytes ≡ b ∷ rest) × (least ≤ b) × (b ≤ most) × Rest rest

-- one byte of 80 to BF or more of them, and then characters
abbrev Ends : List ℕ → Type 0
Ends bytes = Next 0x80 0xBF IsOfCharacters bytes

abbrev EndsInTwo : List ℕ → Type 0
EndsInTwo bytes = Next 0x80 0xBF Ends bytes

abbrev Trails : Octet → List ℕ → Type 0
Trails Between bytes = IsOfCharacters bytes
Trails One bytes = Ends bytes
Trails Two bytes = EndsInTwo bytes
Trails Three bytes = Next 0x80 0xBF EndsInTwo bytes
Trails AfterE0 bytes = Next 0xA0 0xBF Ends bytes
Trails AfterED bytes = Next 0x80 0x9F Ends bytes
Trails AfterEF bytes = Next 0x80 0xBE Ends bytes ⊎ Next 0xBF 0xBF (λ more. Next 0x80 0xBD IsOfCharacters more) bytes
Trails AfterEFBF bytes = Next 0x80 0xBD IsOfCharacters bytes
Trails AfterF0 bytes = Next 0x90 0xBF EndsInTwo bytes
Trails AfterF4 bytes = Next 0x80 0x8F EndsInTwo bytes

pub broken : (r : Reason) (bs : List ℕ) (o : Octet) → octets (Broken r) bs ≡ At o → ⊥
broken r [] o e = cc
broken r (b ∷ bs) o e = cc

within : (b least most : ℕ) (o : Octet) (bs : List ℕ) → octets (followed b least most o) bs ≡ At Between
    → (least ≤ b) × (b ≤ most) × (octets (At o) bs ≡ At Between)
within b least most o bs e = by (nat_lt b least) (nat_lt most b) refl refl e
  where
    by : (x y : Bool) → nat_lt b least ≡ x → nat_lt most b ≡ y
        → octets (cond x (Broken NotUtf8) (cond y (Broken NotUtf8) (At o))) bs ≡ At Between
        → (least ≤ b) × (b ≤ most) × (octets (At o) bs ≡ At Between)
    by true y p q e = absurd (broken NotUtf8 bs Between e)
    by false true p q e = absurd (broken NotUtf8 bs Between e)
    by false false p q e = (ltb-false b least p, ltb-false most b q, e)

-- what holds of the bytes behind, from each octet on
abbrev Follows : List ℕ → Type 0
Follows bs = (p : Octet) → octets (At p) bs ≡ At Between → Trails p bs

-- ---- whole characters

from_two : (b : ℕ) (bs : List ℕ) → 0xC2 ≤ b → b < 0xE0 → Ends bs → IsOfCharacters (b ∷ bs)
from_two b bs l h t = subst (λ x. IsOfCharacters (b ∷ x)) (sym t.2) (two b t.0 t.1 l h t.3 t.4 t.5)

from_three : (b least most : ℕ) (bs : List ℕ) → 0xE0 ≤ b → 0x80 ≤ least → most ≤ 0xBF
    → ((x y : ℕ) → least ≤ x → x ≤ most → 0x80 ≤ y → y ≤ 0xBF → IsThree (three_of b x y)) → Next least most Ends bs
    → IsOfCharacters (b ∷ bs)
from_three b least most bs bl low high is t =
    subst (λ x. IsOfCharacters (b ∷ x)) (sym (t.2 ∙ ap (λ x. t.0 ∷ x) t.5.2))
    (three b t.0 t.5.0 t.5.1 bl (lower t.0 t.3) (upper t.0 t.4) t.5.3 t.5.4 (is t.0 t.5.0 t.3 t.4 t.5.3 t.5.4) t.5.5)
  where
    lower : (x : ℕ) → least ≤ x → 0x80 ≤ x
    lower x l = omega (arith, low, l)

    upper : (x : ℕ) → x ≤ most → x ≤ 0xBF
    upper x h = omega (arith, high, h)

from_four : (b least most : ℕ) (bs : List ℕ) → 0xF0 ≤ b → 0x80 ≤ least → most ≤ 0xBF
    → ((x y z : ℕ) → least ≤ x → x ≤ most → y ≤ 0xBF → z ≤ 0xBF → (0x10000 ≤ four_of b x y z) × (four_of b x y z ≤ 0x10FFFF))
    → Next least most EndsInTwo bs → IsOfCharacters (b ∷ bs)
from_four b least most bs bl low high is t =
    let i = is t.0 t.5.0 t.5.5.0 t.3 t.4 t.5.4 t.5.5.4 in
    subst (λ x. IsOfCharacters (b ∷ x)) (sym (t.2 ∙ ap (λ x. t.0 ∷ x) (t.5.2 ∙ ap (λ x. t.5.0 ∷ x) t.5.5.2)))
    (four b t.0 t.5.0 t.5.5.0 t.5.5.1 bl (lower t.0 t.3) (upper t.0 t.4) t.5.3 t.5.4 t.5.5.3 t.5.5.4 i.0 i.1 t.5.5.5)
  where
    lower : (x : ℕ) → least ≤ x → 0x80 ≤ x
    lower x l = omega (arith, low, l)

    upper : (x : ℕ) → x ≤ most → x ≤ 0xBF
    upper x h = omega (arith, high, h)

from_E0 : (bs : List ℕ) → Next 0xA0 0xBF Ends bs → IsOfCharacters (0xE0 ∷ bs)
unfolding three_of
from_E0 bs t = from_three 0xE0 0xA0 0xBF bs (omega arith) (omega arith) (omega arith)
    (λ x y xl xh yl yh. (omega (arith, xl), omega (arith, xh, yh), inl (omega (arith, xh, yh)))) t

from_ED : (bs : List ℕ) → Next 0x80 0x9F Ends bs → IsOfCharacters (0xED ∷ bs)
unfolding three_of
from_ED bs t = from_three 0xED 0x80 0x9F bs (omega arith) (omega arith) (omega arith)
    (λ x y xl xh yl yh. (omega arith, omega (arith, xh, yh), inl (omega (arith, xh, yh)))) t

from_EF : (bs : List ℕ) → Trails AfterEF bs → IsOfCharacters (0xEF ∷ bs)
unfolding three_of
from_EF bs (inl t) = from_three 0xEF 0x80 0xBE bs (omega arith) (omega arith) (omega arith)
    (λ x y xl xh yl yh. (omega arith, omega (arith, xh, yh), inr (omega arith, omega (arith, xh, yh)))) t
from_EF bs (inr t) =
    subst (λ x. IsOfCharacters (0xEF ∷ x)) (sym (t.2 ∙ ap (λ x. t.0 ∷ x) t.5.2))
    (three 0xEF t.0 t.5.0 t.5.1 (omega arith) (lower t.0 t.3) t.4 t.5.3 (upper t.5.0 t.5.4) (is t.0 t.5.0 t.3 t.4 t.5.3 t.5.4) t.5.5)
  where
    lower : (x : ℕ) → 0xBF ≤ x → 0x80 ≤ x
    lower x l = omega (arith, l)

    upper : (x : ℕ) → x ≤ 0xBD → x ≤ 0xBF
    upper x h = omega (arith, h)

    is : (x y : ℕ) → 0xBF ≤ x → x ≤ 0xBF → 0x80 ≤ y → y ≤ 0xBD → IsThree (three_of 0xEF x y)
    is x y xl xh yl yh = (omega (arith, xl), omega (arith, xh, yh), inr (omega (arith, xl), omega (arith, xh, yh)))

from_plain : (b : ℕ) (bs : List ℕ) → 0xE0 ≤ b → b < 0xF0 → (b ≡ 0xE0 → ⊥) → (b ≡ 0xED → ⊥) → (b ≡ 0xEF → ⊥) → EndsInTwo bs
    → IsOfCharacters (b ∷ bs)
unfolding three_of
from_plain b bs l h e d f t = from_three b 0x80 0xBF bs l (omega arith) (omega arith)
    (λ x y xl xh yl yh. is x y xl xh yl yh (nat_lt b 0xED) refl) t
  where
    is : (x y : ℕ) → 0x80 ≤ x → x ≤ 0xBF → 0x80 ≤ y → y ≤ 0xBF → (q : Bool) → nat_lt b 0xED ≡ q → IsThree (three_of b x y)
    is x y xl xh yl yh true q = low (ltb-true b 0xED q)
      where
        low : b < 0xED → IsThree (three_of b x y)
        low k = (omega (arith, l, e), omega (arith, k, xh, yh), inl (omega (arith, k, xh, yh)))
    is x y xl xh yl yh false q = high (ltb-false b 0xED q)
      where
        high : 0xED ≤ b → IsThree (three_of b x y)
        high k = (omega (arith, k), omega (arith, h, xh, yh), inr (omega (arith, k, d), omega (arith, h, f, xh, yh)))

from_F0 : (bs : List ℕ) → Next 0x90 0xBF EndsInTwo bs → IsOfCharacters (0xF0 ∷ bs)
unfolding four_of
from_F0 bs t = from_four 0xF0 0x90 0xBF bs (omega arith) (omega arith) (omega arith)
    (λ x y z xl xh yh zh. (omega (arith, xl), omega (arith, xh, yh, zh))) t

from_F4 : (bs : List ℕ) → Next 0x80 0x8F EndsInTwo bs → IsOfCharacters (0xF4 ∷ bs)
unfolding four_of
from_F4 bs t = from_four 0xF4 0x80 0x8F bs (omega arith) (omega arith) (omega arith)
    (λ x y z xl xh yh zh. (omega arith, omega (arith, xh, yh, zh))) t

from_other : (b : ℕ) (bs : List ℕ) → 0xF0 ≤ b → b < 0xF4 → (b ≡ 0xF0 → ⊥) → Next 0x80 0xBF EndsInTwo bs → IsOfCharacters (b ∷ bs)
unfolding four_of
from_other b bs l h e t = from_four b 0x80 0xBF bs l (omega arith) (omega arith)
    (λ x y z xl xh yh zh. (omega (arith, l, e), omega (arith, h, xh, yh, zh))) t

-- ---- byte by byte

-- a byte below 80 is a legal character
abbrev pub IsLow : ℕ → Type 0
IsLow b = b < 0x80 → is_legal b ≡ true

abbrev pub AreLow : List ℕ → Type 0
AreLow [] = Unit {0}
AreLow (b ∷ bs) = IsLow b × AreLow bs

module _ (b : ℕ) (bs : List ℕ) (f : Follows bs) where
  leads_three : 0xE0 ≤ b → b < 0xF0 → octets (At (lead_of_three b)) bs ≡ At Between → IsOfCharacters (b ∷ bs)
  leads_three l h e = by (b == 0xE0) (b == 0xED) (b == 0xEF) refl refl refl e
    where
      by : (x y z : Bool) → (b == 0xE0) ≡ x → (b == 0xED) ≡ y → (b == 0xEF) ≡ z
          → octets (At (cond x AfterE0 (cond y AfterED (cond z AfterEF Two)))) bs ≡ At Between → IsOfCharacters (b ∷ bs)
      by true y z p q r e = subst (λ x. IsOfCharacters (x ∷ bs)) (sym (eqb-true b 0xE0 p)) (from_E0 bs (f AfterE0 e))
      by false true z p q r e = subst (λ x. IsOfCharacters (x ∷ bs)) (sym (eqb-true b 0xED q)) (from_ED bs (f AfterED e))
      by false false true p q r e = subst (λ x. IsOfCharacters (x ∷ bs)) (sym (eqb-true b 0xEF r)) (from_EF bs (f AfterEF e))
      by false false false p q r e = from_plain b bs l h (eqb-false b 0xE0 p) (eqb-false b 0xED q) (eqb-false b 0xEF r) (f Two e)

  leads_four : 0xF0 ≤ b → octets (lead_of_four b) bs ≡ At Between → IsOfCharacters (b ∷ bs)
  leads_four l e = by (b == 0xF0) (nat_lt b 0xF4) (b == 0xF4) refl refl refl e
    where
      by : (x y z : Bool) → (b == 0xF0) ≡ x → nat_lt b 0xF4 ≡ y → (b == 0xF4) ≡ z
          → octets (cond x (At AfterF0) (cond y (At Three) (cond z (At AfterF4) (Broken NotUtf8)))) bs ≡ At Between
          → IsOfCharacters (b ∷ bs)
      by true y z p q r e = subst (λ x. IsOfCharacters (x ∷ bs)) (sym (eqb-true b 0xF0 p)) (from_F0 bs (f AfterF0 e))
      by false true z p q r e = from_other b bs l (ltb-true b 0xF4 q) (eqb-false b 0xF0 p) (f Three e)
      by false false true p q r e = subst (λ x. IsOfCharacters (x ∷ bs)) (sym (eqb-true b 0xF4 r)) (from_F4 bs (f AfterF4 e))
      by false false false p q r e = absurd (broken NotUtf8 bs Between e)

  leads : IsLow b → octets (lead b) bs ≡ At Between → IsOfCharacters (b ∷ bs)
  unfolding lead
  leads low e = by (nat_lt b 0x80) (nat_lt b 0xC2) (nat_lt b 0xE0) (nat_lt b 0xF0) refl refl refl refl e
    where
      by : (x y z w : Bool) → nat_lt b 0x80 ≡ x → nat_lt b 0xC2 ≡ y → nat_lt b 0xE0 ≡ z → nat_lt b 0xF0 ≡ w
          → octets (cond x (At Between) (cond y (Broken NotUtf8) (cond z (At One) (cond w (At (lead_of_three b)) (lead_of_four b))))) bs
          ≡ At Between → IsOfCharacters (b ∷ bs)
      by true y z w p q r s e = one b bs (ltb-true b 0x80 p) (low (ltb-true b 0x80 p)) (f Between e)
      by false true z w p q r s e = absurd (broken NotUtf8 bs Between e)
      by false false true w p q r s e = from_two b bs (ltb-false b 0xC2 q) (ltb-true b 0xE0 r) (f One e)
      by false false false true p q r s e = leads_three (ltb-false b 0xE0 r) (ltb-true b 0xF0 s) e
      by false false false false p q r s e = leads_four (ltb-false b 0xF0 s) e

  -- a byte within these bounds
  trails : (least most : ℕ) (o : Octet) → octets (followed b least most o) bs ≡ At Between → Next least most (Trails o) (b ∷ bs)
  trails least most o e = let w = within b least most o bs e in (b, bs, refl, w.0, w.1, f o w.2)

  third : octets (third_last b) bs ≡ At Between → Trails AfterEF (b ∷ bs)
  third e = by (b == 0xBF) refl e
    where
      is : b ≡ 0xBF → Next 0xBF 0xBF (λ more. Next 0x80 0xBD IsOfCharacters more) (0xBF ∷ bs)
          → Next 0xBF 0xBF (λ more. Next 0x80 0xBD IsOfCharacters more) (b ∷ bs)
      is p n = subst (λ x. Next 0xBF 0xBF (λ more. Next 0x80 0xBD IsOfCharacters more) (x ∷ bs)) (sym p) n

      by : (x : Bool) → (b == 0xBF) ≡ x → octets (cond x (At AfterEFBF) (followed b 0x80 0xBE One)) bs ≡ At Between
          → Trails AfterEF (b ∷ bs)
      by true p e = inr (is (eqb-true b 0xBF p) (0xBF, bs, refl, omega arith, omega arith, f AfterEFBF e))
      by false p e = inl (trails 0x80 0xBE One e)

  second : octets (last b) bs ≡ At Between → Trails AfterEFBF (b ∷ bs)
  second e = by (b == 0xBE) (b == 0xBF) e
    where
      by : (x y : Bool) → octets (cond x (Broken Syntax) (cond y (Broken Syntax) (followed b 0x80 0xBD Between))) bs ≡ At Between
          → Trails AfterEFBF (b ∷ bs)
      by true y e = absurd (broken Syntax bs Between e)
      by false true e = absurd (broken Syntax bs Between e)
      by false false e = trails 0x80 0xBD Between e

  one_back : (o : Octet) → IsLow b → octets (octet_after o b) bs ≡ At Between → Trails o (b ∷ bs)
  unfolding octet_after
  one_back Between low e = leads low e
  one_back One low e = trails 0x80 0xBF Between e
  one_back Two low e = trails 0x80 0xBF One e
  one_back Three low e = trails 0x80 0xBF Two e
  one_back AfterE0 low e = trails 0xA0 0xBF One e
  one_back AfterED low e = trails 0x80 0x9F One e
  one_back AfterEF low e = third e
  one_back AfterEFBF low e = second e
  one_back AfterF0 low e = trails 0x90 0xBF Two e
  one_back AfterF4 low e = trails 0x80 0x8F Two e

pub same_octet : (o p : Octet) → At o ≡ At p → o ≡ p
same_octet o p e = cc

at_end : (o : Octet) → At o ≡ At Between → Trails o []
at_end o e = subst (λ p. Trails p []) (sym (same_octet o Between e)) ([], refl, refl)

follows : (bs : List ℕ) → AreLow bs → Follows bs
follows [] low = at_end
follows (b ∷ bs) low = λ o e. one_back b bs (follows bs low.1) o low.0 e

-- bytes that the machine passes, of which each below 80 is a legal character, are those of legal characters
pub characters_back : (bytes : List ℕ) → AreLow bytes → octets (At Between) bytes ≡ At Between → IsOfCharacters bytes
characters_back bytes low e = follows bytes low Between e
