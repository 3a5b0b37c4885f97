-- Each part of a reference that the machine comes to is closed by some bytes.
use Rattle.std.proofs.Common.{◌≡◌, ℕ, ◌+◌, ◌*◌, ◌<◌, ◌≤◌, zero, suc, Bool, true, false, ◌==◌, nat_lt, List, [], ◌∷◌, length, drop}
use Rattle.std.proofs.Common.{codes, refl, sym, ap, subst, ◌∙◌, arith}
use Rattle.std.proofs.Common.{le-ltb, true≢false}
use Rattle.std.proofs.lemmas.Bool.{lt-ltb, ltb-true, ltb-false, eqb-true, eqb-false, cond-true, cond-false}
use Rattle.ba_xml_places.proofs.Live.{ArePlain, LivePartial}
use Rattle.ba_xml_places.proofs.Ends.{drop_plain}
use Rattle.ba_xml_reader.proofs.CompleteReferences.{refers}
use Rattle.ba_xml_words.specs.inside.References.{entity_text, entity_code, referred, number_on, is_legal}
use Rattle.ba_xml_words.specs.declared.references.Entity.{Entity}
use Rattle.ba_xml_words.specs.declared.references.Entity.TheVariants as entity
use Rattle.ba_xml_words.specs.declared.references.Partial.{Partial}
use Rattle.ba_xml_words.specs.declared.references.Partial.TheVariants.{Nothing, LetterA, Named, Hash, HashX, Number}
use Rattle.ba_xml_words.specs.declared.references.Radix.{Radix}
use Rattle.ba_xml_words.specs.declared.references.Radix.TheVariants.{Decimal, Hexadecimal}
use Rattle.ba_xml_words.specs.declared.references.Referred.TheVariants.{Wrong, On, Meant}

abbrev pub PartialCloses : Partial → Type 0
PartialCloses partial = (cs : List ℕ) × (c : ℕ) × (refers (On partial) cs ≡ Meant c) × ArePlain cs

-- ---- names

pub entity_plain : (e : Entity) → ArePlain (entity_text e)
entity_plain entity.Less = (refl, (refl, (refl, tt)))
entity_plain entity.Greater = (refl, (refl, (refl, tt)))
entity_plain entity.Ampersand = (refl, (refl, (refl, (refl, tt))))
entity_plain entity.Apostrophe = (refl, (refl, (refl, (refl, (refl, tt)))))
entity_plain entity.Quote = (refl, (refl, (refl, (refl, (refl, tt)))))

no_three : (n : ℕ) → suc (suc (suc n)) < 3 → ⊥
no_three n l = omega (arith, l)

no_four : (n : ℕ) → suc (suc (suc (suc n))) < 4 → ⊥
no_four n l = omega (arith, l)

no_five : (n : ℕ) → suc (suc (suc (suc (suc n)))) < 5 → ⊥
no_five n l = omega (arith, l)

named_closes : (e : Entity) (count : ℕ) → count < length (entity_text e)
    → refers (On (Named e count)) (drop count (entity_text e)) ≡ Meant (entity_code e)
unfolding referred
named_closes entity.Less zero l = refl
named_closes entity.Less (suc zero) l = refl
named_closes entity.Less (suc (suc zero)) l = refl
named_closes entity.Less (suc (suc (suc n))) l = absurd (no_three n l)
named_closes entity.Greater zero l = refl
named_closes entity.Greater (suc zero) l = refl
named_closes entity.Greater (suc (suc zero)) l = refl
named_closes entity.Greater (suc (suc (suc n))) l = absurd (no_three n l)
named_closes entity.Ampersand zero l = refl
named_closes entity.Ampersand (suc zero) l = refl
named_closes entity.Ampersand (suc (suc zero)) l = refl
named_closes entity.Ampersand (suc (suc (suc zero))) l = refl
named_closes entity.Ampersand (suc (suc (suc (suc n)))) l = absurd (no_four n l)
named_closes entity.Apostrophe zero l = refl
named_closes entity.Apostrophe (suc zero) l = refl
named_closes entity.Apostrophe (suc (suc zero)) l = refl
named_closes entity.Apostrophe (suc (suc (suc zero))) l = refl
named_closes entity.Apostrophe (suc (suc (suc (suc zero)))) l = refl
named_closes entity.Apostrophe (suc (suc (suc (suc (suc n))))) l = absurd (no_five n l)
named_closes entity.Quote zero l = refl
named_closes entity.Quote (suc zero) l = refl
named_closes entity.Quote (suc (suc zero)) l = refl
named_closes entity.Quote (suc (suc (suc zero))) l = refl
named_closes entity.Quote (suc (suc (suc (suc zero)))) l = refl
named_closes entity.Quote (suc (suc (suc (suc (suc n))))) l = absurd (no_five n l)

-- ---- numbers

legal_low : (c : ℕ) → 32 ≤ c → c < 0xD800 → is_legal c ≡ true
legal_low c l h = rw (le-ltb c 32 l, lt-ltb c 0xD800 h) refl

legal_high : (c : ℕ) → 0x1_0000 ≤ c → c < 0x11_0000 → is_legal c ≡ true
legal_high c l h = rw (
  le-ltb c 32 (omega (arith, l)),
  le-ltb c 0xD800 (omega (arith, l)),
  le-ltb c 0xE000 (omega (arith, l)),
  le-ltb c 0xFFFE (omega (arith, l)),
  le-ltb c 0x1_0000 l,
  lt-ltb c 0x11_0000 h,
) refl

number_step : (radix : Radix) (value b : ℕ) → referred (Number radix value) b ≡ number_on radix value b
unfolding referred
number_step radix value b = refl

-- ";"
number_ends : (radix : Radix) (value : ℕ) → is_legal value ≡ true → refers (On (Number radix value)) (59 ∷ []) ≡ Meant value
number_ends radix value l = ap (λ r. refers r []) (number_step radix value 59) ∙ cond-true (is_legal value) (Meant value) Wrong l

-- "0"
decimal_zero : (value : ℕ) (cs : List ℕ) → value * 10 ≤ 0x10_FFFF
    → refers (On (Number Decimal value)) (48 ∷ cs) ≡ refers (On (Number Decimal (value * 10 + 0))) cs
decimal_zero value cs h = ap (λ r. refers r cs) (number_step Decimal value 48
    ∙ cond-false (nat_lt 0x10_FFFF (value * 10 + 0)) _ _ (le-ltb 0x10_FFFF (value * 10 + 0) (omega (arith, h))))

hexadecimal_zero : (value : ℕ) (cs : List ℕ) → value * 16 ≤ 0x10_FFFF
    → refers (On (Number Hexadecimal value)) (48 ∷ cs) ≡ refers (On (Number Hexadecimal (value * 16 + 0))) cs
hexadecimal_zero value cs h =
    ap (λ r. refers r cs) (number_step Hexadecimal value 48
    ∙ cond-false (nat_lt 0x10_FFFF (value * 16 + 0)) _ _ (le-ltb 0x10_FFFF (value * 16 + 0) (omega (arith, h))))

-- no character of its own: "0" or "00" makes it another's
zero_closes : (radix : Radix) → PartialCloses (Number radix 0)
unfolding referred
zero_closes Decimal = (codes "32;", 32, refl, (refl, (refl, (refl, tt))))
zero_closes Hexadecimal = (codes "32;", 50, refl, (refl, (refl, (refl, tt))))

control_closes : (radix : Radix) (value : ℕ) → 0 < value → value < 32 → PartialCloses (Number radix value)
control_closes Decimal value l h = (
  codes "00;",
  (value * 10 + 0) * 10 + 0,
  decimal_zero value (48 ∷ 59 ∷ []) (omega (arith, h)) ∙ decimal_zero (value * 10 + 0) (59 ∷ []) (omega (arith, h))
      ∙ number_ends Decimal ((value * 10 + 0) * 10 + 0) (legal_low ((value * 10 + 0) * 10 + 0) (omega (arith, l)) (omega (arith, h))),
  (refl, (refl, (refl, tt))),
)
control_closes Hexadecimal value l h = (
  codes "00;",
  (value * 16 + 0) * 16 + 0,
  hexadecimal_zero value (48 ∷ 59 ∷ []) (omega (arith, h)) ∙ hexadecimal_zero (value * 16 + 0) (59 ∷ []) (omega (arith, h))
      ∙ number_ends Hexadecimal ((value * 16 + 0) * 16 + 0) (legal_low ((value * 16 + 0) * 16 + 0) (omega (arith, l)) (omega (arith, h))),
  (refl, (refl, (refl, tt))),
)

surrogate_closes : (radix : Radix) (value : ℕ) → 0xD800 ≤ value → value < 0x1_0000 → PartialCloses (Number radix value)
surrogate_closes Decimal value l h = (
  codes "0;",
  value * 10 + 0,
  decimal_zero value (59 ∷ []) (omega (arith, h)) ∙ number_ends Decimal (value * 10 + 0)
      (legal_high (value * 10 + 0) (omega (arith, l)) (omega (arith, h))),
  (refl, (refl, tt)),
)
surrogate_closes Hexadecimal value l h = (
  codes "0;",
  value * 16 + 0,
  hexadecimal_zero value (59 ∷ []) (omega (arith, h))
      ∙ number_ends Hexadecimal (value * 16 + 0) (legal_high (value * 16 + 0) (omega (arith, l)) (omega (arith, h))),
  (refl, (refl, tt)),
)

number_closes : (radix : Radix) (value : ℕ) → value ≤ 0x10_FFFF → PartialCloses (Number radix value)
number_closes radix value most =
    by (is_legal value) (nat_lt value 32) (value == 0) (nat_lt value 0xD800) (nat_lt value 0x1_0000) refl refl refl refl refl
  where
    positive : (value ≡ 0 → ⊥) → 0 < value
    positive n = omega (arith, n)

    clash : is_legal value ≡ false → is_legal value ≡ true → PartialCloses (Number radix value)
    clash f t = absurd (true≢false (sym t ∙ f))

    top : value < 0x11_0000
    top = omega (arith, most)

    by : (legal control none plain basic : Bool) → is_legal value ≡ legal → nat_lt value 32 ≡ control → (value == 0) ≡ none
        → nat_lt value 0xD800 ≡ plain → nat_lt value 0x1_0000 ≡ basic → PartialCloses (Number radix value)
    by true control none plain basic l c z p b = (59 ∷ [], value, number_ends radix value l, (refl, tt))
    by false true true plain basic l c z p b = subst (λ v. PartialCloses (Number radix v)) (sym (eqb-true value 0 z)) (zero_closes radix)
    by false true false plain basic l c z p b = control_closes radix value (positive (eqb-false value 0 z)) (ltb-true value 32 c)
    by false false none true basic l c z p b = clash l (legal_low value (ltb-false value 32 c) (ltb-true value 0xD800 p))
    by false false none false true l c z p b = surrogate_closes radix value (ltb-false value 0xD800 p) (ltb-true value 0x1_0000 b)
    by false false none false false l c z p b = clash l (legal_high value (ltb-false value 0x1_0000 b) top)

pub partial_closes : (partial : Partial) → LivePartial partial → PartialCloses partial
unfolding referred
partial_closes Nothing l = (codes "lt;", 60, refl, (refl, (refl, (refl, tt))))
partial_closes LetterA l = (codes "mp;", 38, refl, (refl, (refl, (refl, tt))))
partial_closes (Named e count) l = (
  drop count (entity_text e),
  entity_code e,
  named_closes e count l,
  drop_plain count (entity_text e) (entity_plain e),
)
partial_closes Hash l = (codes "9;", 9, refl, (refl, (refl, tt)))
partial_closes HashX l = (codes "9;", 9, refl, (refl, (refl, tt)))
partial_closes (Number radix value) l = number_closes radix value l
