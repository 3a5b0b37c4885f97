-- Of UTF-8 the machine never says that it is none.
use Rattle.std.proofs.Common.{◌≡◌, ℕ, ◌<◌, ◌≤◌, nat_lt, ◌==◌, Bool, true, false, ◌&&◌, ◌⊎◌, inl, inr, List, [], ◌∷◌, ◌++◌, IsUtf8}
use Rattle.std.proofs.Common.{encode_utf8_all, refl, sym, ap, ◌∙◌, subst, arith, true≢false}
use Rattle.std.proofs.lemmas.Bool.{ltb-true, ltb-false, eqb-true, eqb-false}
use Rattle.std.specs.Char.{encode_utf8}
use Rattle.std.proofs.Math.Utf8.{scalar, scalar_cases}
use Rattle.std.specs.Str.{all_scalars}
use Rattle.ba_xml_reader.proofs.CompleteCharacters.{octets, octets_append, of_four, by_length}
use Rattle.ba_xml_words.specs.inside.Octets.{octet_after, lead}
use Rattle.ba_xml_words.specs.declared.faults.Reason.TheVariants.{NotUtf8, Syntax}
use Rattle.ba_xml_words.specs.declared.octets.Octet.TheVariants.{Between}
use Rattle.ba_xml_words.specs.declared.octets.Decoding.{Decoding}
use Rattle.ba_xml_words.specs.declared.octets.Decoding.TheVariants.{At, Broken}

-- the bytes are passed, or broken for another reason
abbrev Passed : List ℕ → Type 0
Passed bytes = (octets (At Between) bytes ≡ At Between) ⊎ (octets (At Between) bytes ≡ Broken Syntax)

last_two : Passed (encode_utf8 0xFFFE)
unfolding octet_after lead encode_utf8
last_two = inr refl

last_one : Passed (encode_utf8 0xFFFF)
unfolding octet_after lead encode_utf8
last_one = inr refl

high : (c : ℕ) → 0xE000 ≤ c → c < 0x110000 → (x y : Bool) → nat_lt c 0xFFFE ≡ x → nat_lt c 0x10000 ≡ y → Passed (encode_utf8 c)
high c l h true y p q = inl (by_length c (nat_lt c 0x80) (nat_lt c 0x800) refl refl (below (ltb-true c 0xFFFE p))
    (inr (l, few (ltb-true c 0xFFFE p))))
  where
    below : c < 0xFFFE → c < 0x10000
    below k = omega (arith, k)

    few : c < 0xFFFE → c ≤ 0xFFFD
    few k = omega (arith, k)
high c l h false true p q = by (c == 0xFFFE) refl
  where
    other : (c ≡ 0xFFFE → ⊥) → 0xFFFE ≤ c → c < 0x10000 → c ≡ 0xFFFF
    other n a b = omega (arith, n, a, b)

    by : (t : Bool) → (c == 0xFFFE) ≡ t → Passed (encode_utf8 c)
    by true e = subst (λ x. Passed (encode_utf8 x)) (sym (eqb-true c 0xFFFE e)) last_two
    by false e = subst (λ x. Passed (encode_utf8 x))
        (sym (other (eqb-false c 0xFFFE e) (ltb-false c 0xFFFE p) (ltb-true c 0x10000 q))) last_one
high c l h false false p q = inl (of_four c (ltb-false c 0x10000 q) (omega (arith, h)))

scalar_passed : (c : ℕ) → (c < 55296) ⊎ ((57344 ≤ c) × (c < 1114112)) → Passed (encode_utf8 c)
scalar_passed c (inl h) = inl (by_length c (nat_lt c 0x80) (nat_lt c 0x800) refl refl (omega (arith, h)) (inl h))
scalar_passed c (inr h) = high c h.0 h.1 (nat_lt c 0xFFFE) (nat_lt c 0x10000) refl refl

broken_on : (bs cs : List ℕ) (d : Decoding) → octets d bs ≡ Broken Syntax → octets d (bs ++ cs) ≡ Broken Syntax
broken_on [] [] d e = e
broken_on [] (c ∷ cs) d e = ap (λ x. octets x (c ∷ cs)) e
broken_on (b ∷ bs) cs (Broken r) e = e
broken_on (b ∷ bs) cs (At o) e = broken_on bs cs (octet_after o b) e

joined : (bs cs : List ℕ) → Passed bs → Passed cs → Passed (bs ++ cs)
joined bs cs (inr e) p = inr (broken_on bs cs (At Between) e)
joined bs cs (inl e) (inl f) = inl (octets_append bs cs Between Between e ∙ f)
joined bs cs (inl e) (inr f) = inr (octets_append bs cs Between Between e ∙ f)

both : (x y : Bool) → (x && y) ≡ true → (x ≡ true) × (y ≡ true)
both true y e = (refl, e)
both false y e = absurd (true≢false (sym e))

scalars_passed : (cs : List ℕ) → all_scalars cs ≡ true → Passed (encode_utf8_all cs)
scalars_passed [] e = inl refl
scalars_passed (c ∷ cs) e = joined (encode_utf8 c) (encode_utf8_all cs)
    (scalar_passed c (scalar_cases c (both (scalar c) (all_scalars cs) e).0)) (scalars_passed cs (both (scalar c) (all_scalars cs) e).1)

pub utf8_passed : (bytes : List ℕ) → IsUtf8 bytes → octets (At Between) bytes ≡ Broken NotUtf8 → ⊥
utf8_passed bytes u e = by (subst Passed u.1.1 (scalars_passed u.0 u.1.0))
  where
    not_at : At Between ≡ Broken NotUtf8 → ⊥
    not_at e = cc

    not_other : Broken Syntax ≡ Broken NotUtf8 → ⊥
    not_other e = cc

    by : Passed bytes → ⊥
    by (inl f) = not_at (sym f ∙ e)
    by (inr f) = not_other (sym f ∙ e)
