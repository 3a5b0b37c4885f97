-- UTF-8 over the bytes of the characters of a text.
use Rattle.std.proofs.Common.{◌≡◌, ℕ, ◌+◌, ◌/◌, ◌%◌, ◌<◌, ◌≤◌, ◌==◌, nat_lt, Bool, true, false, ◌&&◌, ◌⊎◌, inl, inr, List, [], ◌∷◌, ◌++◌}
use Rattle.std.proofs.Common.{encode_utf8_all, refl, sym, ap, ◌∙◌, arith, le-ltb, true≢false}
use Rattle.std.proofs.lemmas.Bool.{lt-ltb, ne_eqb, ltb-true, ltb-false, eqb-true, eqb-false}
use Rattle.std.specs.Char.{encode_utf8}
use Rattle.std.specs.List.{list_all}
use Rattle.ba_tree.specs.Characters as characters
use Rattle.ba_xml_words.specs.inside.Octets.{octet_after, lead}
use Rattle.ba_xml_words.specs.declared.octets.Octet.{Octet}
use Rattle.ba_xml_words.specs.declared.octets.Octet.TheVariants.{Between, One, Two, Three, AfterE0, AfterED, AfterEF, AfterEFBF, AfterF0}
use Rattle.ba_xml_words.specs.declared.octets.Octet.TheVariants.{AfterF4}
use Rattle.ba_xml_words.specs.declared.octets.Decoding.{Decoding}
use Rattle.ba_xml_words.specs.declared.octets.Decoding.TheVariants.{At, Broken}
use Rattle.ba_xml_reader.proofs.CompleteReferences.{legal_ranges}

-- UTF-8 by itself, byte by byte
abbrev pub octets : Decoding → List ℕ → Decoding
octets d [] = d
octets (Broken r) (b ∷ bs) = Broken r
octets (At o) (b ∷ bs) = octets (octet_after o b) bs

pub octets_append : (bs cs : List ℕ) (o p : Octet) → octets (At o) bs ≡ At p → octets (At o) (bs ++ cs) ≡ octets (At p) cs
octets_append bs cs o p e = by bs (At o) e
  where
    by : (bs : List ℕ) (d : Decoding) → octets d bs ≡ At p → octets d (bs ++ cs) ≡ octets (At p) cs
    by [] d e = ap (λ x. octets x cs) e
    by (b ∷ bs) (Broken r) e = absurd (clash e)
      where
        clash : Broken r ≡ At p → ⊥
        clash e = cc
    by (b ∷ bs) (At o) e = by bs (octet_after o b) e

-- ---- bytes behind the first

trail : (b : ℕ) → 0x80 ≤ b → b ≤ 0xBF → octet_after One b ≡ At Between
unfolding octet_after
trail b l h = rw (le-ltb b 0x80 l, le-ltb 0xBF b h) refl

trail_two : (b : ℕ) → 0x80 ≤ b → b ≤ 0xBF → octet_after Two b ≡ At One
unfolding octet_after
trail_two b l h = rw (le-ltb b 0x80 l, le-ltb 0xBF b h) refl

trail_three : (b : ℕ) → 0x80 ≤ b → b ≤ 0xBF → octet_after Three b ≡ At Two
unfolding octet_after
trail_three b l h = rw (le-ltb b 0x80 l, le-ltb 0xBF b h) refl

trail_E0 : (b : ℕ) → 0xA0 ≤ b → b ≤ 0xBF → octet_after AfterE0 b ≡ At One
unfolding octet_after
trail_E0 b l h = rw (le-ltb b 0xA0 l, le-ltb 0xBF b h) refl

trail_ED : (b : ℕ) → 0x80 ≤ b → b ≤ 0x9F → octet_after AfterED b ≡ At One
unfolding octet_after
trail_ED b l h = rw (le-ltb b 0x80 l, le-ltb 0x9F b h) refl

trail_EF : (b : ℕ) → 0x80 ≤ b → b ≤ 0xBE → octet_after AfterEF b ≡ At One
unfolding octet_after
trail_EF b l h = rw (ne_eqb b 0xBF (λ e. omega (arith, e, h)), le-ltb b 0x80 l, le-ltb 0xBE b h) refl

trail_EFBF : (b : ℕ) → b ≡ 0xBF → octet_after AfterEF b ≡ At AfterEFBF
unfolding octet_after
trail_EFBF b e = rw e refl

trail_last : (b : ℕ) → 0x80 ≤ b → b ≤ 0xBD → octet_after AfterEFBF b ≡ At Between
unfolding octet_after
trail_last b l h = rw (
  ne_eqb b 0xBE (λ e. omega (arith, e, h)),
  ne_eqb b 0xBF (λ e. omega (arith, e, h)),
  le-ltb b 0x80 l,
  le-ltb 0xBD b h,
) refl

trail_F0 : (b : ℕ) → 0x90 ≤ b → b ≤ 0xBF → octet_after AfterF0 b ≡ At Two
unfolding octet_after
trail_F0 b l h = rw (le-ltb b 0x90 l, le-ltb 0xBF b h) refl

trail_F4 : (b : ℕ) → 0x80 ≤ b → b ≤ 0x8F → octet_after AfterF4 b ≡ At Two
unfolding octet_after
trail_F4 b l h = rw (le-ltb b 0x80 l, le-ltb 0x8F b h) refl

-- ---- first bytes

pub lead_one : (b : ℕ) → b < 0x80 → octet_after Between b ≡ At Between
unfolding octet_after lead
lead_one b h = rw (lt-ltb b 0x80 h) refl

lead_two : (b : ℕ) → 0xC2 ≤ b → b < 0xE0 → octet_after Between b ≡ At One
unfolding octet_after lead
lead_two b l h = rw (le-ltb b 0x80 (omega (arith, l)), le-ltb b 0xC2 l, lt-ltb b 0xE0 h) refl

lead_three : (b : ℕ) → 0xE0 ≤ b → b < 0xF0 → (b ≡ 0xE0 → ⊥) → (b ≡ 0xED → ⊥) → (b ≡ 0xEF → ⊥) → octet_after Between b ≡ At Two
unfolding octet_after lead
lead_three b l h x y z = rw (
  le-ltb b 0x80 (omega (arith, l)),
  le-ltb b 0xC2 (omega (arith, l)),
  le-ltb b 0xE0 l,
  lt-ltb b 0xF0 h,
  ne_eqb b 0xE0 x,
  ne_eqb b 0xED y,
  ne_eqb b 0xEF z,
) refl

lead_E0 : octet_after Between 0xE0 ≡ At AfterE0
unfolding octet_after lead
lead_E0 = refl

lead_ED : octet_after Between 0xED ≡ At AfterED
unfolding octet_after lead
lead_ED = refl

lead_EF : octet_after Between 0xEF ≡ At AfterEF
unfolding octet_after lead
lead_EF = refl

lead_F0 : octet_after Between 0xF0 ≡ At AfterF0
unfolding octet_after lead
lead_F0 = refl

lead_F4 : octet_after Between 0xF4 ≡ At AfterF4
unfolding octet_after lead
lead_F4 = refl

lead_four : (b : ℕ) → 0xF1 ≤ b → b < 0xF4 → octet_after Between b ≡ At Three
unfolding octet_after lead
lead_four b l h = rw (
  le-ltb b 0x80 (omega (arith, l)),
  le-ltb b 0xC2 (omega (arith, l)),
  le-ltb b 0xE0 (omega (arith, l)),
  le-ltb b 0xF0 (omega (arith, l)),
  ne_eqb b 0xF0 (λ e. omega (arith, e, l)),
  lt-ltb b 0xF4 h,
) refl

-- ---- characters

module _ (c : ℕ) where
  abbrev pub Well : Type 0
  Well = octets (At Between) (encode_utf8 c) ≡ At Between

  pub encoded_one : c < 0x80 → encode_utf8 c ≡ c ∷ []
  unfolding encode_utf8
  encoded_one h = rw (lt-ltb c 0x80 h) refl

  pub encoded_two : 0x80 ≤ c → c < 0x800 → encode_utf8 c ≡ (192 + c / 64) ∷ (128 + c % 64) ∷ []
  unfolding encode_utf8
  encoded_two l h = rw (le-ltb c 0x80 l, lt-ltb c 0x800 h) refl

  pub encoded_three : 0x800 ≤ c → c < 0x10000 → encode_utf8 c ≡ (224 + c / 4096) ∷ (128 + (c / 64) % 64) ∷ (128 + c % 64) ∷ []
  unfolding encode_utf8
  encoded_three l h = rw (le-ltb c 0x80 (omega (arith, l)), le-ltb c 0x800 l, lt-ltb c 0x10000 h) refl

  pub encoded_four : 0x10000 ≤ c → encode_utf8 c ≡ (240 + c / 262144) ∷ (128 + (c / 4096) % 64) ∷ (128 + (c / 64) % 64)
      ∷ (128 + c % 64) ∷ []
  unfolding encode_utf8
  encoded_four l = rw (le-ltb c 0x80 (omega (arith, l)), le-ltb c 0x800 (omega (arith, l)), le-ltb c 0x10000 l) refl

  one_more : (b : ℕ) (bs : List ℕ) (o p : Octet) (d : Decoding) → octet_after o b ≡ At p → octets (At p) bs ≡ d → octets (At o) (b ∷ bs) ≡ d
  one_more b bs o p d e r = ap (λ x. octets x bs) e ∙ r

  last_one : octets (At One) ((128 + c % 64) ∷ []) ≡ At Between
  last_one = trail (128 + c % 64) (omega arith) (omega arith)

  last_two : octets (At Two) ((128 + (c / 64) % 64) ∷ (128 + c % 64) ∷ []) ≡ At Between
  last_two = one_more (128 + (c / 64) % 64) ((128 + c % 64) ∷ []) Two One (At Between)
      (trail_two (128 + (c / 64) % 64) (omega arith) (omega arith)) last_one

  of_one : c < 0x80 → Well
  of_one h = ap (octets (At Between)) (encoded_one h) ∙ lead_one c h

  of_two : 0x80 ≤ c → c < 0x800 → Well
  of_two l h = ap (octets (At Between)) (encoded_two l h)
      ∙ one_more (192 + c / 64) ((128 + c % 64) ∷ []) Between One (At Between)
      (lead_two (192 + c / 64) (omega (arith, l)) (omega (arith, h))) last_one

  Two_last : List ℕ
  Two_last = (128 + (c / 64) % 64) ∷ (128 + c % 64) ∷ []

  at_E0 : 0x800 ≤ c → c / 4096 ≡ 0 → octets (At Between) ((224 + c / 4096) ∷ (128 + (c / 64) % 64) ∷ (128 + c % 64) ∷ []) ≡ At Between
  at_E0 l e = ap (λ x. octets (octet_after Between (224 + x)) ((128 + (c / 64) % 64) ∷ (128 + c % 64) ∷ [])) e
      ∙ ap (λ x. octets x ((128 + (c / 64) % 64) ∷ (128 + c % 64) ∷ [])) lead_E0
      ∙ one_more (128 + (c / 64) % 64) ((128 + c % 64) ∷ []) AfterE0 One (At Between)
      (trail_E0 (128 + (c / 64) % 64) (omega (arith, l, e)) (omega arith)) last_one

  at_ED : c < 0xD800 → c / 4096 ≡ 13 → octets (At Between) ((224 + c / 4096) ∷ (128 + (c / 64) % 64) ∷ (128 + c % 64) ∷ []) ≡ At Between
  at_ED h e = ap (λ x. octets (octet_after Between (224 + x)) ((128 + (c / 64) % 64) ∷ (128 + c % 64) ∷ [])) e
      ∙ ap (λ x. octets x ((128 + (c / 64) % 64) ∷ (128 + c % 64) ∷ [])) lead_ED
      ∙ one_more (128 + (c / 64) % 64) ((128 + c % 64) ∷ []) AfterED One (At Between)
      (trail_ED (128 + (c / 64) % 64) (omega arith) (omega (arith, h, e))) last_one

  at_EF : c ≤ 0xFFFD → c / 4096 ≡ 15 → ((c / 64) % 64 ≡ 63) ⊎ ((c / 64) % 64 < 63)
      → octets (At Between) ((224 + c / 4096) ∷ (128 + (c / 64) % 64) ∷ (128 + c % 64) ∷ []) ≡ At Between
  at_EF h e (inr low) = ap (λ x. octets (octet_after Between (224 + x)) ((128 + (c / 64) % 64) ∷ (128 + c % 64) ∷ [])) e
      ∙ ap (λ x. octets x ((128 + (c / 64) % 64) ∷ (128 + c % 64) ∷ [])) lead_EF
      ∙ one_more (128 + (c / 64) % 64) ((128 + c % 64) ∷ []) AfterEF One (At Between)
      (trail_EF (128 + (c / 64) % 64) (omega arith) (omega (arith, low))) last_one
  at_EF h e (inl high) = ap (λ x. octets (octet_after Between (224 + x)) ((128 + (c / 64) % 64) ∷ (128 + c % 64) ∷ [])) e
      ∙ ap (λ x. octets x ((128 + (c / 64) % 64) ∷ (128 + c % 64) ∷ [])) lead_EF
      ∙ one_more (128 + (c / 64) % 64) ((128 + c % 64) ∷ []) AfterEF AfterEFBF (At Between)
      (trail_EFBF (128 + (c / 64) % 64) (omega (arith, high)))
      (trail_last (128 + c % 64) (omega arith) (omega (arith, high, h, e)))

  at_other : 0x800 ≤ c → c < 0x10000 → (c / 4096 ≡ 0 → ⊥) → (c / 4096 ≡ 13 → ⊥) → (c / 4096 ≡ 15 → ⊥)
      → octets (At Between) ((224 + c / 4096) ∷ (128 + (c / 64) % 64) ∷ (128 + c % 64) ∷ []) ≡ At Between
  at_other l h x y z = one_more (224 + c / 4096) ((128 + (c / 64) % 64) ∷ (128 + c % 64) ∷ []) Between Two (At Between)
      (lead_three (224 + c / 4096) (omega arith) (omega (arith, h)) (λ e. x (omega (arith, e))) (λ e. y (omega (arith, e)))
      (λ e. z (omega (arith, e)))) last_two

  pub of_three : 0x800 ≤ c → c < 0x10000 → (c < 0xD800) ⊎ ((0xE000 ≤ c) × (c ≤ 0xFFFD)) → Well
  of_three l h r = ap (octets (At Between)) (encoded_three l h) ∙ by_lead (c / 4096 == 0) (c / 4096 == 13) (c / 4096 == 15) refl refl refl r
    where
      by_lead : (x y z : Bool) → (c / 4096 == 0) ≡ x → (c / 4096 == 13) ≡ y → (c / 4096 == 15) ≡ z
          → (c < 0xD800) ⊎ ((0xE000 ≤ c) × (c ≤ 0xFFFD))
          → octets (At Between) ((224 + c / 4096) ∷ (128 + (c / 64) % 64) ∷ (128 + c % 64) ∷ []) ≡ At Between
      by_lead true y z x_is y_is z_is r = at_E0 l (eqb-true (c / 4096) 0 x_is)
      by_lead false true z x_is y_is z_is (inl low) = at_ED low (eqb-true (c / 4096) 13 y_is)
      by_lead false true z x_is y_is z_is (inr high) = absurd (above (eqb-true (c / 4096) 13 y_is) high.0)
        where
          above : c / 4096 ≡ 13 → 0xE000 ≤ c → ⊥
          above e l = omega (arith, e, l)
      by_lead false false true x_is y_is z_is (inl low) = absurd (below (eqb-true (c / 4096) 15 z_is) low)
        where
          below : c / 4096 ≡ 15 → c < 0xD800 → ⊥
          below e l = omega (arith, e, l)
      by_lead false false true x_is y_is z_is (inr high) = at_EF high.1 (eqb-true (c / 4096) 15 z_is) (split ((c / 64) % 64 == 63) refl)
        where
          split : (t : Bool) → ((c / 64) % 64 == 63) ≡ t → ((c / 64) % 64 ≡ 63) ⊎ ((c / 64) % 64 < 63)
          split true e = inl (eqb-true ((c / 64) % 64) 63 e)
          split false e = inr (less (eqb-false ((c / 64) % 64) 63 e))
            where
              less : ((c / 64) % 64 ≡ 63 → ⊥) → (c / 64) % 64 < 63
              less n = omega (arith, n)
      by_lead false false false x_is y_is z_is r =
          at_other l h (eqb-false (c / 4096) 0 x_is) (eqb-false (c / 4096) 13 y_is) (eqb-false (c / 4096) 15 z_is)

  Four : Type 0
  Four = octets (At Between) ((240 + c / 262144) ∷ (128 + (c / 4096) % 64) ∷ (128 + (c / 64) % 64) ∷ (128 + c % 64) ∷ []) ≡ At Between

  at_F0 : 0x10000 ≤ c → c / 262144 ≡ 0 → Four
  unfolding Four
  at_F0 l e = ap (λ x. octets (octet_after Between (240 + x)) ((128 + (c / 4096) % 64) ∷ (128 + (c / 64) % 64) ∷ (128 + c % 64) ∷ [])) e
      ∙ ap (λ x. octets x ((128 + (c / 4096) % 64) ∷ (128 + (c / 64) % 64) ∷ (128 + c % 64) ∷ [])) lead_F0
      ∙ one_more (128 + (c / 4096) % 64) ((128 + (c / 64) % 64) ∷ (128 + c % 64) ∷ []) AfterF0 Two (At Between)
      (trail_F0 (128 + (c / 4096) % 64) (omega (arith, l, e)) (omega arith)) last_two

  at_F4 : c ≤ 0x10FFFF → c / 262144 ≡ 4 → Four
  unfolding Four
  at_F4 h e = ap (λ x. octets (octet_after Between (240 + x)) ((128 + (c / 4096) % 64) ∷ (128 + (c / 64) % 64) ∷ (128 + c % 64) ∷ [])) e
      ∙ ap (λ x. octets x ((128 + (c / 4096) % 64) ∷ (128 + (c / 64) % 64) ∷ (128 + c % 64) ∷ [])) lead_F4
      ∙ one_more (128 + (c / 4096) % 64) ((128 + (c / 64) % 64) ∷ (128 + c % 64) ∷ []) AfterF4 Two (At Between)
      (trail_F4 (128 + (c / 4096) % 64) (omega arith) (omega (arith, h, e))) last_two

  at_F1 : c ≤ 0x10FFFF → (c / 262144 ≡ 0 → ⊥) → (c / 262144 ≡ 4 → ⊥) → Four
  unfolding Four
  at_F1 h x y = one_more (240 + c / 262144) ((128 + (c / 4096) % 64) ∷ (128 + (c / 64) % 64) ∷ (128 + c % 64) ∷ []) Between
      Three (At Between)
      (lead_four (240 + c / 262144) (omega (arith, x)) (omega (arith, h, y)))
      (one_more (128 + (c / 4096) % 64) ((128 + (c / 64) % 64) ∷ (128 + c % 64) ∷ []) Three Two (At Between)
      (trail_three (128 + (c / 4096) % 64) (omega arith) (omega arith)) last_two)

  pub of_four : 0x10000 ≤ c → c ≤ 0x10FFFF → Well
  unfolding Four
  of_four l h = ap (octets (At Between)) (encoded_four l) ∙ by_lead (c / 262144 == 0) (c / 262144 == 4) refl refl
    where
      by_lead : (x y : Bool) → (c / 262144 == 0) ≡ x → (c / 262144 == 4) ≡ y
          → octets (At Between) ((240 + c / 262144) ∷ (128 + (c / 4096) % 64) ∷ (128 + (c / 64) % 64) ∷ (128 + c % 64) ∷ []) ≡ At Between
      by_lead true y x_is y_is = at_F0 l (eqb-true (c / 262144) 0 x_is)
      by_lead false true x_is y_is = at_F4 h (eqb-true (c / 262144) 4 y_is)
      by_lead false false x_is y_is = at_F1 h (eqb-false (c / 262144) 0 x_is) (eqb-false (c / 262144) 4 y_is)

  pub by_length : (x y : Bool) → nat_lt c 0x80 ≡ x → nat_lt c 0x800 ≡ y → c < 0x10000 → (c < 0xD800) ⊎ ((0xE000 ≤ c) × (c ≤ 0xFFFD)) → Well
  by_length true y p q h r = of_one (ltb-true c 0x80 p)
  by_length false true p q h r = of_two (ltb-false c 0x80 p) (ltb-true c 0x800 q)
  by_length false false p q h r = of_three (ltb-false c 0x800 q) h r

  by_range : (c < 32) ⊎ (((32 ≤ c) × (c ≤ 0xD7FF)) ⊎ (((0xE000 ≤ c) × (c ≤ 0xFFFD)) ⊎ ((0x10000 ≤ c) × (c ≤ 0x10FFFF)))) → Well
  by_range (inl h) = of_one (omega (arith, h))
  by_range (inr (inl h)) = by_length (nat_lt c 0x80) (nat_lt c 0x800) refl refl (omega (arith, h)) (inl (omega (arith, h)))
  by_range (inr (inr (inl h))) = by_length (nat_lt c 0x80) (nat_lt c 0x800) refl refl (omega (arith, h)) (inr h)
  by_range (inr (inr (inr h))) = of_four h.0 h.1

  character_octets : characters.is_legal c ≡ true → octets (At Between) (encode_utf8 c) ≡ At Between
  character_octets e = by_range (legal_ranges c e)

one_of : (x y : Bool) → (x && y) ≡ true → (x ≡ true) × (y ≡ true)
one_of true y e = (refl, e)
one_of false y e = absurd (true≢false (sym e))

octets_all : (c : ℕ) (cs : List ℕ) → (characters.is_legal c ≡ true) × (list_all characters.is_legal cs ≡ true)
    → (list_all characters.is_legal cs ≡ true → octets (At Between) (encode_utf8_all cs) ≡ At Between)
    → octets (At Between) (encode_utf8 c ++ encode_utf8_all cs) ≡ At Between
octets_all c cs e ih = octets_append (encode_utf8 c) (encode_utf8_all cs) Between Between (character_octets c e.0) ∙ ih e.1

pub characters_octets : (cs : List ℕ) → list_all characters.is_legal cs ≡ true → octets (At Between) (encode_utf8_all cs) ≡ At Between
characters_octets [] e = refl
characters_octets (c ∷ cs) e = octets_all c cs (one_of (characters.is_legal c) (list_all characters.is_legal cs) e)
    (λ q. characters_octets cs q)
