-- The machine over references: the five names, and numbers.
use Rattle.std.proofs.Common.{◌≡◌, ℕ, ◌+◌, ◌*◌, ◌<◌, ◌≤◌, Bool, true, false, ◌&&◌, ◌||◌, ◌==◌, ◌⊎◌, inl, inr, ⊎_elim, List, [], ◌∷◌, ◌++◌}
use Rattle.std.proofs.Common.{refl, sym, ap, ◌∙◌, subst, true≢false, arith, le_trans, le_refl}
use Rattle.std.proofs.Common.{le-ltb, nat_le}
use Rattle.std.proofs.lemmas.Bool.{lt-ltb, leb-true, eqb-true, ne_eqb}
use Rattle.std.specs.Char.{is_digit, digit_value}
use Rattle.ba_tree.specs.Characters as characters
use Rattle.ba_xml_reader.proofs.CompleteSteps.{steps, one}
use Rattle.ba_xml_reader.specs.inside.Machine.{state_after}
use Rattle.ba_xml_words.specs.inside.References.{referred, is_legal, number_on, hashed, with_digit}
use Rattle.ba_xml_grammar.specs.GrammarWords.{Each, Reference, reference_text, character_of, number_behind, IsNumber, IsReference}
use Rattle.ba_xml_grammar.specs.GrammarWords.{less, greater, ampersand, apostrophe, quotation, decimal, hexadecimal}
use Rattle.ba_xml_words.specs.declared.references.Radix.{Radix}
use Rattle.ba_xml_words.specs.declared.references.Radix.TheVariants.{Decimal, Hexadecimal}
use Rattle.ba_xml_words.specs.inside.References.{base_of}
use Rattle.ba_xml_words.specs.declared.references.Partial.{Partial}
use Rattle.ba_xml_words.specs.declared.references.Partial.TheVariants.{Nothing, Hash, HashX, Number}
use Rattle.ba_xml_words.specs.declared.references.Referred.{Referred}
use Rattle.ba_xml_words.specs.declared.references.Referred.TheVariants.{Wrong, On, Meant}
use Rattle.ba_xml_reader.specs.declared.states.State.{State}

-- a reference by itself, byte by byte
abbrev pub refers : Referred → List ℕ → Referred
refers r [] = r
refers Wrong (b ∷ bs) = Wrong
refers (Meant c) (b ∷ bs) = Wrong
refers (On p) (b ∷ bs) = refers (referred p b) bs

wrong : (bs : List ℕ) → refers Wrong bs ≡ Wrong
wrong [] = refl
wrong (b ∷ bs) = refl

module _ (s : Partial → State) (t : ℕ → State)
    (on : (p q : Partial) (b : ℕ) → referred p b ≡ On q → state_after (s p) b ≡ s q)
    (meant : (p : Partial) (b c : ℕ) → referred p b ≡ Meant c → state_after (s p) b ≡ t c) where
  Runs : List ℕ → Type 0
  Runs bs = (p : Partial) (c : ℕ) (rest : List ℕ) → refers (On p) bs ≡ Meant c → steps (s p) (bs ++ rest) ≡ steps (t c) rest

  by : (p : Partial) (b : ℕ) (bs : List ℕ) (c : ℕ) (rest : List ℕ) (r : Referred) → referred p b ≡ r → refers r bs ≡ Meant c
      → ((q : Partial) → refers (On q) bs ≡ Meant c → steps (s q) (bs ++ rest) ≡ steps (t c) rest)
      → steps (s p) (b ∷ (bs ++ rest)) ≡ steps (t c) rest
  by p b bs c rest Wrong e m ih = absurd (clash (sym (wrong bs) ∙ m))
    where
      clash : Wrong ≡ Meant c → ⊥
      clash e = cc
  by p b [] c rest (Meant d) e m ih = one (s p) (t c) b rest (meant p b c (e ∙ m))
  by p b (x ∷ bs) c rest (Meant d) e m ih = absurd (clash m)
    where
      clash : Wrong ≡ Meant c → ⊥
      clash e = cc
  by p b bs c rest (On q) e m ih = one (s p) (s q) b (bs ++ rest) (on p q b e) ∙ ih q m

  pub reference_runs : (bs : List ℕ) (p : Partial) (c : ℕ) (rest : List ℕ) → refers (On p) bs ≡ Meant c
      → steps (s p) (bs ++ rest) ≡ steps (t c) rest
  reference_runs [] p c rest m = absurd (clash m)
    where
      clash : On p ≡ Meant c → ⊥
      clash e = cc
  reference_runs (b ∷ bs) p c rest m = by p b bs c rest (referred p b) refl m (λ q n. reference_runs bs q c rest n)

-- ---- numbers

within : (low high c : ℕ) → characters.is_within low high c ≡ true → (low ≤ c) × (c ≤ high)
within low high c e = both (nat_le low c) (nat_le c high) refl refl e
  where
    both : (x y : Bool) → nat_le low c ≡ x → nat_le c high ≡ y → (x && y) ≡ true → (low ≤ c) × (c ≤ high)
    both true true p q e = (leb-true low c p, leb-true c high q)
    both true false p q e = absurd (true≢false (sym e))
    both false y p q e = absurd (true≢false (sym e))

either : (x y : Bool) → (x || y) ≡ true → (x ≡ true) ⊎ (y ≡ true)
either true y e = inl refl
either false y e = inr e

Legal : ℕ → Type 0
Legal c = (is_legal c ≡ true) × (c ≤ 0x10_FFFF)

low_legal : (c : ℕ) → ((c == 9 || c == 10) || c == 13) ≡ true → Legal c
unfolding Legal
low_legal c e = ⊎_elim (λ h. ⊎_elim (λ g. at 9 g (refl, arith_9)) (λ g. at 10 g (refl, arith_10)) (either (c == 9) (c == 10) h))
    (λ h. at 13 h (refl, arith_13)) (either (c == 9 || c == 10) (c == 13) e)
  where
    at : (n : ℕ) → (c == n) ≡ true → (is_legal n ≡ true) × (n ≤ 0x10_FFFF) → (is_legal c ≡ true) × (c ≤ 0x10_FFFF)
    at n g l = subst (λ x. (is_legal x ≡ true) × (x ≤ 0x10_FFFF)) (sym (eqb-true c n g)) l

    arith_9 : 9 ≤ 0x10_FFFF
    arith_9 = omega arith

    arith_10 : 10 ≤ 0x10_FFFF
    arith_10 = omega arith

    arith_13 : 13 ≤ 0x10_FFFF
    arith_13 = omega arith

first_legal : (c : ℕ) → 0x20 ≤ c → c ≤ 0xD7FF → Legal c
unfolding Legal
first_legal c l h = (rw (le-ltb c 32 l, lt-ltb c 0xD800 (omega arith)) refl, omega arith)

second_legal : (c : ℕ) → 0xE000 ≤ c → c ≤ 0xFFFD → Legal c
unfolding Legal
second_legal c l h = (
  rw (
    le-ltb c 32 (omega arith),
    le-ltb c 0xD800 (omega arith),
    le-ltb c 0xE000 l,
    lt-ltb c 0xFFFE (omega arith),
  ) refl,
  omega arith,
)

third_legal : (c : ℕ) → 0x10000 ≤ c → c ≤ 0x10FFFF → Legal c
unfolding Legal
third_legal c l h = (
  rw (
    le-ltb c 32 (omega arith),
    le-ltb c 0xD800 (omega arith),
    le-ltb c 0xE000 (omega arith),
    le-ltb c 0xFFFE (omega arith),
    le-ltb c 0x1_0000 l,
    lt-ltb c 0x11_0000 (omega arith),
  ) refl,
  h,
)

pub legal : (c : ℕ) → characters.is_legal c ≡ true → (is_legal c ≡ true) × (c ≤ 0x10_FFFF)
unfolding Legal
legal c e = ⊎_elim (low_legal c) (λ g. ⊎_elim (λ w. first_legal c (within 0x20 0xD7FF c w).0 (within 0x20 0xD7FF c w).1)
    (λ v. ⊎_elim (λ w. second_legal c (within 0xE000 0xFFFD c w).0 (within 0xE000 0xFFFD c w).1)
    (λ w. third_legal c (within 0x10000 0x10FFFF c w).0 (within 0x10000 0x10FFFF c w).1)
    (either (characters.is_within 0xE000 0xFFFD c) (characters.is_within 0x10000 0x10FFFF c) v))
    (either (characters.is_within 0x20 0xD7FF c) (characters.is_within 0xE000 0xFFFD c || characters.is_within 0x10000 0x10FFFF c) g))
    (either ((c == 0x9 || c == 0xA) || c == 0xD)
    (characters.is_within 0x20 0xD7FF c || (characters.is_within 0xE000 0xFFFD c || characters.is_within 0x10000 0x10FFFF c)) e)

-- the four ranges of characters
pub legal_ranges : (c : ℕ) → characters.is_legal c ≡ true
    → (c < 32) ⊎ (((32 ≤ c) × (c ≤ 0xD7FF)) ⊎ (((0xE000 ≤ c) × (c ≤ 0xFFFD)) ⊎ ((0x10000 ≤ c) × (c ≤ 0x10FFFF))))
legal_ranges c e = ⊎_elim (λ h. inl (low h)) (λ g. ⊎_elim (λ w. inr (inl (within 0x20 0xD7FF c w)))
    (λ v. ⊎_elim (λ w. inr (inr (inl (within 0xE000 0xFFFD c w)))) (λ w. inr (inr (inr (within 0x10000 0x10FFFF c w))))
    (either (characters.is_within 0xE000 0xFFFD c) (characters.is_within 0x10000 0x10FFFF c) v))
    (either (characters.is_within 0x20 0xD7FF c) (characters.is_within 0xE000 0xFFFD c || characters.is_within 0x10000 0x10FFFF c) g))
    (either ((c == 0x9 || c == 0xA) || c == 0xD)
    (characters.is_within 0x20 0xD7FF c || (characters.is_within 0xE000 0xFFFD c || characters.is_within 0x10000 0x10FFFF c)) e)
  where
    below : (n : ℕ) → n < 32 → (c == n) ≡ true → c < 32
    below n l g = subst (λ x. x < 32) (sym (eqb-true c n g)) l

    low : ((c == 0x9 || c == 0xA) || c == 0xD) ≡ true → c < 32
    low h = ⊎_elim (λ k. ⊎_elim (below 9 (omega arith)) (below 10 (omega arith)) (either (c == 9) (c == 10) k)) (below 13 (omega arith))
        (either (c == 9 || c == 10) (c == 13) h)

grows_one : (radix : Radix) (v d : ℕ) → v ≤ v * base_of radix + d
grows_one Decimal v d = omega arith
grows_one Hexadecimal v d = omega arith

grows : (radix : Radix) (v : ℕ) (ds : List ℕ) → v ≤ number_behind (base_of radix) v ds
grows radix v [] = le_refl v
grows radix v (d ∷ ds) = le_trans (grows_one radix v (digit_value d)) (grows radix (v * base_of radix + digit_value d) ds)

number_step : (radix : Radix) (v b : ℕ) → referred (Number radix v) b ≡ number_on radix v b
unfolding referred
number_step radix v b = refl

hash_step : (b : ℕ) → referred Hash b ≡ hashed b
unfolding referred
hash_step b = refl

hash_x_step : (b : ℕ) → referred HashX b ≡ with_digit Hexadecimal 0 b
unfolding referred
hash_x_step b = refl

hash_mark : referred Nothing 35 ≡ On Hash
unfolding referred
hash_mark = refl

x_mark : referred Hash 120 ≡ On HashX
unfolding referred
x_mark = refl

digit_on : (radix : Radix) (v d : ℕ) → is_digit d (base_of radix) ≡ true → v * base_of radix + digit_value d ≤ 0x10_FFFF
    → with_digit radix v d ≡ On (Number radix (v * base_of radix + digit_value d))
digit_on radix v d e h = rw (e, le-ltb 0x10_FFFF (v * base_of radix + digit_value d) h) refl

other_than : (n d : ℕ) (base : ℕ) → is_digit n base ≡ false → is_digit d base ≡ true → (d == n) ≡ false
other_than n d base out e = ne_eqb d n (λ same. true≢false (sym e ∙ ap (λ x. is_digit x base) same ∙ out))

no_semicolon : (radix : Radix) → is_digit 59 (base_of radix) ≡ false
no_semicolon Decimal = refl
no_semicolon Hexadecimal = refl

number_follows : (radix : Radix) (v : ℕ) (ds : List ℕ) → Each (λ d. is_digit d (base_of radix)) ds
    → characters.is_legal (number_behind (base_of radix) v ds) ≡ true
    → refers (On (Number radix v)) (ds ++ 59 ∷ []) ≡ Meant (number_behind (base_of radix) v ds)
number_follows radix v [] e l = number_step radix v 59 ∙ (rw ((legal v l).0) refl)
number_follows radix v (d ∷ ds) e l = ap (λ r. refers r (ds ++ 59 ∷ [])) (number_step radix v d ∙ digit_step)
    ∙ number_follows radix (v * base_of radix + digit_value d) ds e.1 l
  where
    digit_step : number_on radix v d ≡ On (Number radix (v * base_of radix + digit_value d))
    digit_step = rw (other_than 59 d (base_of radix) (no_semicolon radix) e.0)
        (digit_on radix v d e.0 (le_trans (grows radix (v * base_of radix + digit_value d) ds)
        (legal (number_behind (base_of radix) v (d ∷ ds)) l).1))

first_digit : (radix : Radix) (d : ℕ) (ds : List ℕ) → is_digit d (base_of radix) ≡ true
    → characters.is_legal (number_behind (base_of radix) 0 (d ∷ ds)) ≡ true
    → with_digit radix 0 d ≡ On (Number radix (0 * base_of radix + digit_value d))
first_digit radix d ds e l = digit_on radix 0 d e
    (le_trans (grows radix (0 * base_of radix + digit_value d) ds) (legal (number_behind (base_of radix) 0 (d ∷ ds)) l).1)

decimal_follows : (ds : List ℕ) → IsNumber 10 ds → refers (On Nothing) (35 ∷ (ds ++ 59 ∷ [])) ≡ Meant (number_behind 10 0 ds)
decimal_follows [] n = absurd n.0
decimal_follows (d ∷ ds) n = ap (λ r. refers r (d ∷ (ds ++ 59 ∷ []))) hash_mark
    ∙ ap (λ r. refers r (ds ++ 59 ∷ [])) (hash_step d ∙ (rw (other_than 120 d 10 refl n.1.0) (first_digit Decimal d ds n.1.0 n.2)))
    ∙ number_follows Decimal (0 * 10 + digit_value d) ds n.1.1 n.2

hexadecimal_follows : (ds : List ℕ) → IsNumber 16 ds → refers (On Nothing) (35 ∷ 120 ∷ (ds ++ 59 ∷ [])) ≡ Meant (number_behind 16 0 ds)
hexadecimal_follows [] n = absurd n.0
hexadecimal_follows (d ∷ ds) n = ap (λ r. refers r (120 ∷ d ∷ (ds ++ 59 ∷ []))) hash_mark ∙ ap (λ r. refers r (d ∷ (ds ++ 59 ∷ []))) x_mark
    ∙ ap (λ r. refers r (ds ++ 59 ∷ [])) (hash_x_step d ∙ first_digit Hexadecimal d ds n.1.0 n.2)
    ∙ number_follows Hexadecimal (0 * 16 + digit_value d) ds n.1.1 n.2

-- each reference means its character
pub follows : (r : Reference) → IsReference r → refers (On Nothing) (reference_text r ++ 59 ∷ []) ≡ Meant (character_of r)
unfolding referred
follows less i = refl
follows greater i = refl
follows ampersand i = refl
follows apostrophe i = refl
follows quotation i = refl
follows (decimal ds) i = decimal_follows ds i
follows (hexadecimal ds) i = hexadecimal_follows ds i
