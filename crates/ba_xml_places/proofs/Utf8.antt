-- Bytes that the machine passes as UTF-8 are UTF-8, and what it breaks at U+FFFE and U+FFFF is too.
use Rattle.std.proofs.Common.{◌≡◌, ℕ, ◌<◌, ◌≤◌, Bool, true, false, cond, ◌==◌, nat_lt, ◌⊎◌, inl, inr, List, [], ◌∷◌, ◌++◌, IsUtf8}
use Rattle.std.proofs.Common.{refl, sym, ap, subst, ◌∙◌, arith, append_assoc, append-nil, true≢false, eq-eqb}
use Rattle.std.proofs.lemmas.Bool.{ltb-true, ltb-false, eqb-true, and_parts}
use Rattle.std.proofs.lemmas.Bool.Decides.{nat_tests}
use Rattle.std.proofs.lemmas.Str.{IsUtf8-append, IsUtf8-from_is_utf8}
use Rattle.std.specs.Char.{encode_utf8}
use Rattle.std.specs.Str.{all_scalars, is_utf8}
use Rattle.ba_xml_places.proofs.Octets.{low_was, low_between}
use Rattle.ba_xml_reader.proofs.CompleteCharacters.{octets, octets_append, encoded_one}
use Rattle.ba_xml_reader.proofs.ReadLegal.{legal}
use Rattle.ba_xml_reader.proofs.SoundCharacters.{AreLow, broken, same_octet}
use Rattle.ba_xml_words.specs.inside.Octets.{octet_after, followed, lead, lead_of_three, lead_of_four}
use Rattle.ba_xml_words.specs.declared.faults.Reason.{Reason}
use Rattle.ba_xml_words.specs.declared.faults.Reason.TheVariants.{NotUtf8, Syntax, Truncated}
use Rattle.ba_xml_words.specs.declared.octets.Decoding.{Decoding}
use Rattle.ba_xml_words.specs.declared.octets.Decoding.TheVariants.{At, Broken}
use Rattle.ba_xml_words.specs.declared.octets.Octet.{Octet}
use Rattle.ba_xml_words.specs.declared.octets.Octet.TheVariants.{Between, One, Two, Three, AfterE0, AfterED, AfterEF, AfterEFBF, AfterF0}
use Rattle.ba_xml_words.specs.declared.octets.Octet.TheVariants.{AfterF4}

-- ---- bytes that are passed

low_scalar : (b : ℕ) → b < 128 → all_scalars (b ∷ []) ≡ true
low_scalar b h = grind (arith, nat_tests)

low_utf8 : (b : ℕ) → b < 128 → IsUtf8 (b ∷ [])
low_utf8 b h = (b ∷ [], (low_scalar b h, ap (λ x. x ++ []) (encoded_one b h)))

legal_utf8 : (bytes : List ℕ) → AreLow bytes → octets (At Between) bytes ≡ At Between → IsUtf8 bytes
legal_utf8 bytes low e = IsUtf8-from_is_utf8 bytes (and_parts (is_utf8 bytes) _ (legal bytes (low, e))).0

low_more : (bs : List ℕ) (b : ℕ) → AreLow bs → 128 ≤ b → AreLow (bs ++ b ∷ [])
low_more [] b l h = ((λ k. absurd (no k)), tt)
  where
    no : b < 128 → ⊥
    no k = omega (arith, h, k)
low_more (x ∷ xs) b l h = (l.0, low_more xs b l.1 h)

one_more : (front : List ℕ) (b : ℕ) (o p : Octet) → octets (At Between) front ≡ At o → octet_after o b ≡ At p
    → octets (At Between) (front ++ b ∷ []) ≡ At p
one_more front b o p e f = octets_append front (b ∷ []) Between o e ∙ f

-- behind bytes of a character of which each is 80 or more
abbrev Passed : List ℕ → Type 0
Passed bs = (front : List ℕ) (o : Octet) → AreLow front → octets (At Between) front ≡ At o → octets (At o) bs ≡ At Between
    → IsUtf8 (front ++ bs)

passed_end : Passed []
passed_end front o l e f = subst (λ x. IsUtf8 x) (sym (append-nil front)) (legal_utf8 front l (e ∙ f))

passed_low : (b : ℕ) (bs : List ℕ) → Passed bs → b < 128 → (front : List ℕ) (o p : Octet) → AreLow front → octets (At Between) front ≡ At o
    → octet_after o b ≡ At p → octets (At p) bs ≡ At Between → IsUtf8 (front ++ b ∷ bs)
passed_low b bs ih h front o p l e f g = IsUtf8-append front (b ∷ bs)
    (legal_utf8 front l (e ∙ ap (λ x. At x) (low_was o p b h f)))
    (IsUtf8-append (b ∷ []) bs (low_utf8 b h) (ih [] Between tt refl (ap (λ x. octets (At x) bs) (sym (low_between o p b h f)) ∙ g)))

passed_high : (b : ℕ) (bs : List ℕ) → Passed bs → 128 ≤ b → (front : List ℕ) (o p : Octet) → AreLow front → octets (At Between) front ≡ At o
    → octet_after o b ≡ At p → octets (At p) bs ≡ At Between → IsUtf8 (front ++ b ∷ bs)
passed_high b bs ih h front o p l e f g = subst (λ x. IsUtf8 x) (append_assoc front (b ∷ []) bs)
    (ih (front ++ b ∷ []) p (low_more front b l h) (one_more front b o p e f) g)

passed_more : (b : ℕ) (bs : List ℕ) → Passed bs → Passed (b ∷ bs)
passed_more b bs ih front o l e f = by (octet_after o b) refl f
  where
    split : (p : Octet) (q : Bool) → nat_lt b 128 ≡ q → octet_after o b ≡ At p → octets (At p) bs ≡ At Between → IsUtf8 (front ++ b ∷ bs)
    split p true q g h = passed_low b bs ih (ltb-true b 128 q) front o p l e g h
    split p false q g h = passed_high b bs ih (ltb-false b 128 q) front o p l e g h

    by : (d : Decoding) → octet_after o b ≡ d → octets d bs ≡ At Between → IsUtf8 (front ++ b ∷ bs)
    by (Broken r) g h = absurd (broken r bs Between h)
    by (At p) g h = split p (nat_lt b 128) refl g h

passed : (bs : List ℕ) → Passed bs
passed [] = passed_end
passed (b ∷ bs) = passed_more b bs (passed bs)

pub passed_utf8 : (bytes : List ℕ) → octets (At Between) bytes ≡ At Between → IsUtf8 bytes
passed_utf8 bytes e = passed bytes [] Between tt refl e

-- ---- where EF BF stands

abbrev place : Octet → ℕ
place Between = 0
place One = 1
place Two = 2
place Three = 3
place AfterE0 = 4
place AfterED = 5
place AfterEF = 6
place AfterEFBF = 7
place AfterF0 = 8
place AfterF4 = 9

apart : (o p : Octet) → (place o == place p) ≡ false → At o ≡ At p → ⊥
apart o p f e = true≢false (sym (eq-eqb (place o) (place p) (ap place (same_octet o p e))) ∙ f)

not_broken : (r : Reason) (p : Octet) → Broken r ≡ At p → ⊥
not_broken r p e = cc

followed_apart : (b least most : ℕ) (o p : Octet) → (place o == place p) ≡ false → followed b least most o ≡ At p → ⊥
followed_apart b least most o p f e = by (nat_lt b least) (nat_lt most b) e
  where
    by : (x y : Bool) → cond x (Broken NotUtf8) (cond y (Broken NotUtf8) (At o)) ≡ At p → ⊥
    by true y e = not_broken NotUtf8 p e
    by false true e = not_broken NotUtf8 p e
    by false false e = apart o p f e

abbrev IsLeadOf : Octet → ℕ → ℕ → Type 0
IsLeadOf p n b = lead b ≡ At p → b ≡ n

-- the bytes of which each leads there
lead_only : (b : ℕ) → IsLeadOf AfterEF 0xEF b
unfolding lead
lead_only b e = by (nat_lt b 0x80) (nat_lt b 0xC2) (nat_lt b 0xE0) (nat_lt b 0xF0) e
  where
    three : (x y z : Bool) → (b == 0xEF) ≡ z → At (cond x AfterE0 (cond y AfterED (cond z AfterEF Two))) ≡ At AfterEF → b ≡ 0xEF
    three true y z q e = absurd (apart AfterE0 AfterEF refl e)
    three false true z q e = absurd (apart AfterED AfterEF refl e)
    three false false true q e = eqb-true b 0xEF q
    three false false false q e = absurd (apart Two AfterEF refl e)

    four : (x y z : Bool) → cond x (At AfterF0) (cond y (At Three) (cond z (At AfterF4) (Broken NotUtf8))) ≡ At AfterEF → b ≡ 0xEF
    four true y z e = absurd (apart AfterF0 AfterEF refl e)
    four false true z e = absurd (apart Three AfterEF refl e)
    four false false true e = absurd (apart AfterF4 AfterEF refl e)
    four false false false e = absurd (not_broken NotUtf8 AfterEF e)

    by : (x y z w : Bool)
        → cond x (At Between) (cond y (Broken NotUtf8) (cond z (At One) (cond w (At (lead_of_three b)) (lead_of_four b)))) ≡ At AfterEF
        → b ≡ 0xEF
    by true y z w e = absurd (apart Between AfterEF refl e)
    by false true z w e = absurd (not_broken NotUtf8 AfterEF e)
    by false false true w e = absurd (apart One AfterEF refl e)
    by false false false true e = three (b == 0xE0) (b == 0xED) (b == 0xEF) refl e
    by false false false false e = four (b == 0xF0) (nat_lt b 0xF4) (b == 0xF4) e

lead_never : (b : ℕ) → lead b ≡ At AfterEFBF → ⊥
unfolding lead
lead_never b e = by (nat_lt b 0x80) (nat_lt b 0xC2) (nat_lt b 0xE0) (nat_lt b 0xF0) e
  where
    three : (x y z : Bool) → At (cond x AfterE0 (cond y AfterED (cond z AfterEF Two))) ≡ At AfterEFBF → ⊥
    three true y z e = apart AfterE0 AfterEFBF refl e
    three false true z e = apart AfterED AfterEFBF refl e
    three false false true e = apart AfterEF AfterEFBF refl e
    three false false false e = apart Two AfterEFBF refl e

    four : (x y z : Bool) → cond x (At AfterF0) (cond y (At Three) (cond z (At AfterF4) (Broken NotUtf8))) ≡ At AfterEFBF → ⊥
    four true y z e = apart AfterF0 AfterEFBF refl e
    four false true z e = apart Three AfterEFBF refl e
    four false false true e = apart AfterF4 AfterEFBF refl e
    four false false false e = not_broken NotUtf8 AfterEFBF e

    by : (x y z w : Bool)
        → cond x (At Between) (cond y (Broken NotUtf8) (cond z (At One) (cond w (At (lead_of_three b)) (lead_of_four b)))) ≡ At AfterEFBF
        → ⊥
    by true y z w e = apart Between AfterEFBF refl e
    by false true z w e = not_broken NotUtf8 AfterEFBF e
    by false false true w e = apart One AfterEFBF refl e
    by false false false true e = three (b == 0xE0) (b == 0xED) (b == 0xEF) e
    by false false false false e = four (b == 0xF0) (nat_lt b 0xF4) (b == 0xF4) e

last_apart : (b : ℕ) (p : Octet) → (place Between == place p) ≡ false
    → cond (b == 0xBE) (Broken Syntax) (cond (b == 0xBF) (Broken Syntax) (followed b 0x80 0xBD Between)) ≡ At p → ⊥
last_apart b p f e = by (b == 0xBE) (b == 0xBF) e
  where
    by : (x y : Bool) → cond x (Broken Syntax) (cond y (Broken Syntax) (followed b 0x80 0xBD Between)) ≡ At p → ⊥
    by true y e = not_broken Syntax p e
    by false true e = not_broken Syntax p e
    by false false e = followed_apart b 0x80 0xBD Between p f e

third_only : (b : ℕ) → cond (b == 0xBF) (At AfterEFBF) (followed b 0x80 0xBE One) ≡ At AfterEFBF → b ≡ 0xBF
third_only b e = by (b == 0xBF) refl e
  where
    by : (x : Bool) → (b == 0xBF) ≡ x → cond x (At AfterEFBF) (followed b 0x80 0xBE One) ≡ At AfterEFBF → b ≡ 0xBF
    by true q e = eqb-true b 0xBF q
    by false q e = absurd (followed_apart b 0x80 0xBE One AfterEFBF refl e)

third_never : (b : ℕ) → cond (b == 0xBF) (At AfterEFBF) (followed b 0x80 0xBE One) ≡ At AfterEF → ⊥
third_never b e = by (b == 0xBF) e
  where
    by : (x : Bool) → cond x (At AfterEFBF) (followed b 0x80 0xBE One) ≡ At AfterEF → ⊥
    by true e = apart AfterEFBF AfterEF refl e
    by false e = followed_apart b 0x80 0xBE One AfterEF refl e

-- EF alone leads to where EF stands
to_EF : (o : Octet) (b : ℕ) → octet_after o b ≡ At AfterEF → (o ≡ Between) × (b ≡ 0xEF)
unfolding octet_after
to_EF Between b e = (refl, lead_only b e)
to_EF One b e = absurd (followed_apart b 0x80 0xBF Between AfterEF refl e)
to_EF Two b e = absurd (followed_apart b 0x80 0xBF One AfterEF refl e)
to_EF Three b e = absurd (followed_apart b 0x80 0xBF Two AfterEF refl e)
to_EF AfterE0 b e = absurd (followed_apart b 0xA0 0xBF One AfterEF refl e)
to_EF AfterED b e = absurd (followed_apart b 0x80 0x9F One AfterEF refl e)
to_EF AfterEF b e = absurd (third_never b e)
to_EF AfterEFBF b e = absurd (last_apart b AfterEF refl e)
to_EF AfterF0 b e = absurd (followed_apart b 0x90 0xBF Two AfterEF refl e)
to_EF AfterF4 b e = absurd (followed_apart b 0x80 0x8F Two AfterEF refl e)

-- and BF behind it to where EF BF stands
to_EFBF : (o : Octet) (b : ℕ) → octet_after o b ≡ At AfterEFBF → (o ≡ AfterEF) × (b ≡ 0xBF)
unfolding octet_after
to_EFBF Between b e = absurd (lead_never b e)
to_EFBF One b e = absurd (followed_apart b 0x80 0xBF Between AfterEFBF refl e)
to_EFBF Two b e = absurd (followed_apart b 0x80 0xBF One AfterEFBF refl e)
to_EFBF Three b e = absurd (followed_apart b 0x80 0xBF Two AfterEFBF refl e)
to_EFBF AfterE0 b e = absurd (followed_apart b 0xA0 0xBF One AfterEFBF refl e)
to_EFBF AfterED b e = absurd (followed_apart b 0x80 0x9F One AfterEFBF refl e)
to_EFBF AfterEF b e = (refl, third_only b e)
to_EFBF AfterEFBF b e = absurd (last_apart b AfterEFBF refl e)
to_EFBF AfterF0 b e = absurd (followed_apart b 0x90 0xBF Two AfterEFBF refl e)
to_EFBF AfterF4 b e = absurd (followed_apart b 0x80 0x8F Two AfterEFBF refl e)

-- ---- the bytes before EF, and before EF BF

abbrev BeforeEF : List ℕ → Octet → Type 0
BeforeEF bs o = (front : List ℕ) × (bs ≡ front ++ 0xEF ∷ []) × (octets (At o) front ≡ At Between)

abbrev BeforeEFBF : List ℕ → Octet → Type 0
BeforeEFBF bs o = (front : List ℕ) × (bs ≡ front ++ 0xEF ∷ 0xBF ∷ []) × (octets (At o) front ≡ At Between)

-- one byte more in front
more_EF : (b : ℕ) (bs : List ℕ) (o p : Octet) → octet_after o b ≡ At p → BeforeEF bs p → BeforeEF (b ∷ bs) o
more_EF b bs o p e r = (b ∷ r.0, ap (λ x. b ∷ x) r.1, ap (λ d. octets d r.0) e ∙ r.2)

more_EFBF : (b : ℕ) (bs : List ℕ) (o p : Octet) → octet_after o b ≡ At p → BeforeEFBF bs p → BeforeEFBF (b ∷ bs) o
more_EFBF b bs o p e r = (b ∷ r.0, ap (λ x. b ∷ x) r.1, ap (λ d. octets d r.0) e ∙ r.2)

-- from AfterEF back: nothing, or EF at the end
to_end : (bs : List ℕ) (o : Octet) → octets (At o) bs ≡ At AfterEF → ((bs ≡ []) × (o ≡ AfterEF)) ⊎ BeforeEF bs o
to_end [] o e = inl (refl, same_octet o AfterEF e)
to_end (b ∷ bs) o e = by (λ p f. to_end bs p f) (octet_after o b) refl e
  where
    last : (p : Octet) → octet_after o b ≡ At p → ((bs ≡ []) × (p ≡ AfterEF)) ⊎ BeforeEF bs p → ((b ∷ bs ≡ []) × (o ≡ AfterEF))
        ⊎ BeforeEF (b ∷ bs) o
    last p g (inl r) =
        let t = to_EF o b (g ∙ ap (λ x. At x) r.1) in
        inr ([], ap (λ x. b ∷ x) r.0 ∙ ap (λ x. x ∷ []) t.1, ap (λ x. At x) t.0)
    last p g (inr r) = inr (more_EF b bs o p g r)

    by : ((p : Octet) → octets (At p) bs ≡ At AfterEF → ((bs ≡ []) × (p ≡ AfterEF)) ⊎ BeforeEF bs p) → (d : Decoding) → octet_after o b ≡ d
        → octets d bs ≡ At AfterEF → ((b ∷ bs ≡ []) × (o ≡ AfterEF)) ⊎ BeforeEF (b ∷ bs) o
    by ih (Broken r) g h = absurd (broken r bs AfterEF h)
    by ih (At p) g h = last p g (ih p h)

-- from AfterEFBF back: nothing, or BF behind EF
abbrev EndsEFBF : List ℕ → Octet → Type 0
EndsEFBF bs o = ((bs ≡ []) × (o ≡ AfterEFBF)) ⊎ (((bs ≡ 0xBF ∷ []) × (o ≡ AfterEF)) ⊎ BeforeEFBF bs o)

to_end_more : (b : ℕ) (bs : List ℕ) (o p : Octet) → octet_after o b ≡ At p → EndsEFBF bs p → EndsEFBF (b ∷ bs) o
to_end_more b bs o p g (inl r) =
    let t = to_EFBF o b (g ∙ ap (λ x. At x) r.1) in
    inr (inl (ap (λ x. b ∷ x) r.0 ∙ ap (λ x. x ∷ []) t.1, t.0))
to_end_more b bs o p g (inr (inl r)) =
    let t = to_EF o b (g ∙ ap (λ x. At x) r.1) in
    inr (inr ([], ap (λ x. b ∷ x) r.0 ∙ ap (λ x. x ∷ 0xBF ∷ []) t.1, ap (λ x. At x) t.0))
to_end_more b bs o p g (inr (inr r)) = inr (inr (more_EFBF b bs o p g r))

to_both : (bs : List ℕ) (o : Octet) → octets (At o) bs ≡ At AfterEFBF → EndsEFBF bs o
to_both [] o e = inl (refl, same_octet o AfterEFBF e)
to_both (b ∷ bs) o e = by (λ p f. to_both bs p f) (octet_after o b) refl e
  where
    by : ((p : Octet) → octets (At p) bs ≡ At AfterEFBF → EndsEFBF bs p) → (d : Decoding) → octet_after o b ≡ d
        → octets d bs ≡ At AfterEFBF → EndsEFBF (b ∷ bs) o
    by ih (Broken r) g h = absurd (broken r bs AfterEFBF h)
    by ih (At p) g h = to_end_more b bs o p g (ih p h)

before_both : (bs : List ℕ) → octets (At Between) bs ≡ At AfterEFBF → BeforeEFBF bs Between
before_both bs e = by (to_both bs Between e)
  where
    by : EndsEFBF bs Between → BeforeEFBF bs Between
    by (inl r) = absurd (apart Between AfterEFBF refl (ap (λ x. At x) r.1))
    by (inr (inl r)) = absurd (apart Between AfterEF refl (ap (λ x. At x) r.1))
    by (inr (inr r)) = r

-- ---- U+FFFE and U+FFFF

last_two : IsUtf8 (0xEF ∷ 0xBF ∷ 0xBE ∷ [])
unfolding encode_utf8
last_two = (0xFFFE ∷ [], (refl, refl))

last_one : IsUtf8 (0xEF ∷ 0xBF ∷ 0xBF ∷ [])
unfolding encode_utf8
last_one = (0xFFFF ∷ [], (refl, refl))

-- the machine breaks for another reason than UTF-8 at these alone
abbrev IsLast : Octet → ℕ → Type 0
IsLast o b = (o ≡ AfterEFBF) × IsUtf8 (0xEF ∷ 0xBF ∷ b ∷ [])

not_syntax : NotUtf8 ≡ Syntax → ⊥
not_syntax e = cc

broken_reason : (r x : Reason) → Broken r ≡ Broken x → r ≡ x
broken_reason r x e = cc

no_syntax : Broken NotUtf8 ≡ Broken Syntax → ⊥
no_syntax e = not_syntax (broken_reason NotUtf8 Syntax e)

at_syntax : (p : Octet) → At p ≡ Broken Syntax → ⊥
at_syntax p e = cc

followed_syntax : (b least most : ℕ) (o : Octet) → followed b least most o ≡ Broken Syntax → ⊥
followed_syntax b least most o e = by (nat_lt b least) (nat_lt most b) e
  where
    by : (x y : Bool) → cond x (Broken NotUtf8) (cond y (Broken NotUtf8) (At o)) ≡ Broken Syntax → ⊥
    by true y e = no_syntax e
    by false true e = no_syntax e
    by false false e = at_syntax o e

lead_syntax : (b : ℕ) → lead b ≡ Broken Syntax → ⊥
unfolding lead
lead_syntax b e = by (nat_lt b 0x80) (nat_lt b 0xC2) (nat_lt b 0xE0) (nat_lt b 0xF0) e
  where
    four : (x y z : Bool) → cond x (At AfterF0) (cond y (At Three) (cond z (At AfterF4) (Broken NotUtf8))) ≡ Broken Syntax → ⊥
    four true y z e = at_syntax AfterF0 e
    four false true z e = at_syntax Three e
    four false false true e = at_syntax AfterF4 e
    four false false false e = no_syntax e

    by : (x y z w : Bool)
        → cond x (At Between) (cond y (Broken NotUtf8) (cond z (At One) (cond w (At (lead_of_three b)) (lead_of_four b)))) ≡ Broken Syntax
        → ⊥
    by true y z w e = at_syntax Between e
    by false true z w e = no_syntax e
    by false false true w e = at_syntax One e
    by false false false true e = at_syntax (lead_of_three b) e
    by false false false false e = four (b == 0xF0) (nat_lt b 0xF4) (b == 0xF4) e

third_syntax : (b : ℕ) → cond (b == 0xBF) (At AfterEFBF) (followed b 0x80 0xBE One) ≡ Broken Syntax → ⊥
third_syntax b e = by (b == 0xBF) e
  where
    by : (x : Bool) → cond x (At AfterEFBF) (followed b 0x80 0xBE One) ≡ Broken Syntax → ⊥
    by true e = at_syntax AfterEFBF e
    by false e = followed_syntax b 0x80 0xBE One e

last_syntax : (b : ℕ) → cond (b == 0xBE) (Broken Syntax) (cond (b == 0xBF) (Broken Syntax) (followed b 0x80 0xBD Between)) ≡ Broken Syntax
    → IsLast AfterEFBF b
last_syntax b e = by (b == 0xBE) (b == 0xBF) refl refl e
  where
    by : (x y : Bool) → (b == 0xBE) ≡ x → (b == 0xBF) ≡ y
        → cond x (Broken Syntax) (cond y (Broken Syntax) (followed b 0x80 0xBD Between)) ≡ Broken Syntax
        → IsLast AfterEFBF b
    by true y p q e = (refl, subst (λ n. IsUtf8 (0xEF ∷ 0xBF ∷ n ∷ [])) (sym (eqb-true b 0xBE p)) last_two)
    by false true p q e = (refl, subst (λ n. IsUtf8 (0xEF ∷ 0xBF ∷ n ∷ [])) (sym (eqb-true b 0xBF q)) last_one)
    by false false p q e = absurd (followed_syntax b 0x80 0xBD Between e)

broken_syntax : (o : Octet) (b : ℕ) → octet_after o b ≡ Broken Syntax → IsLast o b
unfolding octet_after
broken_syntax Between b e = absurd (lead_syntax b e)
broken_syntax One b e = absurd (followed_syntax b 0x80 0xBF Between e)
broken_syntax Two b e = absurd (followed_syntax b 0x80 0xBF One e)
broken_syntax Three b e = absurd (followed_syntax b 0x80 0xBF Two e)
broken_syntax AfterE0 b e = absurd (followed_syntax b 0xA0 0xBF One e)
broken_syntax AfterED b e = absurd (followed_syntax b 0x80 0x9F One e)
broken_syntax AfterEF b e = absurd (third_syntax b e)
broken_syntax AfterEFBF b e = last_syntax b e
broken_syntax AfterF0 b e = absurd (followed_syntax b 0x90 0xBF Two e)
broken_syntax AfterF4 b e = absurd (followed_syntax b 0x80 0x8F Two e)

-- bytes that are broken so are UTF-8
pub syntax_utf8 : (bs : List ℕ) (o : Octet) (b : ℕ) → octets (At Between) bs ≡ At o → octet_after o b ≡ Broken Syntax
    → IsUtf8 (bs ++ b ∷ [])
syntax_utf8 bs o b e f =
    let l = broken_syntax o b f in
    let r = before_both bs (e ∙ ap (λ x. At x) l.0) in
    subst (λ x. IsUtf8 x) (sym (ap (λ x. x ++ b ∷ []) r.1 ∙ append_assoc r.0 (0xEF ∷ 0xBF ∷ []) (b ∷ [])))
    (IsUtf8-append r.0 (0xEF ∷ 0xBF ∷ b ∷ []) (passed_utf8 r.0 r.2) l.1)

-- ---- no byte is broken as an early end

-- for UTF-8, or for the characters of XML
abbrev pub IsOfOctets : Decoding → Type 0
IsOfOctets (Broken NotUtf8) = Unit {0}
IsOfOctets (Broken Syntax) = Unit {0}
IsOfOctets (Broken _) = ⊥
IsOfOctets (At o) = Unit {0}

followed_octets : (b least most : ℕ) (o : Octet) → IsOfOctets (followed b least most o)
followed_octets b least most o = by (nat_lt b least) (nat_lt most b)
  where
    by : (x y : Bool) → IsOfOctets (cond x (Broken NotUtf8) (cond y (Broken NotUtf8) (At o)))
    by true y = tt
    by false true = tt
    by false false = tt

lead_octets : (b : ℕ) → IsOfOctets (lead b)
unfolding lead
lead_octets b = by (nat_lt b 0x80) (nat_lt b 0xC2) (nat_lt b 0xE0) (nat_lt b 0xF0)
  where
    four : (x y z : Bool) → IsOfOctets (cond x (At AfterF0) (cond y (At Three) (cond z (At AfterF4) (Broken NotUtf8))))
    four true y z = tt
    four false true z = tt
    four false false true = tt
    four false false false = tt

    by : (x y z w : Bool)
        → IsOfOctets (cond x (At Between) (cond y (Broken NotUtf8) (cond z (At One) (cond w (At (lead_of_three b)) (lead_of_four b)))))
    by true y z w = tt
    by false true z w = tt
    by false false true w = tt
    by false false false true = tt
    by false false false false = four (b == 0xF0) (nat_lt b 0xF4) (b == 0xF4)

third_octets : (b : ℕ) → IsOfOctets (cond (b == 0xBF) (At AfterEFBF) (followed b 0x80 0xBE One))
third_octets b = by (b == 0xBF)
  where
    by : (x : Bool) → IsOfOctets (cond x (At AfterEFBF) (followed b 0x80 0xBE One))
    by true = tt
    by false = followed_octets b 0x80 0xBE One

last_octets : (b : ℕ) → IsOfOctets (cond (b == 0xBE) (Broken Syntax) (cond (b == 0xBF) (Broken Syntax) (followed b 0x80 0xBD Between)))
last_octets b = by (b == 0xBE) (b == 0xBF)
  where
    by : (x y : Bool) → IsOfOctets (cond x (Broken Syntax) (cond y (Broken Syntax) (followed b 0x80 0xBD Between)))
    by true y = tt
    by false true = tt
    by false false = followed_octets b 0x80 0xBD Between

pub of_octets : (o : Octet) (b : ℕ) → IsOfOctets (octet_after o b)
unfolding octet_after
of_octets Between b = lead_octets b
of_octets One b = followed_octets b 0x80 0xBF Between
of_octets Two b = followed_octets b 0x80 0xBF One
of_octets Three b = followed_octets b 0x80 0xBF Two
of_octets AfterE0 b = followed_octets b 0xA0 0xBF One
of_octets AfterED b = followed_octets b 0x80 0x9F One
of_octets AfterEF b = third_octets b
of_octets AfterEFBF b = last_octets b
of_octets AfterF0 b = followed_octets b 0x90 0xBF Two
of_octets AfterF4 b = followed_octets b 0x80 0x8F Two

pub no_early : (o : Octet) (b : ℕ) → octet_after o b ≡ Broken Truncated → ⊥
no_early o b e = subst (λ d. IsOfOctets d) e (of_octets o b)
