-- What the machine reads as a reference is one of the grammar's, and its number a character of XML.
use Rattle.std.proofs.Common.{◌≡◌, ℕ, ◌<◌, ◌≤◌, Bool, true, false, cond, ◌||◌, ◌==◌, nat_lt, inl, inr, List, [], ◌∷◌, ◌++◌, refl, sym, ap}
use Rattle.std.proofs.Common.{◌∙◌, arith, true≢false}
use Rattle.std.proofs.lemmas.Bool.{eqb-true, ltb-true, ltb-false, le-leb}
use Rattle.ba_tree.specs.Characters as characters
use Rattle.ba_xml_reader.proofs.CompleteReferences.{refers}
use Rattle.ba_xml_reader.proofs.SoundReferences.{named_read, hash_read, HashRead}
use Rattle.ba_xml_words.specs.inside.References.{is_legal, started, lettered, referred}
use Rattle.ba_xml_grammar.specs.GrammarWords.{Reference, less, greater, ampersand, apostrophe, quotation, decimal, hexadecimal}
use Rattle.ba_xml_grammar.specs.GrammarWords.{reference_text, character_of, IsReference}
use Rattle.ba_xml_words.specs.declared.references.Entity.TheVariants as entity
use Rattle.ba_xml_words.specs.declared.references.Partial.{Partial}
use Rattle.ba_xml_words.specs.declared.references.Partial.TheVariants.{Nothing, LetterA, Named, Hash}
use Rattle.ba_xml_words.specs.declared.references.Referred.TheVariants.{Wrong, On, Meant}

or_right : (x y : Bool) → y ≡ true → (x || y) ≡ true
or_right true y e = refl
or_right false y e = e

or_left : (x y : Bool) → x ≡ true → (x || y) ≡ true
or_left x y e = rw e refl

within : (low high c : ℕ) → low ≤ c → c ≤ high → characters.is_within low high c ≡ true
within low high c l h = rw (le-leb low c l, le-leb c high h) refl

pub first : (c : ℕ) → 0x20 ≤ c → c ≤ 0xD7FF → characters.is_legal c ≡ true
first c l h = or_right ((c == 0x9 || c == 0xA) || c == 0xD) _ (or_left (characters.is_within 0x20 0xD7FF c) _ (within 0x20 0xD7FF c l h))

pub second : (c : ℕ) → 0xE000 ≤ c → c ≤ 0xFFFD → characters.is_legal c ≡ true
second c l h = or_right ((c == 0x9 || c == 0xA) || c == 0xD) _
    (or_right (characters.is_within 0x20 0xD7FF c) _ (or_left (characters.is_within 0xE000 0xFFFD c) _ (within 0xE000 0xFFFD c l h)))

pub third : (c : ℕ) → 0x10000 ≤ c → c ≤ 0x10FFFF → characters.is_legal c ≡ true
third c l h = or_right ((c == 0x9 || c == 0xA) || c == 0xD) _
    (or_right (characters.is_within 0x20 0xD7FF c) _ (or_right (characters.is_within 0xE000 0xFFFD c) _ (within 0x10000 0x10FFFF c l h)))

pub legal_back : (c : ℕ) → is_legal c ≡ true → characters.is_legal c ≡ true
legal_back c e = by (nat_lt c 32) (nat_lt c 0xD800) (nat_lt c 0xE000) (nat_lt c 0xFFFE) (nat_lt c 0x1_0000) (nat_lt c 0x11_0000) refl refl
    refl refl refl refl e
  where
    two : 32 ≤ c → c < 0xD800 → characters.is_legal c ≡ true
    two a b = first c a (omega (arith, b))

    four : 0xE000 ≤ c → c < 0xFFFE → characters.is_legal c ≡ true
    four a b = second c a (omega (arith, b))

    six : 0x10000 ≤ c → c < 0x11_0000 → characters.is_legal c ≡ true
    six a b = third c a (omega (arith, b))

    by : (control plain surrogate basic none all : Bool) → nat_lt c 32 ≡ control → nat_lt c 0xD800 ≡ plain → nat_lt c 0xE000 ≡ surrogate
        → nat_lt c 0xFFFE ≡ basic → nat_lt c 0x1_0000 ≡ none → nat_lt c 0x11_0000 ≡ all
        → cond control ((c == 9 || c == 10) || c == 13) (cond plain true (cond surrogate false (cond basic true (cond none false all))))
        ≡ true → characters.is_legal c ≡ true
    by true plain surrogate basic none all a b d f g h e = or_left ((c == 9 || c == 10) || c == 13) _ e
    by false true surrogate basic none all a b d f g h e = two (ltb-false c 32 a) (ltb-true c 0xD800 b)
    by false false true basic none all a b d f g h e = absurd (true≢false (sym e))
    by false false false true none all a b d f g h e = four (ltb-false c 0xE000 d) (ltb-true c 0xFFFE f)
    by false false false false true all a b d f g h e = absurd (true≢false (sym e))
    by false false false false false true a b d f g h e = six (ltb-false c 0x1_0000 g) (ltb-true c 0x11_0000 h)
    by false false false false false false a b d f g h e = absurd (true≢false (sym e))

-- ---- references

-- the bytes behind "&", up to and with ";", are those of a reference that means this character
abbrev pub IsRead : ℕ → List ℕ → Type 0
IsRead c cs = (r : Reference) × IsReference r × (cs ≡ reference_text r ++ 59 ∷ []) × (character_of r ≡ c)

wrong : (bs : List ℕ) (c : ℕ) → refers Wrong bs ≡ Meant c → ⊥
wrong [] c e = cc
wrong (b ∷ bs) c e = cc

on_end : (p : Partial) (c : ℕ) → On p ≡ Meant c → ⊥
on_end p c e = cc

headed : (b n : ℕ) (bs cs : List ℕ) → (b == n) ≡ true → bs ≡ cs → b ∷ bs ≡ n ∷ cs
headed b n bs cs e f = ap (λ x. x ∷ bs) (eqb-true b n e) ∙ ap (λ x. n ∷ x) f

lettered_read : (b c : ℕ) (bs : List ℕ) → refers (lettered b) bs ≡ Meant c → IsRead c (97 ∷ b ∷ bs)
lettered_read b c bs m = by (b == 109) (b == 112) refl refl m
  where
    by : (x y : Bool) → (b == 109) ≡ x → (b == 112) ≡ y
        → refers (cond x (On (Named entity.Ampersand 2)) (cond y (On (Named entity.Apostrophe 2)) Wrong)) bs ≡ Meant c
        → IsRead c (97 ∷ b ∷ bs)
    by true y e f m = (
      ampersand,
      tt,
      ap (λ x. 97 ∷ x) (headed b 109 bs (112 ∷ 59 ∷ []) e (named_read bs entity.Ampersand 2 c m).0),
      (named_read bs entity.Ampersand 2 c m).1,
    )
    by false true e f m = (
      apostrophe,
      tt,
      ap (λ x. 97 ∷ x)
          (headed b 112 bs (111 ∷ 115 ∷ 59 ∷ []) f (named_read bs entity.Apostrophe 2 c m).0),
      (named_read bs entity.Apostrophe 2 c m).1,
    )
    by false false e f m = absurd (wrong bs c m)

letter_step : (b : ℕ) → referred LetterA b ≡ lettered b
unfolding referred
letter_step b = refl

letter_read : (bs : List ℕ) (c : ℕ) → refers (On LetterA) bs ≡ Meant c → IsRead c (97 ∷ bs)
letter_read [] c m = absurd (on_end LetterA c m)
letter_read (b ∷ bs) c m = lettered_read b c bs (sym (ap (λ r. refers r bs) (letter_step b)) ∙ m)

hashed_read : (bs : List ℕ) (c : ℕ) → HashRead c bs → IsRead c (35 ∷ bs)
hashed_read bs c (inl n) = (decimal (n.0 ∷ n.1), (tt, n.2, (ap characters.is_legal n.5 ∙ legal_back c n.4)), ap (λ x. 35 ∷ x) n.3, n.5)
hashed_read bs c (inr h) = (
  hexadecimal (h.2.0 ∷ h.2.1),
  (tt, h.2.2, (ap characters.is_legal h.2.5 ∙ legal_back c h.2.4)),
  ap (λ x. 35 ∷ x) h.1 ∙ ap (λ x. 35 ∷ 120 ∷ x) h.2.3,
  h.2.5,
)

started_read : (b c : ℕ) (bs : List ℕ) → refers (started b) bs ≡ Meant c → IsRead c (b ∷ bs)
started_read b c bs m = by (b == 108) (b == 103) (b == 113) (b == 97) (b == 35) refl refl refl refl refl m
  where
    begun : (n : ℕ) → (b == n) ≡ true → IsRead c (n ∷ bs) → IsRead c (b ∷ bs)
    begun n e r = (r.0, r.1, ap (λ x. x ∷ bs) (eqb-true b n e) ∙ r.2, r.3)

    by : (l g q a h : Bool) → (b == 108) ≡ l → (b == 103) ≡ g → (b == 113) ≡ q → (b == 97) ≡ a → (b == 35) ≡ h
        → refers (cond l (On (Named entity.Less 1))
        (cond g (On (Named entity.Greater 1)) (cond q (On (Named entity.Quote 1)) (cond a (On LetterA) (cond h (On Hash) Wrong))))) bs
        ≡ Meant c → IsRead c (b ∷ bs)
    by true g q a h e1 e2 e3 e4 e5 m = (
      less,
      tt,
      headed b 108 bs (116 ∷ 59 ∷ []) e1 (named_read bs entity.Less 1 c m).0,
      (named_read bs entity.Less 1 c m).1,
    )
    by false true q a h e1 e2 e3 e4 e5 m = (
      greater,
      tt,
      headed b 103 bs (116 ∷ 59 ∷ []) e2 (named_read bs entity.Greater 1 c m).0,
      (named_read bs entity.Greater 1 c m).1,
    )
    by false false true a h e1 e2 e3 e4 e5 m = (
      quotation,
      tt,
      headed b 113 bs (117 ∷ 111 ∷ 116 ∷ 59 ∷ []) e3 (named_read bs entity.Quote 1 c m).0,
      (named_read bs entity.Quote 1 c m).1,
    )
    by false false false true h e1 e2 e3 e4 e5 m = begun 97 e4 (letter_read bs c m)
    by false false false false true e1 e2 e3 e4 e5 m = begun 35 e5 (hashed_read bs c (hash_read bs c m))
    by false false false false false e1 e2 e3 e4 e5 m = absurd (wrong bs c m)

nothing_step : (b : ℕ) → referred Nothing b ≡ started b
unfolding referred
nothing_step b = refl

pub reference_read : (cs : List ℕ) (c : ℕ) → refers (On Nothing) cs ≡ Meant c → IsRead c cs
reference_read [] c m = absurd (on_end Nothing c m)
reference_read (b ∷ bs) c m = started_read b c bs (sym (ap (λ r. refers r bs) (nothing_step b)) ∙ m)
