-- What is read is of characters: the raw bytes of a document are the UTF-8 of legal ones.
use Rattle.std.proofs.Common.{◌≡◌, ℕ, ◌<◌, ◌==◌, Bool, true, false, cond, not, ◌&&◌, ◌||◌, ◌⊎◌, inl, inr, List, [], ◌∷◌, refl, sym, ap, ◌∙◌}
use Rattle.std.proofs.Common.{subst, arith}
use Rattle.std.proofs.lemmas.Bool.{eqb-true, and_parts, false≢true, lt-ltb, ne_eqb, agree_below_at}
use Rattle.ba_tree.specs.Characters.{is_legal}
use Rattle.ba_tree.specs.declared.trees.Tree.{Tree}
use Rattle.ba_xml_reader.proofs.CompleteCharacters.{octets, lead_one}
use Rattle.ba_xml_reader.proofs.SoundAnswer.{IsReadAs}
use Rattle.ba_xml_reader.proofs.SoundBytes.{Fine, document_full}
use Rattle.ba_xml_reader.proofs.SoundCharacters.{IsLow, AreLow, broken, same_octet, characters_back}
use Rattle.ba_xml_grammar.specs.Grammar.{Document, written_document, IsDocument}
use Rattle.ba_xml_grammar.specs.GrammarTexts.{lines, IsOfCharacters, IsXmlText}
use Rattle.ba_xml_grammar.specs.GrammarWords.{is_character}
use Rattle.ba_xml_words.specs.inside.Octets.{octet_after}
use Rattle.ba_xml_words.specs.declared.faults.Reason.TheVariants.{NotUtf8}
use Rattle.ba_xml_words.specs.declared.octets.Octet.{Octet}
use Rattle.ba_xml_words.specs.declared.octets.Octet.TheVariants.{Between, One, Two, Three, AfterE0, AfterED, AfterEF, AfterEFBF, AfterF0}
use Rattle.ba_xml_words.specs.declared.octets.Octet.TheVariants.{AfterF4}
use Rattle.ba_xml_words.specs.declared.octets.Decoding.{Decoding}
use Rattle.ba_xml_words.specs.declared.octets.Decoding.TheVariants.{At, Broken}

-- ---- the raw bytes, by those with line ends made one

-- the last byte is below 80
abbrev pub EndsLow : List ℕ → Type 0
EndsLow [] = Unit {0}
EndsLow (b ∷ bs) = (bs ≡ [] → b < 0x80) × EndsLow bs

-- a byte of a character is a character where it is below 80
pub low_character : (b : ℕ) → is_character b ≡ true → IsLow b
low_character b c l = from (is_character b) c (agree_below_at (λ b. not (is_character b) || is_legal b) (λ b. true) 0x80 b refl l)
  where
    from : (x : Bool) → x ≡ true → (not x || is_legal b) ≡ true → is_legal b ≡ true
    from true p q = q
    from false p q = absurd (false≢true p)

lines_back : (bytes : List ℕ) (returned : Bool) → Fine (lines returned bytes) → AreLow bytes × EndsLow bytes
lines_back [] returned f = (tt, tt)
lines_back (b ∷ bs) returned f = by (λ r g. lines_back bs r g) (returned && b == 10) (b == 13) refl refl f
  where
    at : (n : ℕ) → n < 0x80 → is_legal n ≡ true → (b == n) ≡ true → AreLow bs × EndsLow bs → AreLow (b ∷ bs) × EndsLow (b ∷ bs)
    at n l c e r = (
      (λ h. subst (λ x. is_legal x ≡ true) (sym (eqb-true b n e)) c, r.0),
      (λ h. subst (λ x. x < 0x80) (sym (eqb-true b n e)) l, r.1),
    )

    by : ((r : Bool) → Fine (lines r bs) → AreLow bs × EndsLow bs) → (x y : Bool) → (returned && b == 10) ≡ x → (b == 13) ≡ y
        → Fine (cond x (lines false bs) (cond y (10 ∷ lines true bs) (b ∷ lines false bs))) → AreLow (b ∷ bs) × EndsLow (b ∷ bs)
    by ih true y p q f = at 10 (omega arith) refl (and_parts returned (b == 10) p).1 (ih false f)
    by ih false true p q f = at 13 (omega arith) refl q (ih true f.2)
    by ih false false p q f = let r = ih false f.2 in ((low_character b f.0, r.0), (λ e. f.1 (ap (λ x. lines false x) e), r.1))

-- ---- where bytes end below 80, no character is begun

after_low : (o : Octet) (b : ℕ) → b < 0x80 → (octet_after o b ≡ At Between) ⊎ (octet_after o b ≡ Broken NotUtf8)
unfolding octet_after
after_low Between b h = inl (lead_one b h)
after_low One b h = inr (rw (lt-ltb b 0x80 h) refl)
after_low Two b h = inr (rw (lt-ltb b 0x80 h) refl)
after_low Three b h = inr (rw (lt-ltb b 0x80 h) refl)
after_low AfterE0 b h = inr (rw (lt-ltb b 0xA0 (omega (arith, h))) refl)
after_low AfterED b h = inr (rw (lt-ltb b 0x80 h) refl)
after_low AfterEF b h = inr (rw (ne_eqb b 0xBF (λ e. omega (arith, e, h)), lt-ltb b 0x80 h) refl)
after_low AfterEFBF b h = inr (rw (
  ne_eqb b 0xBE (λ e. omega (arith, e, h)),
  ne_eqb b 0xBF (λ e. omega (arith, e, h)),
  lt-ltb b 0x80 h,
) refl)
after_low AfterF0 b h = inr (rw (lt-ltb b 0x90 (omega (arith, h))) refl)
after_low AfterF4 b h = inr (rw (lt-ltb b 0x80 h) refl)

low_between : (o p : Octet) (b : ℕ) → b < 0x80 → octet_after o b ≡ At p → p ≡ Between
low_between o p b h e = by (after_low o b h)
  where
    clash : Broken NotUtf8 ≡ At p → ⊥
    clash e = cc

    by : (octet_after o b ≡ At Between) ⊎ (octet_after o b ≡ Broken NotUtf8) → p ≡ Between
    by (inl q) = same_octet p Between (sym e ∙ q)
    by (inr q) = absurd (clash (sym q ∙ e))

ends_between : (bytes : List ℕ) (o last : Octet) → EndsLow bytes → octets (At o) bytes ≡ At last → (bytes ≡ [] → o ≡ Between)
    → last ≡ Between
ends_between [] o last l e n = same_octet last o (sym e) ∙ n refl
ends_between (b ∷ bs) o last l e n = by (λ p q r. ends_between bs p last l.1 q r) (octet_after o b) refl e
  where
    by : ((p : Octet) → octets (At p) bs ≡ At last → (bs ≡ [] → p ≡ Between) → last ≡ Between) → (d : Decoding) → octet_after o b ≡ d
        → octets d bs ≡ At last → last ≡ Between
    by ih (Broken r) p e = absurd (broken r bs last e)
    by ih (At next) p e = ih next e (λ q. low_between o next b (l.0 q) p)

-- ---- whole texts

-- the raw bytes of a document, in which no octet is out of place
characters_of : (bytes : List ℕ) (d : Document) (last : Octet) → IsDocument d → lines false bytes ≡ written_document d
    → octets (At Between) bytes ≡ At last → IsOfCharacters bytes
characters_of bytes d last i e o = by (lines_back bytes false (subst (λ x. Fine x) (sym e) (document_full d i).1))
  where
    by : AreLow bytes × EndsLow bytes → IsOfCharacters bytes
    by r = characters_back bytes r.0 (o ∙ ap (λ x. At x) (ends_between bytes Between last r.1 o (λ n. refl)))

-- what the machine reads is of characters
pub of_characters : (bytes : List ℕ) (tree : Tree) → IsReadAs tree bytes → IsOfCharacters bytes
of_characters bytes tree r = characters_of bytes r.0.0 r.2 r.0.1 r.0.2 r.3

-- and so it is a text of the grammar
pub is_text : (bytes : List ℕ) (tree : Tree) → IsReadAs tree bytes → IsXmlText bytes tree
is_text bytes tree r = (r.0.0, (of_characters bytes tree r, r.0.1, r.0.2), (r.1, r.0.3), r.0.4)
