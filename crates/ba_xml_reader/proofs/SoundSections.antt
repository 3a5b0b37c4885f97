-- CDATA sections backward: what follows in the machine's states inside a section is the rest of a section.
use Rattle.std.proofs.Common.{◌≡◌, ℕ, true, List, [], ◌∷◌, ◌++◌, refl, sym, ap, subst, ◌∙◌, append_assoc, append-nil, ◌==◌, true≢false}
use Rattle.ba_xml_reader.specs.inside.Content.{held}
use Rattle.ba_xml_grammar.specs.Grammar.{IsSection}
use Rattle.ba_xml_grammar.specs.GrammarWords.{IsFront, Nowhere, is_character}
use Rattle.ba_xml_reader.specs.declared.states.Seen.{Seen}
use Rattle.ba_xml_reader.specs.declared.states.Seen.TheVariants.{Zero, One, Two}
use Rattle.ba_xml_reader.proofs.CompleteContent.{brackets, section_word, brackets_before}

-- behind these bytes of a section and so many brackets
abbrev pub LeadsSection : List ℕ → Seen → (List ℕ → List ℕ → Type 0) → List ℕ → Type 0
LeadsSection acc seen After bs = (more : List ℕ) × (rest : List ℕ) × IsSection more × (brackets seen bs ≡ more ++ 93 ∷ 93 ∷ 62 ∷ rest)
    × After (acc ++ more) rest

head_same : (x y : ℕ) (xs ys : List ℕ) → x ∷ xs ≡ y ∷ ys → x ≡ y
head_same x y xs ys e = cc

tail_same : (x y : ℕ) (xs ys : List ℕ) → x ∷ xs ≡ y ∷ ys → xs ≡ ys
tail_same x y xs ys e = cc

-- a third bracket makes the first one the section's
pub section_third : (acc : List ℕ) (After : List ℕ → List ℕ → Type 0) (bs : List ℕ) → LeadsSection (acc ++ 93 ∷ []) Two After bs
    → LeadsSection acc Two After (93 ∷ bs)
section_third acc After bs l = (
  93 ∷ l.0,
  l.1,
  ((refl, l.2.0), ((λ f. no_end f.0 f.1), l.2.1)),
  ap (λ x. 93 ∷ x) l.3,
  subst (λ a. After a l.1) (append_assoc acc (93 ∷ []) l.0) l.4,
)
  where
    clash : (rest bs : List ℕ) → 93 ∷ bs ≡ 62 ∷ rest → ⊥
    clash rest bs e = cc

    no_end : (rest : List ℕ) → 93 ∷ l.0 ≡ 93 ∷ 93 ∷ 62 ∷ rest → ⊥
    no_end rest e = clash (rest ++ 93 ∷ 93 ∷ 62 ∷ l.1) bs
        (tail_same 93 93 (93 ∷ bs) (62 ∷ (rest ++ 93 ∷ 93 ∷ 62 ∷ l.1))
        (l.3 ∙ ap (λ m. m ++ 93 ∷ 93 ∷ 62 ∷ l.1) (tail_same 93 93 l.0 (93 ∷ 62 ∷ rest) e)))

no_bracket : (b : ℕ) (bs word : List ℕ) → (b ≡ 93 → ⊥) → IsFront (93 ∷ word) (b ∷ bs) → ⊥
no_bracket b bs word n f = n (head_same b 93 bs (word ++ f.0) f.1)

no_second : (b : ℕ) (bs word : List ℕ) → (b ≡ 93 → ⊥) → IsFront (93 ∷ 93 ∷ word) (93 ∷ b ∷ bs) → ⊥
no_second b bs word n f = n (head_same b 93 bs (word ++ f.0) (tail_same 93 93 (b ∷ bs) (93 ∷ (word ++ f.0)) f.1))

no_third : (b : ℕ) (bs : List ℕ) → (b ≡ 62 → ⊥) → IsFront section_word (93 ∷ 93 ∷ b ∷ bs) → ⊥
no_third b bs n f = n (head_same b 62 bs f.0 (tail_same 93 93 (b ∷ bs) (62 ∷ f.0) (tail_same 93 93 (93 ∷ b ∷ bs) (93 ∷ 62 ∷ f.0) f.1)))

-- brackets and then another byte don't end a section
pub nowhere_brackets : (seen : Seen) (b : ℕ) (more : List ℕ) → (b ≡ 93 → ⊥) → (seen ≡ Two → b ≡ 62 → ⊥) → Nowhere section_word more
    → Nowhere section_word (brackets seen (b ∷ more))
nowhere_brackets Zero b more nb ng s = (no_bracket b more (93 ∷ 62 ∷ []) nb, s)
nowhere_brackets One b more nb ng s = (no_second b more (62 ∷ []) nb, (no_bracket b more (93 ∷ 62 ∷ []) nb, s))
nowhere_brackets Two b more nb ng s = (no_third b more (ng refl), (no_second b more (62 ∷ []) nb, (no_bracket b more (93 ∷ 62 ∷ []) nb, s)))

-- brackets and then another byte are a section's
brackets_section : (seen : Seen) (b : ℕ) (more : List ℕ) → is_character b ≡ true → (b ≡ 93 → ⊥) → (seen ≡ Two → b ≡ 62 → ⊥) → IsSection more
    → IsSection (brackets seen (b ∷ more))
brackets_section Zero b more c nb ng s = ((c, s.0), nowhere_brackets Zero b more nb ng s.1)
brackets_section One b more c nb ng s = ((refl, (c, s.0)), nowhere_brackets One b more nb ng s.1)
brackets_section Two b more c nb ng s = ((refl, (refl, (c, s.0))), nowhere_brackets Two b more nb ng s.1)

-- a bracket behind two others leaves two
pub nowhere_third : (more : List ℕ) → Nowhere section_word (93 ∷ 93 ∷ more) → Nowhere section_word (93 ∷ 93 ∷ 93 ∷ more)
nowhere_third more n = (no_third 93 more three, n)
  where
    three : ◌≡◌ {A = ℕ} 93 62 → ⊥
    three e = true≢false (ap (λ x. x == 93) e)

brackets_joined : (seen : Seen) (b : ℕ) (bs more rest : List ℕ) → bs ≡ more ++ rest
    → brackets seen (b ∷ bs) ≡ brackets seen (b ∷ more) ++ rest
brackets_joined Zero b bs more rest e = ap (λ x. b ∷ x) e
brackets_joined One b bs more rest e = ap (λ x. 93 ∷ b ∷ x) e
brackets_joined Two b bs more rest e = ap (λ x. 93 ∷ 93 ∷ b ∷ x) e

same_held : (seen : Seen) → held seen ≡ brackets seen []
same_held Zero = refl
same_held One = refl
same_held Two = refl

pub section_character : (acc : List ℕ) (seen : Seen) (After : List ℕ → List ℕ → Type 0) (b : ℕ) (bs : List ℕ) → is_character b ≡ true
    → (b ≡ 93 → ⊥) → (seen ≡ Two → b ≡ 62 → ⊥)
    → LeadsSection ((acc ++ held seen) ++ b ∷ []) Zero After bs → LeadsSection acc seen After (b ∷ bs)
section_character acc seen After b bs c nb ng l = (
  brackets seen (b ∷ l.0),
  l.1,
  brackets_section seen b l.0 c nb ng l.2,
  brackets_joined seen b bs l.0 (93 ∷ 93 ∷ 62 ∷ l.1) l.3,
  subst (λ a. After a l.1)
      (append_assoc (acc ++ held seen) (b ∷ []) l.0 ∙ append_assoc acc (held seen) (b ∷ l.0)
      ∙ ap (λ h. acc ++ (h ++ b ∷ l.0)) (same_held seen) ∙ ap (λ x. acc ++ x) (brackets_before seen (b ∷ l.0))) l.4,
)

-- the end
pub section_ends : (acc : List ℕ) (After : List ℕ → List ℕ → Type 0) (bs : List ℕ) → After acc bs → LeadsSection acc Two After (62 ∷ bs)
section_ends acc After bs a = ([], bs, (tt, tt), refl, subst (λ x. After x bs) (sym (append-nil acc)) a)
