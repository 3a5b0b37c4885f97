-- What may follow whole pieces up to the text's end, whatever prefixes mean and however large it is; and each piece put before it.
use Rattle.std.proofs.Common.{◌≡◌, ℕ, true, List, [], ◌∷◌, ◌++◌, refl, ap, ◌∙◌, append_assoc}
use Rattle.ba_tree.specs.declared.trees.Content.{Content}
use Rattle.ba_xml_reader.proofs.SoundComments.{LeadsComment}
use Rattle.ba_xml_reader.proofs.SoundKinds.{character_kind, differs}
use Rattle.ba_xml_reader.proofs.SoundLegal.{reference_read, IsRead}
use Rattle.ba_xml_reader.proofs.SoundPieces.{nothing_ends}
use Rattle.ba_xml_reader.proofs.SoundSections.{LeadsSection, nowhere_brackets}
use Rattle.ba_xml_reader.proofs.CompleteContent.{brackets, section_word, Differing, bracket_kind}
use Rattle.ba_xml_reader.proofs.CompletePieces.{less_kind}
use Rattle.ba_xml_reader.proofs.CompleteReferences.{refers}
use Rattle.ba_xml_reader.proofs.CompleteSteps.{space_kind}
use Rattle.ba_xml_words.specs.Classes.{is_space, class_of, mark_of}
use Rattle.ba_xml_grammar.specs.Grammar.{Pieces, nothing, character, reference, section, comment}
use Rattle.ba_xml_grammar.specs.Grammar.{Misc, misc_space, misc_comment, written, written_misc, row, Allowed, IsMisc, IsRoot}
use Rattle.ba_xml_grammar.specs.GrammarWords.{Nowhere, Differ, IsWhite, is_character, reference_text}
use Rattle.ba_xml_names.specs.declared.levels.Level.{Level}
use Rattle.ba_xml_words.specs.declared.classes.Class.TheVariants as class
use Rattle.ba_xml_words.specs.declared.references.Partial.{Partial}
use Rattle.ba_xml_words.specs.declared.references.Partial.TheVariants.{Nothing}
use Rattle.ba_xml_words.specs.declared.references.Referred.TheVariants.{On, Meant}
use Rattle.ba_xml_reader.specs.declared.states.Seen.{Seen}
use Rattle.ba_xml_reader.specs.declared.states.Seen.TheVariants.{Zero, One, Two}

pub ampersand_kind : class_of 38 ≡ class.Ampersand
unfolding class_of mark_of
ampersand_kind = refl

-- ---- what may follow

-- after the root
abbrev pub Behind : List ℕ → Type 0
Behind bs = (behind : Misc) × IsMisc behind × (bs ≡ written_misc behind [])

-- the root, and what stands after it
abbrev pub HasRoot : List ℕ → Type 0
HasRoot bs = (root : Pieces) × (rest : List ℕ) × IsRoot root × Allowed root × (bs ≡ written root rest) × Behind rest

-- around the root: before it where there is none yet, else after it
abbrev pub Outside : List Content → List ℕ → Type 0
Outside [] bs = (before : Misc) × (rest : List ℕ) × IsMisc before × (bs ≡ written_misc before rest) × HasRoot rest
Outside (c ∷ cs) bs = Behind bs

-- in an element that is spelled so, whole pieces and its end tag, and so on outwards
abbrev pub Rest : List Level → List ℕ → Seen → List ℕ → Type 0
Rest [] name seen bs = Behind bs
Rest (parent ∷ above) name seen bs = (p : Pieces) × (space : List ℕ) × (rest : List ℕ) × Allowed p
    × Nowhere section_word (brackets seen (row p))
    × IsWhite space × (bs ≡ written p (60 ∷ 47 ∷ (name ++ (space ++ 62 ∷ rest)))) × Rest above parent.spelled Zero rest

-- what may follow whole pieces up to the text's end
abbrev pub Around : List Level → List Content → List ℕ → Seen → List ℕ → Type 0
Around [] content name seen bs = Outside content bs
Around (parent ∷ above) content name seen bs = Rest (parent ∷ above) name seen bs

abbrev pub Here : List Level → Level → Seen → List ℕ → Type 0
Here outer here seen bs = Around outer here.content here.spelled seen bs

-- ---- after an element

root_behind : (content : List Content) (c : Content) (bs : List ℕ) → Outside (content ++ c ∷ []) bs → Behind bs
root_behind [] c bs l = l
root_behind (x ∷ xs) c bs l = l

pub element_behind : (outer : List Level) (content : List Content) (c : Content) (name bs : List ℕ)
    → Around outer (content ++ c ∷ []) name Zero bs → Rest outer name Zero bs
element_behind [] content c name bs l = root_behind content c bs l
element_behind (parent ∷ above) content c name bs l = l

-- ---- comments

comment_outside : (content : List Content) (cs : List ℕ) → LeadsComment Zero (λ rest. Outside content rest) cs
    → Outside content (60 ∷ 33 ∷ 45 ∷ 45 ∷ cs)
comment_outside [] cs l = (
  misc_comment l.0 l.4.0,
  l.4.1,
  (l.2, l.4.2),
  ap (λ x. 60 ∷ 33 ∷ 45 ∷ 45 ∷ x) (l.3 ∙ ap (λ x. l.0 ++ 45 ∷ 45 ∷ 62 ∷ x) l.4.3),
  l.4.4,
)
comment_outside (c ∷ content) cs l = (
  misc_comment l.0 l.4.0,
  (l.2, l.4.1),
  ap (λ x. 60 ∷ 33 ∷ 45 ∷ 45 ∷ x) (l.3 ∙ ap (λ x. l.0 ++ 45 ∷ 45 ∷ 62 ∷ x) l.4.2),
)

pub comment_follows : (outer : List Level) (content : List Content) (name : List ℕ) (seen : Seen) (cs : List ℕ)
    → LeadsComment Zero (λ rest. Around outer content name Zero rest) cs → Around outer content name seen (60 ∷ 33 ∷ 45 ∷ 45 ∷ cs)
comment_follows [] content name seen cs l = comment_outside content cs l
comment_follows (parent ∷ above) content name seen cs l = (
  comment l.0 l.4.0,
  l.4.1,
  l.4.2,
  (l.2, l.4.3),
  nothing_ends seen,
  l.4.5,
  ap (λ x. 60 ∷ 33 ∷ 45 ∷ 45 ∷ x) (l.3 ∙ ap (λ x. l.0 ++ 45 ∷ 45 ∷ 62 ∷ x) l.4.6),
  l.4.7,
)

-- ---- sections, references and characters

pub section_follows : (parent : Level) (above : List Level) (name : List ℕ) (seen : Seen) (cs : List ℕ)
    → LeadsSection [] Zero (λ body rest. Rest (parent ∷ above) name Zero rest) cs
    → Rest (parent ∷ above) name seen (60 ∷ 33 ∷ 91 ∷ 67 ∷ 68 ∷ 65 ∷ 84 ∷ 65 ∷ 91 ∷ cs)
section_follows parent above name seen cs l = (
  section l.0 l.4.0,
  l.4.1,
  l.4.2,
  (l.2, l.4.3),
  nothing_ends seen,
  l.4.5,
  ap (λ x. 60 ∷ 33 ∷ 91 ∷ 67 ∷ 68 ∷ 65 ∷ 84 ∷ 65 ∷ 91 ∷ x) (l.3 ∙ ap (λ x. l.0 ++ 93 ∷ 93 ∷ 62 ∷ x) l.4.6),
  l.4.7,
)

-- after a part of a reference
abbrev pub LeadsReference : (List ℕ → Type 0) → Partial → List ℕ → Type 0
LeadsReference After partial bs =
    (cs : List ℕ) × (rest : List ℕ) × (c : ℕ) × (refers (On partial) cs ≡ Meant c) × (bs ≡ cs ++ rest) × After rest

pub reference_follows : (parent : Level) (above : List Level) (name : List ℕ) (seen : Seen) (bs : List ℕ)
    → LeadsReference (λ rest. Rest (parent ∷ above) name Zero rest) Nothing bs → Rest (parent ∷ above) name seen (38 ∷ bs)
reference_follows parent above name seen bs l = of_read (reference_read l.0 l.2 l.3) l.5
  where
    of_read : IsRead l.2 l.0 → Rest (parent ∷ above) name Zero l.1 → Rest (parent ∷ above) name seen (38 ∷ bs)
    of_read r f = (
      reference r.0 f.0,
      f.1,
      f.2,
      (r.1, f.3),
      nothing_ends seen,
      f.5,
      ap (λ x. 38 ∷ x) (l.4 ∙ ap (λ x. x ++ l.1) r.2 ∙ append_assoc (reference_text r.0) (59 ∷ []) l.1
          ∙ ap (λ x. reference_text r.0 ++ 59 ∷ x) f.6),
      f.7,
    )

-- "]]>" doesn't begin with this byte
first_nowhere : (seen : Seen) (b : ℕ) (bs : List ℕ) → Nowhere section_word (brackets seen (b ∷ bs)) → Nowhere section_word (b ∷ bs)
first_nowhere Zero b bs n = n
first_nowhere One b bs n = n.1
first_nowhere Two b bs n = n.1.1

pub character_follows : (parent : Level) (above : List Level) (name : List ℕ) (seen next : Seen) (b : ℕ) (bs : List ℕ)
    → is_character b ≡ true → Differ b 60 → Differ b 38
    → ((more : List ℕ) → Nowhere section_word (brackets next more) → Nowhere section_word (brackets seen (b ∷ more)))
    → Rest (parent ∷ above) name next bs → Rest (parent ∷ above) name seen (b ∷ bs)
character_follows parent above name seen next b bs c d e n l = (
  character b l.0,
  l.1,
  l.2,
  ((c, d, e, (first_nowhere seen b (row l.0) (n (row l.0) l.4)).0), l.3),
  n (row l.0) l.4,
  l.5,
  ap (λ x. b ∷ x) l.6,
  l.7,
)

-- ---- white space

pub space_outside : (content : List Content) (b : ℕ) (bs : List ℕ) → is_space b ≡ true → Outside content bs → Outside content (b ∷ bs)
space_outside [] b bs s l = (misc_space b l.0, l.1, (s, l.2), ap (λ x. b ∷ x) l.3, l.4)
space_outside (c ∷ content) b bs s l = (misc_space b l.0, (s, l.1), ap (λ x. b ∷ x) l.2)

not_two : Zero ≡ Two → ⊥
not_two e = cc

pub space_follows : (outer : List Level) (content : List Content) (name : List ℕ) (b : ℕ) (bs : List ℕ) → is_space b ≡ true
    → Around outer content name Zero bs → Around outer content name Zero (b ∷ bs)
space_follows [] content name b bs s l = space_outside content b bs s l
space_follows (parent ∷ above) content name b bs s l =
    let e : class_of b ≡ class.Space = space_kind b s in
    character_follows parent above name Zero Zero b bs (character_kind b class.Space e tt)
    (differs b 60 class.Space class.Less e less_kind refl) (differs b 38 class.Space class.Ampersand e ampersand_kind refl)
    (λ more w. nowhere_brackets Zero b more (Differing b 93 (differs b 93 class.Space class.CloseBracket e bracket_kind refl))
    (λ z f. not_two z) w) l

-- ---- end tags

pub end_follows : (parent : Level) (above : List Level) (name : List ℕ) (seen : Seen) (bs space rest : List ℕ) → IsWhite space
    → bs ≡ name ++ (space ++ 62 ∷ rest) → Rest above parent.spelled Zero rest → Rest (parent ∷ above) name seen (60 ∷ 47 ∷ bs)
end_follows parent above name seen bs space rest w e l =
    (nothing, space, rest, tt, nothing_ends seen, w, ap (λ x. 60 ∷ 47 ∷ x) e, l)
