-- Pieces backward: what may follow in an element and around the root, and each piece put before it.
use Rattle.std.proofs.Common.{◌≡◌, ℕ, ◌+◌, true, Some, List, [], ◌∷◌, ◌++◌, length, encode_utf8, sym, ap, subst, ◌∙◌, append_assoc}
use Rattle.ba_tree.specs.declared.trees.Content.{Content}
use Rattle.ba_tree.specs.declared.trees.Tree.{Tree}
use Rattle.ba_xml_reader.proofs.SoundComments.{LeadsComment}
use Rattle.ba_xml_reader.proofs.SoundLegal.{reference_read, IsRead}
use Rattle.ba_xml_reader.proofs.SoundSections.{LeadsSection}
use Rattle.ba_xml_reader.proofs.CompleteContent.{brackets, section_word}
use Rattle.ba_xml_reader.proofs.CompletePieces.{holding, content_after, text_after}
use Rattle.ba_xml_reader.proofs.CompleteReferences.{refers}
use Rattle.ba_xml_words.specs.Classes.{is_space}
use Rattle.ba_xml_names.specs.inside.Levels.{with_child, tree_of, put, put_all}
use Rattle.ba_xml_reader.specs.inside.Machine.{root_of}
use Rattle.ba_xml_names.specs.Namespaces.{scope}
use Rattle.ba_xml_grammar.specs.Grammar.{Pieces, nothing, character, reference, section, comment, Misc, misc_space, misc_comment, written}
use Rattle.ba_xml_grammar.specs.Grammar.{written_misc, row, Allowed, IsMisc, IsRoot, Resolves, Small}
use Rattle.ba_xml_grammar.specs.GrammarWords.{Nowhere, Differ, IsWhite, is_character, reference_text, character_of}
use Rattle.ba_xml_names.specs.declared.levels.Level.{Level}
use Rattle.ba_xml_words.specs.declared.references.Partial.{Partial}
use Rattle.ba_xml_words.specs.declared.references.Partial.TheVariants.{Nothing}
use Rattle.ba_xml_words.specs.declared.references.Referred.TheVariants.{On, Meant}
use Rattle.ba_xml_reader.specs.declared.states.Seen.{Seen}
use Rattle.ba_xml_reader.specs.declared.states.Seen.TheVariants.{Zero, One, Two}

-- ---- what may follow

-- the level behind these pieces
abbrev pub behind_pieces : List Level → Level → Pieces → Level
behind_pieces outer here p = holding here (content_after (scope (here ∷ outer)) here.content here.text p) (text_after here.text p)

abbrev pub IsGood : List Level → Level → Seen → Pieces → Type 0
IsGood outer here seen p = Allowed p × Nowhere section_word (brackets seen (row p)) × Resolves (scope (here ∷ outer)) p
    × Small (length outer + 1) p

-- the root, and what stands behind it
abbrev pub IsRootOf : Level → List ℕ → Tree → Type 0
IsRootOf here bs t = (root : Pieces) × (behind : Misc) × IsRoot root × Allowed root × Resolves (scope (here ∷ [])) root × Small 1 root
    × IsMisc behind
    × (bs ≡ written root (written_misc behind [])) × (root_of (content_after (scope (here ∷ [])) here.content here.text root) ≡ Some t)

-- around the root: before it where there is none yet, else behind it
abbrev pub Outside : Level → List Content → List ℕ → Tree → Type 0
Outside here [] bs t = (before : Misc) × (rest : List ℕ) × IsMisc before × (bs ≡ written_misc before rest) × IsRootOf here rest t
Outside here (c ∷ cs) bs t = (behind : Misc) × IsMisc behind × (bs ≡ written_misc behind []) × (root_of (c ∷ cs) ≡ Some t)

-- what may follow whole pieces up to the text's end, so that its tree is this one
abbrev pub Follows : List Level → Level → Seen → List ℕ → Tree → Type 0
Follows [] here seen bs t = Outside here here.content bs t
Follows (parent ∷ above) here seen bs t = (p : Pieces) × (space : List ℕ) × (rest : List ℕ) × IsGood (parent ∷ above) here seen p
    × IsWhite space
    × (bs ≡ written p (60 ∷ 47 ∷ (here.spelled ++ (space ++ 62 ∷ rest))))
    × Follows above (with_child parent (tree_of (behind_pieces (parent ∷ above) here p))) Zero rest t

pub nothing_ends : (seen : Seen) → Nowhere section_word (brackets seen [])
nothing_ends Zero = tt
nothing_ends One = ((λ f. one f.0 f.1), tt)
  where
    one : (rest : List ℕ) → 93 ∷ [] ≡ 93 ∷ 93 ∷ 62 ∷ rest → ⊥
    one rest e = cc
nothing_ends Two = ((λ f. two f.0 f.1), ((λ f. one f.0 f.1), tt))
  where
    two : (rest : List ℕ) → 93 ∷ 93 ∷ [] ≡ 93 ∷ 93 ∷ 62 ∷ rest → ⊥
    two rest e = cc

    one : (rest : List ℕ) → 93 ∷ [] ≡ 93 ∷ 93 ∷ 62 ∷ rest → ⊥
    one rest e = cc

-- ---- comments

abbrev Behind : List Level → Level → Tree → List ℕ → Type 0
Behind outer here t rest = Follows outer here Zero rest t

comment_outside : (here : Level) (content : List Content) (t : Tree) (cs : List ℕ)
    → LeadsComment Zero (λ rest. Outside here content rest t) cs → Outside here content (60 ∷ 33 ∷ 45 ∷ 45 ∷ cs) t
comment_outside here [] t cs l = (
  misc_comment l.0 l.4.0,
  l.4.1,
  (l.2, l.4.2),
  ap (λ x. 60 ∷ 33 ∷ 45 ∷ 45 ∷ x) (l.3 ∙ ap (λ x. l.0 ++ 45 ∷ 45 ∷ 62 ∷ x) l.4.3),
  l.4.4,
)
comment_outside here (c ∷ content) t cs l =
    (misc_comment l.0 l.4.0, (l.2, l.4.1), ap (λ x. 60 ∷ 33 ∷ 45 ∷ 45 ∷ x) (l.3 ∙ ap (λ x. l.0 ++ 45 ∷ 45 ∷ 62 ∷ x) l.4.2), l.4.3)

pub comment_follows : (outer : List Level) (here : Level) (seen : Seen) (t : Tree) (cs : List ℕ)
    → LeadsComment Zero (λ rest. Follows outer here Zero rest t) cs → Follows outer here seen (60 ∷ 33 ∷ 45 ∷ 45 ∷ cs) t
comment_follows [] here seen t cs l = comment_outside here here.content t cs l
comment_follows (parent ∷ above) here seen t cs l = (
  comment l.0 l.4.0,
  l.4.1,
  l.4.2,
  ((l.2, l.4.3.0), nothing_ends seen, l.4.3.2, l.4.3.3),
  l.4.4,
  ap (λ x. 60 ∷ 33 ∷ 45 ∷ 45 ∷ x) (l.3 ∙ ap (λ x. l.0 ++ 45 ∷ 45 ∷ 62 ∷ x) l.4.5),
  l.4.6,
)

-- ---- white space around the root

space_outside : (here : Level) (content : List Content) (t : Tree) (b : ℕ) (bs : List ℕ) → is_space b ≡ true → Outside here content bs t
    → Outside here content (b ∷ bs) t
space_outside here [] t b bs s l = (misc_space b l.0, l.1, (s, l.2), ap (λ x. b ∷ x) l.3, l.4)
space_outside here (c ∷ content) t b bs s l = (misc_space b l.0, (s, l.1), ap (λ x. b ∷ x) l.2, l.3)

pub space_follows : (here : Level) (seen next : Seen) (t : Tree) (b : ℕ) (bs : List ℕ) → is_space b ≡ true → Follows [] here next bs t
    → Follows [] here seen (b ∷ bs) t
space_follows here seen next t b bs s l = space_outside here here.content t b bs s l

-- ---- sections, references and characters

pub section_follows : (parent : Level) (above : List Level) (here : Level) (seen : Seen) (t : Tree) (cs : List ℕ)
    → LeadsSection [] Zero (λ body rest. Follows (parent ∷ above) (put_all here body) Zero rest t) cs
    → Follows (parent ∷ above) here seen (60 ∷ 33 ∷ 91 ∷ 67 ∷ 68 ∷ 65 ∷ 84 ∷ 65 ∷ 91 ∷ cs) t
section_follows parent above here seen t cs l = (
  section l.0 l.4.0,
  l.4.1,
  l.4.2,
  ((l.2, l.4.3.0), nothing_ends seen, l.4.3.2, l.4.3.3),
  l.4.4,
  ap (λ x. 60 ∷ 33 ∷ 91 ∷ 67 ∷ 68 ∷ 65 ∷ 84 ∷ 65 ∷ 91 ∷ x) (l.3 ∙ ap (λ x. l.0 ++ 93 ∷ 93 ∷ 62 ∷ x) l.4.5),
  l.4.6,
)

-- behind a part of a reference
abbrev pub LeadsReference : List Level → Level → Tree → Partial → List ℕ → Type 0
LeadsReference outer here t partial bs = (cs : List ℕ) × (rest : List ℕ) × (c : ℕ) × (refers (On partial) cs ≡ Meant c) × (bs ≡ cs ++ rest)
    × Follows outer (put_all here (encode_utf8 c)) Zero rest t

reference_of : (parent : Level) (above : List Level) (here : Level) (seen : Seen) (t : Tree) (bs cs rest : List ℕ) (c : ℕ) → bs ≡ cs ++ rest
    → (r : IsRead c cs)
    → Follows (parent ∷ above) (put_all here (encode_utf8 (character_of r.0))) Zero rest t → Follows (parent ∷ above) here seen (38 ∷ bs) t
reference_of parent above here seen t bs cs rest c e r l = (
  reference r.0 l.0,
  l.1,
  l.2,
  ((r.1, l.3.0), nothing_ends seen, l.3.2, l.3.3),
  l.4,
  ap (λ x. 38 ∷ x) (e ∙ ap (λ x. x ++ rest) r.2 ∙ append_assoc (reference_text r.0) (59 ∷ []) rest
      ∙ ap (λ x. reference_text r.0 ++ 59 ∷ x) l.5),
  l.6,
)

pub reference_follows : (parent : Level) (above : List Level) (here : Level) (seen : Seen) (t : Tree) (bs : List ℕ)
    → LeadsReference (parent ∷ above) here t Nothing bs → Follows (parent ∷ above) here seen (38 ∷ bs) t
reference_follows parent above here seen t bs l = of_read (reference_read l.0 l.2 l.3)
  where
    of_read : IsRead l.2 l.0 → Follows (parent ∷ above) here seen (38 ∷ bs) t
    of_read r = reference_of parent above here seen t bs l.0 l.1 l.2 l.4 r
        (subst (λ c. Follows (parent ∷ above) (put_all here (encode_utf8 c)) Zero l.1 t) (sym r.3) l.5)

-- "]]>" doesn't begin with this byte
first_nowhere : (seen : Seen) (b : ℕ) (bs : List ℕ) → Nowhere section_word (brackets seen (b ∷ bs)) → Nowhere section_word (b ∷ bs)
first_nowhere Zero b bs n = n
first_nowhere One b bs n = n.1
first_nowhere Two b bs n = n.1.1

pub character_follows : (parent : Level) (above : List Level) (here : Level) (seen next : Seen) (t : Tree) (b : ℕ) (bs : List ℕ)
    → is_character b ≡ true → Differ b 60 → Differ b 38
    → ((more : List ℕ) → Nowhere section_word (brackets next more) → Nowhere section_word (brackets seen (b ∷ more)))
    → Follows (parent ∷ above) (put here b) next bs t → Follows (parent ∷ above) here seen (b ∷ bs) t
character_follows parent above here seen next t b bs c d e n l = (
  character b l.0,
  l.1,
  l.2,
  (((c, d, e, (first_nowhere seen b (row l.0) (n (row l.0) l.3.1)).0), l.3.0), n (row l.0) l.3.1, l.3.2, l.3.3),
  l.4,
  ap (λ x. b ∷ x) l.5,
  l.6,
)

-- ---- end tags

pub end_follows : (parent : Level) (above : List Level) (here : Level) (seen : Seen) (t : Tree) (bs space rest : List ℕ) → IsWhite space
    → bs ≡ here.spelled ++ (space ++ 62 ∷ rest)
    → Follows above (with_child parent (tree_of here)) Zero rest t → Follows (parent ∷ above) here seen (60 ∷ 47 ∷ bs) t
end_follows parent above here seen t bs space rest w e l =
    (nothing, space, rest, (tt, nothing_ends seen, tt, tt), w, ap (λ x. 60 ∷ 47 ∷ x) e, l)
