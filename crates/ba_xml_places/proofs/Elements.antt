-- Elements: a start tag put before what may follow it, whatever its prefixes mean.
use Rattle.std.proofs.Common.{◌≡◌, ℕ, false, List, [], ◌∷◌, ◌++◌, refl, sym, ap, subst, ◌∙◌, ◌⊎◌, inl, inr}
use Rattle.ba_xml_places.proofs.Pieces.{HasRoot, Rest}
use Rattle.ba_xml_places.proofs.Tags.{LeadsInTag}
use Rattle.ba_xml_reader.proofs.SoundNames.{LeadsName, spelled_written}
use Rattle.ba_xml_reader.proofs.SoundPieces.{nothing_ends}
use Rattle.ba_xml_reader.proofs.SoundTags.{are_pairs}
use Rattle.ba_xml_words.specs.inside.Names.{spelled, one_letter}
use Rattle.ba_xml_grammar.specs.Grammar.{Start, Pieces, nothing, empty, element, written, written_pairs, written_tag, Allowed, IsStart}
use Rattle.ba_xml_grammar.specs.GrammarWords.{IsWhite, written_name}
use Rattle.ba_xml_names.specs.declared.levels.Level.{Level}
use Rattle.ba_xml_words.specs.declared.names.RawName.{RawName}
use Rattle.ba_xml_reader.specs.declared.states.Seen.{Seen}
use Rattle.ba_xml_reader.specs.declared.states.Seen.TheVariants.{Zero}

-- "/>", and then what follows the empty element
abbrev pub ClosesEmpty : List Level → Level → List ℕ → Type 0
ClosesEmpty outer here bs = (rest : List ℕ) × (bs ≡ 47 ∷ 62 ∷ rest) × Rest outer here.spelled Zero rest

-- ">", and then what follows in the element
abbrev pub ClosesStart : List Level → Level → RawName → List ℕ → Type 0
ClosesStart outer here name bs = (rest : List ℕ) × (bs ≡ 62 ∷ rest) × Rest (here ∷ outer) (spelled name) Zero rest

abbrev pub Closes : List Level → Level → RawName → List ℕ → Type 0
Closes outer here name bs = ClosesEmpty outer here bs ⊎ ClosesStart outer here name bs

-- where an element may stand: as the root, or among the pieces of another
abbrev pub Stands : List Level → Level → List ℕ → Type 0
Stands [] here bs = HasRoot bs
Stands (parent ∷ above) here bs = (seen : Seen) → Rest (parent ∷ above) here.spelled seen bs

empty_stands : (outer : List Level) (here : Level) (s : Start) (rest : List ℕ) → IsStart s → Rest outer here.spelled Zero rest
    → Stands outer here (60 ∷ written_tag s (47 ∷ 62 ∷ rest))
empty_stands [] here s rest i l = (empty s nothing, rest, tt, (i, tt), refl, l)
empty_stands (parent ∷ above) here s rest i l =
    λ seen. (empty s l.0, l.1, l.2, (i, l.3), nothing_ends seen, l.5, ap (λ x. 60 ∷ written_tag s (47 ∷ 62 ∷ x)) l.6, l.7)

element_stands : (outer : List Level) (here : Level) (s : Start) (p : Pieces) (space rest : List ℕ) → IsStart s → Allowed p → IsWhite space
    → Rest outer here.spelled Zero rest
    → Stands outer here (60 ∷ written_tag s (62 ∷ written p (60 ∷ 47 ∷ (written_name s.name (space ++ 62 ∷ rest)))))
element_stands [] here s p space rest i g w l = (element s p space nothing, rest, tt, (i, g, w, tt), refl, l)
element_stands (parent ∷ above) here s p space rest i g w l = λ seen. (
  element s p space l.0,
  l.1,
  l.2,
  (i, g, w, l.3),
  nothing_ends seen,
  l.5,
  ap (λ x. 60 ∷ written_tag s (62 ∷ written p (60 ∷ 47 ∷ (written_name s.name (space ++ 62 ∷ x))))) l.6,
  l.7,
)

closed_start : (outer : List Level) (here : Level) (s : Start) (bs : List ℕ) → IsStart s → ClosesStart outer here s.name bs
    → Stands outer here (60 ∷ written_tag s bs)
closed_start outer here s bs i c = subst (λ x. Stands outer here (60 ∷ written_tag s x))
    (sym (c.1 ∙ ap (λ x. 62 ∷ x) (c.2.6 ∙ ap (λ x. written c.2.0 (60 ∷ 47 ∷ x)) (spelled_written s.name (c.2.1 ++ 62 ∷ c.2.2)))))
    (element_stands outer here s c.2.0 c.2.1 c.2.2 i c.2.3 c.2.5 c.2.7)

closed : (outer : List Level) (here : Level) (s : Start) (bs : List ℕ) → IsStart s → Closes outer here s.name bs
    → Stands outer here (60 ∷ written_tag s bs)
closed outer here s bs i (inl c) = subst (λ x. Stands outer here (60 ∷ written_tag s x)) (sym c.1) (empty_stands outer here s c.0 i c.2)
closed outer here s bs i (inr c) = closed_start outer here s bs i c

-- ---- from the name's first byte on

abbrev pub BehindTagName : List Level → Level → RawName → List ℕ → Type 0
BehindTagName outer here name bs = LeadsInTag (Closes outer here) (record { name = name; attributes = [] }) false bs

pub tag_stands : (outer : List Level) (here : Level) (b : ℕ) (bs : List ℕ) → LeadsName (one_letter b) (BehindTagName outer here) bs
    → Stands outer here (60 ∷ b ∷ bs)
tag_stands outer here b bs n = subst (λ x. Stands outer here (60 ∷ x)) (sym bytes)
    (closed outer here (record { name = n.0; pairs = n.6.0; space = n.6.1 }) n.6.2 (n.3, are_pairs [] n.6.0 n.6.3, n.6.4) n.6.6)
  where
    bytes : b ∷ bs ≡ written_name n.0 (written_pairs n.6.0 (n.6.1 ++ n.6.2))
    bytes = ap (λ x. b ∷ x) n.5 ∙ ap (λ x. x ++ n.2) (sym n.4) ∙ spelled_written n.0 n.2 ∙ ap (λ x. written_name n.0 x) n.6.5
