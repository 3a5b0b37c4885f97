-- Elements backward: a start tag put before what may follow it.
use Rattle.std.proofs.Common.{◌≡◌, ℕ, ◌+◌, ◌<◌, ◌≤◌, false, Some, List, [], ◌∷◌, ◌++◌, length, sym, ap, subst, ◌∙◌, arith, ◌⊎◌, inl, inr}
use Rattle.ba_tree.specs.declared.trees.Content.{Content}
use Rattle.ba_tree.specs.declared.trees.Content.TheVariants.{Child}
use Rattle.ba_tree.specs.declared.trees.Tree.{Tree}
use Rattle.ba_xml_reader.proofs.SoundNames.{LeadsName, spelled_written}
use Rattle.ba_xml_reader.proofs.SoundPieces.{IsGood, IsRootOf, Outside, Follows, nothing_ends}
use Rattle.ba_xml_reader.proofs.SoundTags.{LeadsInTag, are_pairs}
use Rattle.ba_xml_reader.proofs.CompletePieces.{law}
use Rattle.ba_xml_names.specs.inside.Levels.{settled, with_child, child_level, empty_tree, text_item}
use Rattle.ba_xml_reader.specs.inside.Machine.{root_of}
use Rattle.ba_xml_words.specs.inside.Names.{spelled, one_letter}
use Rattle.ba_xml_names.specs.Namespaces.{opening, scope}
use Rattle.ba_xml_grammar.specs.Grammar.{Start, Pieces, nothing, empty, element, Misc, written, written_misc, written_pairs, written_tag}
use Rattle.ba_xml_grammar.specs.Grammar.{tag, or_nothing, meant, element_tree, meaning, IsMisc, Small, IsStart}
use Rattle.ba_xml_grammar.specs.GrammarWords.{IsWhite, written_name}
use Rattle.ba_xml_names.specs.declared.levels.Level.{Level}
use Rattle.ba_xml_names.specs.declared.levels.Opening.{Opening}
use Rattle.ba_xml_words.specs.declared.names.RawName.{RawName}
use Rattle.ba_xml_reader.specs.declared.states.Seen.{Seen}
use Rattle.ba_xml_reader.specs.declared.states.Seen.TheVariants.{Zero}
use Rattle.ba_xml_names.specs.declared.tags.Tag.{Tag}

-- "/>", and then what follows the empty element
abbrev pub ClosesEmpty : List Level → Level → Tree → Tag → List ℕ → Type 0
ClosesEmpty outer here t g bs = (o : Opening) × (rest : List ℕ) × (opening (scope (here ∷ outer)) g ≡ Some o) × (bs ≡ 47 ∷ 62 ∷ rest)
    × Follows outer (with_child (settled here) (empty_tree o)) Zero rest t

-- ">", and then what follows in the element
abbrev pub ClosesStart : List Level → Level → Tree → Tag → List ℕ → Type 0
ClosesStart outer here t g bs = (o : Opening) × (rest : List ℕ) × (opening (scope (here ∷ outer)) g ≡ Some o) × (bs ≡ 62 ∷ rest)
    × Follows (settled here ∷ outer) (child_level o (spelled g.name)) Zero rest t

abbrev pub Closes : List Level → Level → Tree → Tag → List ℕ → Type 0
Closes outer here t g bs = ClosesEmpty outer here t g bs ⊎ ClosesStart outer here t g bs

-- where an element may stand: as the root, or among the pieces of another
abbrev pub Stands : List Level → Level → List ℕ → Tree → Type 0
Stands [] here bs t = IsRootOf here bs t
Stands (parent ∷ above) here bs t = (seen : Seen) → Follows (parent ∷ above) here seen bs t

is_meant : (outer : List Level) (here : Level) (s : Start) (o : Opening) → opening (scope (here ∷ outer)) (tag s) ≡ Some o
    → o ≡ meant (scope (here ∷ outer)) s
is_meant outer here s o e = sym (ap or_nothing e)

-- behind the root
BehindRoot : List Content → List ℕ → Tree → Type 0
BehindRoot content bs t = (behind : Misc) × IsMisc behind × (bs ≡ written_misc behind []) × (root_of content ≡ Some t)

behind_root : (here : Level) (content : List Content) (c : Content) (bs : List ℕ) (t : Tree) → Outside here (content ++ c ∷ []) bs t
    → BehindRoot (content ++ c ∷ []) bs t
unfolding BehindRoot
behind_root here [] c bs t l = l
behind_root here (x ∷ xs) c bs t l = l

first_level : 1 ≤ 32
first_level = omega arith

level_room : (outer : List Level) → length outer < 32 → length outer + 1 ≤ 32
level_room outer l = omega (arith, l)

-- ---- empty elements

empty_stands : (outer : List Level) (here : Level) (t : Tree) (s : Start) (rest : List ℕ) → length outer < 32 → IsStart s
    → length s.pairs ≤ 32 → (o : Opening) → opening (scope (here ∷ outer)) (tag s) ≡ Some o
    → Follows outer (with_child (settled here) (empty_tree (meant (scope (here ∷ outer)) s))) Zero rest t
    → Stands outer here (60 ∷ written_tag s (47 ∷ 62 ∷ rest)) t
unfolding BehindRoot
empty_stands [] here t s rest r i n o e l =
    let b = behind_root (with_child (settled here) (empty_tree (meant (scope (here ∷ [])) s))) (here.content ++ text_item here.text)
    (Child (empty_tree (meant (scope (here ∷ [])) s))) rest t l in
    (empty s nothing, b.0, tt, (i, tt), ((o, e), tt), (first_level, n, tt), b.1, ap (λ x. 60 ∷ written_tag s (47 ∷ 62 ∷ x)) b.2, b.3)
empty_stands (parent ∷ above) here t s rest r i n o e l = λ seen. (
  empty s l.0,
  l.1,
  l.2,
  ((i, l.3.0), nothing_ends seen, ((o, e), l.3.2), (level_room (parent ∷ above) r, n, l.3.3)),
  l.4,
  ap (λ x. 60 ∷ written_tag s (47 ∷ 62 ∷ x)) l.5,
  l.6,
)

-- ---- elements

element_stands : (outer : List Level) (here : Level) (t : Tree) (s : Start) (p : Pieces) (space rest : List ℕ) → length outer < 32
    → IsStart s → length s.pairs ≤ 32 → (o : Opening) → opening (scope (here ∷ outer)) (tag s) ≡ Some o
    → IsGood (settled here ∷ outer) (child_level (meant (scope (here ∷ outer)) s) (spelled s.name)) Zero p
    → Small ((length outer + 1) + 1) p → IsWhite space
    → Follows outer (with_child (settled here)
    (element_tree (meant (scope (here ∷ outer)) s) (meaning ((meant (scope (here ∷ outer)) s).declarations ++ scope (here ∷ outer)) p)))
    Zero rest t
    → Stands outer here (60 ∷ written_tag s (62 ∷ written p (60 ∷ 47 ∷ (written_name s.name (space ++ 62 ∷ rest))))) t
unfolding BehindRoot
element_stands [] here t s p space rest r i n o e g small w l =
    let b = behind_root (with_child (settled here)
    (element_tree (meant (scope (here ∷ [])) s) (meaning ((meant (scope (here ∷ [])) s).declarations ++ scope (here ∷ [])) p)))
    (here.content ++ text_item here.text) (Child
    (element_tree (meant (scope (here ∷ [])) s) (meaning ((meant (scope (here ∷ [])) s).declarations ++ scope (here ∷ [])) p))) rest t
    l in (
      element s p space nothing,
      b.0,
      tt,
      (i, g.0, w, tt),
      ((o, e), g.2, tt),
      (first_level, n, small, tt),
      b.1,
      ap (λ x. 60 ∷ written_tag s (62 ∷ written p (60 ∷ 47 ∷ (written_name s.name (space ++ 62 ∷ x))))) b.2,
      b.3,
    )
element_stands (parent ∷ above) here t s p space rest r i n o e g small w l = λ seen. (
  element s p space l.0,
  l.1,
  l.2,
  ((i, g.0, w, l.3.0), nothing_ends seen, ((o, e), g.2, l.3.2), (level_room (parent ∷ above) r, n, small, l.3.3)),
  l.4,
  ap (λ x. 60 ∷ written_tag s (62 ∷ written p (60 ∷ 47 ∷ (written_name s.name (space ++ 62 ∷ x))))) l.5,
  l.6,
)

deeper : (outer : List Level) (here : Level) (p : Pieces) → Small (length (here ∷ outer) + 1) p → Small ((length outer + 1) + 1) p
deeper outer here p s = subst (λ n. Small n p) same s
  where
    same : length (here ∷ outer) + 1 ≡ (length outer + 1) + 1
    same = omega arith

closed_empty : (outer : List Level) (here : Level) (t : Tree) (s : Start) (bs : List ℕ) → length outer < 32 → IsStart s
    → length s.pairs ≤ 32 → ClosesEmpty outer here t (tag s) bs → Stands outer here (60 ∷ written_tag s bs) t
closed_empty outer here t s bs r i n c = subst (λ x. Stands outer here (60 ∷ written_tag s x) t) (sym c.3)
    (empty_stands outer here t s c.1 r i n c.0 c.2
    (subst (λ o. Follows outer (with_child (settled here) (empty_tree o)) Zero c.1 t) (is_meant outer here s c.0 c.2) c.4))

closed_start : (outer : List Level) (here : Level) (t : Tree) (s : Start) (bs : List ℕ) → length outer < 32 → IsStart s
    → length s.pairs ≤ 32 → ClosesStart outer here t (tag s) bs → Stands outer here (60 ∷ written_tag s bs) t
closed_start outer here t s bs r i n c = subst (λ x. Stands outer here (60 ∷ written_tag s x) t) (sym c.3)
    (inside (subst (λ o. Follows (settled here ∷ outer) (child_level o (spelled s.name)) Zero c.1 t) (is_meant outer here s c.0 c.2) c.4))
  where
    inside : Follows (settled here ∷ outer) (child_level (meant (scope (here ∷ outer)) s) (spelled s.name)) Zero c.1 t
        → Stands outer here (60 ∷ written_tag s (62 ∷ c.1)) t
    inside l = subst (λ x. Stands outer here (60 ∷ written_tag s (62 ∷ x)) t)
        (sym (l.5 ∙ ap (λ x. written l.0 (60 ∷ 47 ∷ x)) (spelled_written s.name (l.1 ++ 62 ∷ l.2))))
        (element_stands outer here t s l.0 l.1 l.2 r i n c.0 c.2 l.3 (deeper outer (settled here) l.0 l.3.3) l.4
        (subst (λ x. Follows outer (with_child (settled here) (element_tree (meant (scope (here ∷ outer)) s) x)) Zero l.2 t)
        (law ((meant (scope (here ∷ outer)) s).declarations ++ scope (here ∷ outer)) [] [] l.0) l.6))

pub closed : (outer : List Level) (here : Level) (t : Tree) (s : Start) (bs : List ℕ) → length outer < 32 → IsStart s → length s.pairs ≤ 32
    → Closes outer here t (tag s) bs → Stands outer here (60 ∷ written_tag s bs) t
closed outer here t s bs r i n (inl c) = closed_empty outer here t s bs r i n c
closed outer here t s bs r i n (inr c) = closed_start outer here t s bs r i n c

-- ---- from the name's first byte on

abbrev pub BehindTagName : List Level → Level → Tree → RawName → List ℕ → Type 0
BehindTagName outer here t name bs = LeadsInTag (Closes outer here t) (record { name = name; attributes = [] }) false bs

pub tag_stands : (outer : List Level) (here : Level) (t : Tree) (b : ℕ) (bs : List ℕ) → length outer < 32
    → LeadsName (one_letter b) (BehindTagName outer here t) bs → Stands outer here (60 ∷ b ∷ bs) t
tag_stands outer here t b bs r n = subst (λ x. Stands outer here (60 ∷ x) t) (sym bytes)
    (closed outer here t (record { name = n.0; pairs = n.6.0; space = n.6.1 }) n.6.2 r (
      n.3,
      are_pairs [] n.6.0 n.6.3,
      n.6.5,
    ) (few n.6.4) n.6.7)
  where
    few : length {A = ℕ} [] + length n.6.0 ≤ 32 → length n.6.0 ≤ 32
    few h = omega (arith, h)

    bytes : b ∷ bs ≡ written_name n.0 (written_pairs n.6.0 (n.6.1 ++ n.6.2))
    bytes = ap (λ x. b ∷ x) n.5 ∙ ap (λ x. x ++ n.2) (sym n.4) ∙ spelled_written n.0 n.2 ∙ ap (λ x. written_name n.0 x) n.6.6
