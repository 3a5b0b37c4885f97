-- Whole documents backward, given what is read of a declaration.
use Rattle.std.proofs.Common.{◌≡◌, ℕ, Bool, true, false, cond, ◌==◌, Option, Some, None, List, [], ◌∷◌, refl, sym, ap, subst, ◌∙◌}
use Rattle.std.proofs.lemmas.Bool.{eqb-true}
use Rattle.ba_tree.specs.declared.trees.Content.{Content}
use Rattle.ba_tree.specs.declared.trees.Content.TheVariants.{Child, outs-Child}
use Rattle.ba_tree.specs.declared.trees.Tree.{Tree}
use Rattle.ba_xml_reader.proofs.SoundKinds.{IsMark, mark_told}
use Rattle.ba_xml_reader.proofs.SoundPieces.{Outside, space_follows}
use Rattle.ba_xml_reader.proofs.SoundSteps.{leads, open_back}
use Rattle.ba_xml_reader.proofs.CompleteLayers.{stays}
use Rattle.ba_xml_reader.proofs.CompletePieces.{content_after}
use Rattle.ba_xml_reader.proofs.CompleteSteps.{steps, none, go}
use Rattle.ba_xml_words.specs.Classes.{class_of}
use Rattle.ba_xml_reader.specs.inside.Content.{begin_after, wanted_after, first_after, first_open_after, open_after}
use Rattle.ba_xml_reader.specs.inside.Machine.{document, act_by, root_of, child_by, ended_at}
use Rattle.ba_xml_names.specs.Namespaces.{first_scope}
use Rattle.ba_xml_grammar.specs.Grammar.{Pieces, nothing, empty, element, Head, no_head, Document, written_mark, written_heading}
use Rattle.ba_xml_grammar.specs.Grammar.{written_misc, written_document, meaning, IsRoot, IsHeading, IsDocument, Small}
use Rattle.ba_xml_grammar.specs.GrammarTexts.{MeansTree}
use Rattle.ba_xml_words.specs.declared.classes.Class.{Class}
use Rattle.ba_xml_words.specs.declared.classes.Class.TheVariants as class
use Rattle.ba_xml_words.specs.declared.faults.Reason.{Reason}
use Rattle.ba_xml_words.specs.declared.faults.Reason.TheVariants.{Syntax}
use Rattle.ba_xml_words.specs.declared.headings.Heading.TheVariants.{Target}
use Rattle.ba_xml_reader.specs.declared.states.Mode.{Mode}
use Rattle.ba_xml_reader.specs.declared.states.Mode.TheVariants as mode
use Rattle.ba_xml_reader.specs.declared.states.Seen.TheVariants.{Zero}
use Rattle.ba_xml_reader.specs.declared.states.State.{State}
use Rattle.ba_xml_reader.specs.declared.states.State.TheVariants.{Refused, At}

-- the states lead over the bytes to this tree
abbrev pub IsReadTo : Tree → State → List ℕ → Type 0
IsReadTo t s bs = ended_at (steps s bs) ≡ Some t

abbrev pub top : Mode → State
top m = At [] document m

same_some : (a b : Tree) → ◌≡◌ {A = Option Tree} (Some a) (Some b) → a ≡ b
same_some a b e = cc

pub no_tree : (t : Tree) → ◌≡◌ {A = Option Tree} None (Some t) → ⊥
no_tree t e = cc

pub no_refused : (r : Reason) (bs : List ℕ) (t : Tree) → IsReadTo t (Refused r) bs → ⊥
no_refused r bs t e = no_tree t (sym (ap ended_at (stays r bs)) ∙ e)

only_child : (a t : Tree) → root_of (Child a ∷ []) ≡ Some t → ◌≡◌ {A = List Content} (Child a ∷ []) (Child t ∷ [])
only_child a t e = ap (λ x. Child x ∷ []) (same_some a t (sym (ap child_by (outs-Child a)) ∙ e))

root_tree : (root : Pieces) (t : Tree) → IsRoot root → root_of (content_after first_scope [] [] root) ≡ Some t
    → meaning first_scope root ≡ Child t ∷ []
root_tree (empty s nothing) t i e = only_child _ t e
root_tree (element s inside space nothing) t i e = only_child _ t e
root_tree _ t i e = absurd i

-- a declaration, or none, and what follows it
abbrev pub Headed : Tree → List ℕ → Type 0
Headed t bs = (h : Head) × (rest : List ℕ) × IsHeading h × (bs ≡ written_heading h rest) × Outside document [] rest t

abbrev pub IsDocumentOf : Tree → List ℕ → Type 0
IsDocumentOf t bs = (d : Document) × IsDocument d × (bs ≡ written_document d) × Small 1 d.root × MeansTree d t

whole : (t : Tree) (mark : Bool) (bs : List ℕ) → Headed t bs → IsDocumentOf t (written_mark mark bs)
whole t mark bs h = (
  record { mark = mark; heading = h.0; before = h.4.0; root = h.4.4.0; behind = h.4.4.1 },
  (h.2, h.4.2, h.4.4.2, h.4.4.3, h.4.4.6),
  ap (written_mark mark) (h.3 ∙ ap (written_heading h.0) (h.4.3 ∙ ap (written_misc h.4.0) h.4.4.7)),
  h.4.4.5,
  (h.4.4.4, root_tree h.4.4.0 t h.4.4.2 h.4.4.8),
)

bare : (t : Tree) (bs : List ℕ) → Outside document [] bs t → Headed t bs
bare t bs o = (no_head, bs, tt, refl, o)

-- the step over one byte
pub next : (t : Tree) (m : Mode) (b : ℕ) (bs : List ℕ) → IsReadTo t (top m) (b ∷ bs) → IsReadTo t (act_by [] document m b (class_of b)) bs
next t m b bs e = sym (ap ended_at (go [] document m b (class_of b) bs refl)) ∙ e

module _ (t : Tree) (declared : (bs : List ℕ) → IsReadTo t (top (mode.Declaring (Target 0))) bs → Headed t (60 ∷ 63 ∷ bs)) where
  first_open : (b : ℕ) (bs : List ℕ) (k : Class) → IsMark k b → IsReadTo t (first_open_after [] document b k) bs → Headed t (60 ∷ b ∷ bs)
  first_open b bs class.Question m e = subst (λ x. Headed t (60 ∷ x ∷ bs)) (sym m) (declared bs e)
  first_open b bs k m e = bare t (60 ∷ b ∷ bs) (open_back [] document t b bs k m (leads bs (open_after [] document b k) t e) Zero)

  opened : (bs : List ℕ) → IsReadTo t (top mode.FirstOpen) bs → Headed t (60 ∷ bs)
  opened [] e = absurd (no_tree t (sym (ap ended_at (none (top mode.FirstOpen))) ∙ e))
  opened (b ∷ bs) e = first_open b bs (class_of b) (mark_told b) (next t mode.FirstOpen b bs e)

  spaced : (b : ℕ) (bs : List ℕ) → IsMark class.Space b → IsReadTo t (top (mode.Inside Zero)) bs → Headed t (b ∷ bs)
  spaced b bs m e = bare t (b ∷ bs) (space_follows document Zero Zero t b bs m (leads bs (top (mode.Inside Zero)) t e))

  first_by : (b : ℕ) (bs : List ℕ) (k : Class) → IsMark k b → IsReadTo t (first_after [] document k) bs → Headed t (b ∷ bs)
  first_by b bs class.Less m e = subst (λ x. Headed t (x ∷ bs)) (sym m) (opened bs e)
  first_by b bs class.Space m e = spaced b bs m e
  first_by b bs _ m e = absurd (no_refused Syntax bs t e)

  marked : (bs : List ℕ) → IsReadTo t (top mode.First) bs → Headed t bs
  marked [] e = absurd (no_tree t (sym (ap ended_at (none (top mode.First))) ∙ e))
  marked (b ∷ bs) e = first_by b bs (class_of b) (mark_told b) (next t mode.First b bs e)

  wanted : (b n : ℕ) (bs : List ℕ) (m : Mode) → IsReadTo t (wanted_after [] document b n m) bs → (b ≡ n) × IsReadTo t (top m) bs
  wanted b n bs m e = by (b == n) refl e
    where
      by : (q : Bool) → (b == n) ≡ q → IsReadTo t (cond q (top m) (Refused Syntax)) bs → (b ≡ n) × IsReadTo t (top m) bs
      by true q e = (eqb-true b n q, e)
      by false q e = absurd (no_refused Syntax bs t e)

  third : (bs : List ℕ) → IsReadTo t (top mode.MarkTwo) bs → (rest : List ℕ) × (bs ≡ 0xBF ∷ rest) × Headed t rest
  third [] e = absurd (no_tree t (sym (ap ended_at (none (top mode.MarkTwo))) ∙ e))
  third (b ∷ bs) e = let w = wanted b 0xBF bs mode.First (next t mode.MarkTwo b bs e) in (bs, ap (λ x. x ∷ bs) w.0, marked bs w.1)

  second : (bs : List ℕ) → IsReadTo t (top mode.MarkOne) bs → (rest : List ℕ) × (bs ≡ 0xBB ∷ 0xBF ∷ rest) × Headed t rest
  second [] e = absurd (no_tree t (sym (ap ended_at (none (top mode.MarkOne))) ∙ e))
  second (b ∷ bs) e = let w = wanted b 0xBB bs mode.MarkTwo (next t mode.MarkOne b bs e) in
      let r = third bs w.1 in
      (r.0, ap (λ x. x ∷ bs) w.0 ∙ ap (λ x. 0xBB ∷ x) r.1, r.2)

  begun : (b : ℕ) (bs : List ℕ) (k : Class) → IsMark k b → IsReadTo t (begin_after [] document b k) bs → IsDocumentOf t (b ∷ bs)
  begun b bs class.Less m e = subst (λ x. IsDocumentOf t (x ∷ bs)) (sym m) (whole t false (60 ∷ bs) (opened bs e))
  begun b bs class.Space m e = whole t false (b ∷ bs) (spaced b bs m e)
  begun b bs class.High m e = let w = wanted b 0xEF bs mode.MarkOne e in
      let r = second bs w.1 in
      subst (λ x. IsDocumentOf t x) (sym (ap (λ x. x ∷ bs) w.0 ∙ ap (λ x. 0xEF ∷ x) r.1)) (whole t true r.0 r.2)
  begun b bs _ m e = absurd (no_refused Syntax bs t e)

  -- what the states read is a document of that tree
  pub document_read : (bs : List ℕ) → IsReadTo t (top mode.Begin) bs → IsDocumentOf t bs
  document_read [] e = absurd (no_tree t (sym (ap ended_at (none (top mode.Begin))) ∙ e))
  document_read (b ∷ bs) e = begun b bs (class_of b) (mark_told b) (next t mode.Begin b bs e)
