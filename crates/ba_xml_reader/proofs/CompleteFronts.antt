-- Of a text, whatever its prefixes mean and its size, the machine refuses nothing but prefixes and size.
use Rattle.std.proofs.Common.{◌≡◌, ℕ, Bool, true, false, cond, nat_lt, ◌⊎◌, inl, inr, Option, Some, None, List, [], ◌∷◌, ◌++◌, map, length}
use Rattle.std.proofs.Common.{encode_utf8, refl, sym, ap, ◌∙◌, subst, append_assoc, append-nil}
use Rattle.std.proofs.lemmas.Bool.{ltb-true}
use Rattle.ba_tree.specs.declared.trees.Content.{Content}
use Rattle.ba_xml_reader.proofs.CompleteContent.{greater_kind, character_runs, CharacterRuns, brackets, section_word}
use Rattle.ba_xml_reader.proofs.CompleteDocuments.{Begins, ReachesRoot, outside, misc_runs, heading_reaches, mark_begins}
use Rattle.ba_xml_reader.proofs.CompleteLayers.{stays}
use Rattle.ba_xml_reader.proofs.CompleteNames.{name_runs, letter_kind}
use Rattle.ba_xml_reader.proofs.CompletePieces.{Firsts, holding, less_kind, slash_kind, greater_breaks, slash_breaks, end_runs, law}
use Rattle.ba_xml_reader.proofs.CompletePieces.{comment_in, section_in, reference_in, row_safe, with_element, content_after, text_after}
use Rattle.ba_xml_reader.proofs.CompleteSteps.{steps, none, one, by_kind, go}
use Rattle.ba_xml_reader.proofs.CompleteTags.{IsBreak, gap_runs, pair_runs, space_runs, pairs_break, white_break, tag_named, in_tag}
use Rattle.ba_xml_reader.proofs.CompleteTags.{with_pairs, bare, TagRuns}
use Rattle.ba_xml_words.specs.Classes.{is_first_letter, class_of}
use Rattle.ba_xml_names.specs.inside.Levels.{settled, with_child, child_level, empty_tree}
use Rattle.ba_xml_reader.specs.inside.Machine.{state_after, document}
use Rattle.ba_xml_words.specs.inside.Names.{one_letter, spelled}
use Rattle.ba_xml_names.specs.Namespaces.{opening, scope, first_scope}
use Rattle.ba_xml_names.specs.inside.Tags.{with_attribute}
use Rattle.ba_xml_reader.specs.inside.Tags.{tag_name_by, slashed_at, opened_at}
use Rattle.ba_xml_grammar.specs.Grammar.{Pair, Start, Pieces, nothing, character, reference, section, comment, empty, element, Misc, Head}
use Rattle.ba_xml_grammar.specs.Grammar.{Document, written, written_pair, written_pairs, written_tag, written_quoted, written_end}
use Rattle.ba_xml_grammar.specs.Grammar.{written_misc, written_heading, written_mark, written_document, attribute, tag, meant, or_nothing}
use Rattle.ba_xml_grammar.specs.Grammar.{meaning, element_tree, row, IsPair, ArePairs, IsStart, Allowed, IsMisc, IsRoot, IsHeading}
use Rattle.ba_xml_grammar.specs.Grammar.{IsDocument}
use Rattle.ba_xml_grammar.specs.GrammarWords.{IsPrefix, IsPlainName, IsWhite, Nowhere, written_name, written_prefix, character_of}
use Rattle.ba_xml_words.specs.declared.classes.Class.TheVariants as class
use Rattle.ba_xml_words.specs.declared.faults.Reason.{Reason}
use Rattle.ba_xml_words.specs.declared.faults.Reason.TheVariants as reason
use Rattle.ba_xml_names.specs.declared.levels.Level.{Level}
use Rattle.ba_xml_names.specs.declared.levels.Opening.{Opening}
use Rattle.ba_xml_names.specs.declared.tags.Tag.{Tag}
use Rattle.ba_xml_reader.specs.declared.states.Mode.TheVariants as mode
use Rattle.ba_xml_reader.specs.declared.states.Seen.{Seen}
use Rattle.ba_xml_reader.specs.declared.states.Seen.TheVariants.{Zero}
use Rattle.ba_xml_reader.specs.declared.states.State.{State}
use Rattle.ba_xml_reader.specs.declared.states.State.TheVariants.{At, Refused}

-- reasons that have nothing to do with what is written
abbrev pub IsLimit : Reason → Type 0
IsLimit reason.NotUtf8 = ⊥
IsLimit reason.Syntax = ⊥
IsLimit reason.Truncated = ⊥
IsLimit reason.Namespace = Unit {0}
IsLimit reason.Depth = Unit {0}
IsLimit reason.Size = Unit {0}
IsLimit reason.Attributes = Unit {0}

abbrev pub Limited : State → List ℕ → Type 0
Limited s bs = (r : Reason) × (steps s bs ≡ Refused r) × IsLimit r

-- the states lead so, or to such a reason
abbrev Or : State → List ℕ → State → List ℕ → Type 0
Or s bs t rest = (steps s bs ≡ steps t rest) ⊎ Limited s bs

before : (s t u : State) (bs cs ds : List ℕ) → steps s bs ≡ steps t cs → Or t cs u ds → Or s bs u ds
before s t u bs cs ds e (inl f) = inl (e ∙ f)
before s t u bs cs ds e (inr l) = inr (l.0, e ∙ l.1, l.2)

next : (s t u : State) (bs cs ds : List ℕ) → Or s bs t cs → Or t cs u ds → Or s bs u ds
next s t u bs cs ds (inl e) o = before s t u bs cs ds e o
next s t u bs cs ds (inr l) o = inr l

-- ---- where a name is refused at its first letter

first_refused : (s : State) (r : Reason) → ((b : ℕ) → is_first_letter b ≡ true → state_after s b ≡ Refused r)
    → (prefix local rest : List ℕ) → IsPrefix prefix → IsPlainName local → steps s (written_prefix prefix (local ++ rest)) ≡ Refused r
first_refused s r f [] [] rest p n = absurd n
first_refused s r f [] (b ∷ bs) rest p n = one s (Refused r) b (bs ++ rest) (f b n.0) ∙ stays r (bs ++ rest)
first_refused s r f (b ∷ bs) local rest p n =
    one s (Refused r) b (bs ++ 58 ∷ (local ++ rest)) (f b p.0) ∙ stays r (bs ++ 58 ∷ (local ++ rest))

-- ---- attributes

attribute_refused : (outer : List Level) (here : Level) (t : Tag) → nat_lt (length t.attributes) 32 ≡ false → (b : ℕ)
    → is_first_letter b ≡ true
    → state_after (in_tag outer here t true) b ≡ Refused reason.Attributes
attribute_refused outer here t l b e = by_kind outer here (mode.InTag t true) b class.Letter (letter_kind b e)
    ∙ ap (λ q. cond q (At outer here (mode.AttributeName t (one_letter b))) (Refused reason.Attributes)) l

pair_or : (outer : List Level) (here : Level) (t : Tag) (spaced : Bool) (a : Pair) (rest : List ℕ) → IsPair t.attributes a → (q : Bool)
    → nat_lt (length t.attributes) 32 ≡ q
    → Or (in_tag outer here t spaced) (written_pair a rest) (in_tag outer here (with_attribute t (attribute a)) false) rest
pair_or outer here t spaced a rest p true e = inl (pair_runs outer here t spaced a rest (ltb-true (length t.attributes) 32 e) p)
pair_or outer here t spaced a rest p false e = inr (
  reason.Attributes,
  gap_runs outer here t spaced a.gap (written_name a.name (a.left ++ 61 ∷ (a.right ++ written_quoted a.quote a.value rest))) p.0
      ∙ first_refused (in_tag outer here t true) reason.Attributes (attribute_refused outer here t e) a.name.prefix a.name.local
      (a.left ++ 61 ∷ (a.right ++ written_quoted a.quote a.value rest)) p.1.0 p.1.1,
  tt,
)

abbrev TagOr : List Level → Level → State → List ℕ → Tag → List ℕ → Type 0
TagOr outer here from bs to rest = (s : Bool) × Or from bs (in_tag outer here to s) rest

pairs_or : (outer : List Level) (here : Level) (t : Tag) (spaced : Bool) (pairs : List Pair) (rest : List ℕ) → ArePairs t.attributes pairs
    → TagOr outer here (in_tag outer here t spaced) (written_pairs pairs rest) (with_pairs t pairs) rest
pairs_or outer here t spaced [] rest p = (
  spaced,
  inl (ap (λ xs. steps (in_tag outer here (record { name = t.name; attributes = xs }) spaced) rest) (sym (append-nil t.attributes))),
)
pairs_or outer here t spaced (a ∷ more) rest p = after (pairs_or outer here (with_attribute t (attribute a)) false more rest p.1)
  where
    after : TagOr outer here (in_tag outer here (with_attribute t (attribute a)) false) (written_pairs more rest)
        (with_pairs (with_attribute t (attribute a)) more) rest
        → TagOr outer here (in_tag outer here t spaced) (written_pairs (a ∷ more) rest) (with_pairs t (a ∷ more)) rest
    after r = (
      r.0,
      next (in_tag outer here t spaced) (in_tag outer here (with_attribute t (attribute a)) false)
          (in_tag outer here (with_pairs t (a ∷ more)) r.0) (written_pair a (written_pairs more rest)) (written_pairs more rest) rest
          (pair_or outer here t spaced a (written_pairs more rest) p.0 (nat_lt (length t.attributes) 32) refl)
          (subst (λ xs. Or (in_tag outer here (with_attribute t (attribute a)) false) (written_pairs more rest)
          (in_tag outer here (record { name = t.name; attributes = xs }) r.0) rest)
          (append_assoc t.attributes (attribute a ∷ []) (map attribute more)) r.1),
    )

-- ---- start tags

tag_or : (outer : List Level) (here : Level) (from : State) (s : Start) (rest : List ℕ) → Firsts outer here from → IsStart s → IsBreak rest
    → TagOr outer here from (written_tag s rest) (tag s) rest
tag_or outer here from s rest first t b = by (pairs_or outer here (bare s.name.prefix s.name.local) false s.pairs (s.space ++ rest) t.1)
  where
    at_pairs : steps from (written_tag s rest) ≡ steps (in_tag outer here (bare s.name.prefix s.name.local) false)
        (written_pairs s.pairs (s.space ++ rest))
    at_pairs = name_runs outer here mode.TagName
        (λ m next b e. by_kind outer here (mode.TagName m) b (class_of b) refl ∙ ap (λ g. tag_name_by outer here b (class_of b) g) e)
        from first s.name (written_pairs s.pairs (s.space ++ rest)) t.0
        ∙ tag_named outer here s.name.prefix s.name.local (written_pairs s.pairs (s.space ++ rest)) t.0.1
        (pairs_break [] s.pairs (s.space ++ rest) t.1 (white_break s.space rest t.2 b))

    end : (sp : Bool) → TagRuns outer here (tag s) sp (s.space ++ rest) (tag s) rest
    end sp = space_runs outer here (tag s) sp s.space rest t.2

    by : TagOr outer here (in_tag outer here (bare s.name.prefix s.name.local) false) (written_pairs s.pairs (s.space ++ rest)) (tag s)
        (s.space ++ rest) → TagOr outer here from (written_tag s rest) (tag s) rest
    by r = (
      (end r.0).0,
      before from (in_tag outer here (bare s.name.prefix s.name.local) false) (in_tag outer here (tag s) (end r.0).0) (written_tag s rest)
          (written_pairs s.pairs (s.space ++ rest)) rest at_pairs
          (next (in_tag outer here (bare s.name.prefix s.name.local) false) (in_tag outer here (tag s) r.0)
          (in_tag outer here (tag s) (end r.0).0) (written_pairs s.pairs (s.space ++ rest)) (s.space ++ rest) rest r.1
          (inl (end r.0).1)),
    )

opened_or : (outer : List Level) (here : Level) (s : Start) (rest : List ℕ) (o : Option Opening)
    → opening (scope (here ∷ outer)) (tag s) ≡ o
    → Or (opened_at outer here (spelled s.name) (opening (scope (here ∷ outer)) (tag s))) rest
    (At (settled here ∷ outer) (child_level (meant (scope (here ∷ outer)) s) (spelled s.name)) (mode.Inside Zero)) rest
opened_or outer here s rest None e = inr (
  reason.Namespace,
  ap (λ o. steps (opened_at outer here (spelled s.name) o) rest) e ∙ stays reason.Namespace rest,
  tt,
)
opened_or outer here s rest (Some o) e = inl (ap (λ o. steps (opened_at outer here (spelled s.name) o) rest) e
    ∙ ap (λ o. steps (At (settled here ∷ outer) (child_level o (spelled s.name)) (mode.Inside Zero)) rest) (sym (ap or_nothing e)))

slashed_or : (outer : List Level) (here : Level) (s : Start) (rest : List ℕ) (o : Option Opening)
    → opening (scope (here ∷ outer)) (tag s) ≡ o
    → Or (slashed_at outer here (opening (scope (here ∷ outer)) (tag s))) rest
    (At outer here (mode.Slashed (meant (scope (here ∷ outer)) s))) rest
slashed_or outer here s rest None e = inr (
  reason.Namespace,
  ap (λ o. steps (slashed_at outer here o) rest) e ∙ stays reason.Namespace rest,
  tt,
)
slashed_or outer here s rest (Some o) e =
    inl (ap (λ o. steps (slashed_at outer here o) rest) e ∙ ap (λ o. steps (At outer here (mode.Slashed o)) rest) (sym (ap or_nothing e)))

start_or : (outer : List Level) (here : Level) (from : State) (s : Start) (rest : List ℕ) → Firsts outer here from → IsStart s
    → Or from (written_tag s (62 ∷ rest)) (At (settled here ∷ outer) (child_level (meant (scope (here ∷ outer)) s) (spelled s.name))
    (mode.Inside Zero)) rest
start_or outer here from s rest f t = by (tag_or outer here from s (62 ∷ rest) f t greater_breaks)
  where
    to : State
    to = At (settled here ∷ outer) (child_level (meant (scope (here ∷ outer)) s) (spelled s.name)) (mode.Inside Zero)

    by : TagOr outer here from (written_tag s (62 ∷ rest)) (tag s) (62 ∷ rest)
        → Or from (written_tag s (62 ∷ rest)) (At (settled here ∷ outer) (child_level (meant (scope (here ∷ outer)) s) (spelled s.name))
        (mode.Inside Zero)) rest
    by r = next from (in_tag outer here (tag s) r.0)
        (At (settled here ∷ outer) (child_level (meant (scope (here ∷ outer)) s) (spelled s.name)) (mode.Inside Zero))
        (written_tag s (62 ∷ rest)) (62 ∷ rest) rest r.1
        (before (in_tag outer here (tag s) r.0) (opened_at outer here (spelled s.name) (opening (scope (here ∷ outer)) (tag s)))
        (At (settled here ∷ outer) (child_level (meant (scope (here ∷ outer)) s) (spelled s.name)) (mode.Inside Zero))
        (62 ∷ rest) rest rest
        (go outer here (mode.InTag (tag s) r.0) 62 class.Greater rest greater_kind)
        (opened_or outer here s rest (opening (scope (here ∷ outer)) (tag s)) refl))

empty_or : (outer : List Level) (here : Level) (from : State) (s : Start) (rest : List ℕ) → Firsts outer here from → IsStart s
    → Or from (written_tag s (47 ∷ 62 ∷ rest))
    (At outer (with_child (settled here) (empty_tree (meant (scope (here ∷ outer)) s))) (mode.Inside Zero)) rest
empty_or outer here from s rest f t = by (tag_or outer here from s (47 ∷ 62 ∷ rest) f t slash_breaks)
  where
    by : TagOr outer here from (written_tag s (47 ∷ 62 ∷ rest)) (tag s) (47 ∷ 62 ∷ rest)
        → Or from (written_tag s (47 ∷ 62 ∷ rest))
        (At outer (with_child (settled here) (empty_tree (meant (scope (here ∷ outer)) s))) (mode.Inside Zero)) rest
    by r = next from (in_tag outer here (tag s) r.0)
        (At outer (with_child (settled here) (empty_tree (meant (scope (here ∷ outer)) s))) (mode.Inside Zero))
        (written_tag s (47 ∷ 62 ∷ rest)) (47 ∷ 62 ∷ rest) rest r.1
        (before (in_tag outer here (tag s) r.0) (slashed_at outer here (opening (scope (here ∷ outer)) (tag s)))
        (At outer (with_child (settled here) (empty_tree (meant (scope (here ∷ outer)) s))) (mode.Inside Zero))
        (47 ∷ 62 ∷ rest) (62 ∷ rest) rest (go outer here (mode.InTag (tag s) r.0) 47 class.Slash (62 ∷ rest) slash_kind)
        (next (slashed_at outer here (opening (scope (here ∷ outer)) (tag s)))
        (At outer here (mode.Slashed (meant (scope (here ∷ outer)) s)))
        (At outer (with_child (settled here) (empty_tree (meant (scope (here ∷ outer)) s))) (mode.Inside Zero))
        (62 ∷ rest) (62 ∷ rest) rest (slashed_or outer here s (62 ∷ rest) (opening (scope (here ∷ outer)) (tag s)) refl)
        (inl (go outer here (mode.Slashed (meant (scope (here ∷ outer)) s)) 62 class.Greater rest greater_kind))))

-- ---- pieces

abbrev PiecesOr : List Level → Level → List Content → List ℕ → Seen → Pieces → List ℕ → Type 0
PiecesOr outer here content text seen p rest = (to : Seen) × Or (At outer (holding here content text) (mode.Inside seen)) (written p rest)
    (At outer (holding here (content_after (scope (here ∷ outer)) content text p) (text_after text p)) (mode.Inside to)) rest

element_or : (outer : List Level) (here : Level) (from : State) (s : Start) (inside : Pieces) (space rest : List ℕ) → Firsts outer here from
    → IsStart s → IsWhite space
    → PiecesOr (settled here ∷ outer) (child_level (meant (scope (here ∷ outer)) s) (spelled s.name)) [] [] Zero inside
    (written_end s.name space rest)
    → Or from (written_tag s (62 ∷ written inside (written_end s.name space rest)))
    (At outer (with_child (settled here) (element_tree (meant (scope (here ∷ outer)) s)
    (meaning ((meant (scope (here ∷ outer)) s).declarations ++ scope (here ∷ outer)) inside))) (mode.Inside Zero)) rest
element_or outer here from s inside space rest f t w inner =
    next from _ _ (written_tag s (62 ∷ written inside (written_end s.name space rest))) (written inside (written_end s.name space rest))
    rest (start_or outer here from s (written inside (written_end s.name space rest)) f t)
    (next _ _ _ (written inside (written_end s.name space rest)) (written_end s.name space rest) rest inner.1 (inl
    (end_runs (settled here) outer
    (holding (child_level (meant (scope (here ∷ outer)) s) (spelled s.name))
    (content_after ((meant (scope (here ∷ outer)) s).declarations ++ scope (here ∷ outer)) [] [] inside) (text_after [] inside))
    inner.0 s.name space rest refl t.0 w
    ∙ ap (λ c. steps (At outer (with_child (settled here) (element_tree (meant (scope (here ∷ outer)) s) c)) (mode.Inside Zero)) rest)
    (law ((meant (scope (here ∷ outer)) s).declarations ++ scope (here ∷ outer)) [] [] inside))))

open_step : (parent : Level) (outer : List Level) (here : Level) (q : Bool) → nat_lt (length (parent ∷ outer)) 32 ≡ q → (b : ℕ)
    → is_first_letter b ≡ true
    → state_after (At (parent ∷ outer) here mode.Open) b ≡ cond q (At (parent ∷ outer) here (mode.TagName (one_letter b)))
    (Refused reason.Depth)
open_step parent outer here q e b f = by_kind (parent ∷ outer) here mode.Open b class.Letter (letter_kind b f)
    ∙ ap (λ q. cond q (At (parent ∷ outer) here (mode.TagName (one_letter b))) (Refused reason.Depth)) e

-- a tag that may stand too deep
deep_or : (parent : Level) (outer : List Level) (here : Level) (seen : Seen) (s : Start) (tail : List ℕ) (to : State)
    (rest : List ℕ) → IsStart s
    → (Firsts (parent ∷ outer) here (At (parent ∷ outer) here mode.Open)
    → Or (At (parent ∷ outer) here mode.Open) (written_tag s tail) to rest) → (q : Bool) → nat_lt (length (parent ∷ outer)) 32 ≡ q
    → Or (At (parent ∷ outer) here (mode.Inside seen)) (60 ∷ written_tag s tail) to rest
deep_or parent outer here seen s tail to rest t then true e =
    before (At (parent ∷ outer) here (mode.Inside seen)) (At (parent ∷ outer) here mode.Open) to (60 ∷ written_tag s tail)
    (written_tag s tail) rest
    (go (parent ∷ outer) here (mode.Inside seen) 60 class.Less (written_tag s tail) less_kind) (then (open_step parent outer here true e))
deep_or parent outer here seen s tail to rest t then false e = inr (
  reason.Depth,
  go (parent ∷ outer) here (mode.Inside seen) 60 class.Less (written_tag s tail) less_kind
      ∙ first_refused (At (parent ∷ outer) here mode.Open) reason.Depth (open_step parent outer here false e) s.name.prefix s.name.local
      (written_pairs s.pairs (s.space ++ tail)) t.0.0 t.0.1,
  tt,
)

character_then : (parent : Level) (outer : List Level) (here : Level) (content : List Content) (text : List ℕ) (seen : Seen) (b : ℕ)
    (more : Pieces) (rest : List ℕ)
    → CharacterRuns (parent ∷ outer) (holding here content text) seen b (row more)
    → ((to : Seen) → Nowhere section_word (brackets to (row more)) → PiecesOr (parent ∷ outer) here content (text ++ b ∷ []) to more rest)
    → PiecesOr (parent ∷ outer) here content text seen (character b more) rest
character_then parent outer here content text seen b more rest c ih = (
  (ih c.0 c.2).0,
  before (At (parent ∷ outer) (holding here content text) (mode.Inside seen))
      (At (parent ∷ outer) (holding here content (text ++ b ∷ [])) (mode.Inside c.0)) _ (b ∷ written more rest) (written more rest) rest
      (one (At (parent ∷ outer) (holding here content text) (mode.Inside seen))
      (At (parent ∷ outer) (holding here content (text ++ b ∷ [])) (mode.Inside c.0)) b (written more rest) c.1) (ih c.0 c.2).1,
)

pieces_or : (parent : Level) (outer : List Level) (here : Level) (content : List Content) (text : List ℕ) (seen : Seen) (p : Pieces)
    (rest : List ℕ)
    → Allowed p → Nowhere section_word (brackets seen (row p)) → PiecesOr (parent ∷ outer) here content text seen p rest
pieces_or parent outer here content text seen nothing rest a n = (seen, inl refl)
pieces_or parent outer here content text seen (character b more) rest a n = character_then parent outer here content text seen b more rest
    (character_runs parent outer (holding here content text) seen b (row more) a.0.0 a.0.1 a.0.2 n)
    (λ to n. pieces_or parent outer here content (text ++ b ∷ []) to more rest a.1 n)
pieces_or parent outer here content text seen (reference x more) rest a n =
    let ih = pieces_or parent outer here content (text ++ encode_utf8 (character_of x)) Zero more rest a.1 (row_safe more a.1) in (
      ih.0,
      before _ _ _ _ (written more rest) rest
          (reference_in parent outer (holding here content text) seen x (written more rest) a.0) ih.1,
    )
pieces_or parent outer here content text seen (section body more) rest a n =
    let ih = pieces_or parent outer here content (text ++ body) Zero more rest a.1 (row_safe more a.1) in (
      ih.0,
      before _ _ _ _ (written more rest) rest
          (section_in parent outer (holding here content text) seen body (written more rest) a.0) ih.1,
    )
pieces_or parent outer here content text seen (comment body more) rest a n =
    let ih = pieces_or parent outer here content text Zero more rest a.1 (row_safe more a.1) in (
      ih.0,
      before _ _ _ _ (written more rest) rest (go (parent ∷ outer) (holding here content text) (mode.Inside seen) 60 class.Less
          (33 ∷ 45 ∷ 45 ∷ (body ++ 45 ∷ 45 ∷ 62 ∷ written more rest)) less_kind
          ∙ comment_in (parent ∷ outer) (holding here content text) body (written more rest) a.0) ih.1,
    )
pieces_or parent outer here content text seen (empty s more) rest a n =
    let ih = pieces_or parent outer here (with_element content text (element_tree (meant (scope (here ∷ parent ∷ outer)) s) [])) [] Zero
    more rest a.1 (row_safe more a.1) in (
      ih.0,
      next _ _ _ _ (written more rest) rest
          (deep_or parent outer (holding here content text) seen s (47 ∷ 62 ∷ written more rest) _ (written more rest) a.0
          (λ f. empty_or (parent ∷ outer) (holding here content text) (At (parent ∷ outer) (holding here content text) mode.Open) s
          (written more rest) f a.0) (nat_lt (length (parent ∷ outer)) 32) refl)
          ih.1,
    )
pieces_or parent outer here content text seen (element s inside space more) rest a n =
    let sc = scope (here ∷ parent ∷ outer) in
    let ih = pieces_or parent outer here (with_element content text
    (element_tree (meant sc s) (meaning ((meant sc s).declarations ++ sc) inside))) [] Zero more rest a.3 (row_safe more a.3) in (
      ih.0,
      next _ _ _ _ (written more rest) rest
          (deep_or parent outer (holding here content text) seen s (62 ∷ written inside (written_end s.name space (written more rest))) _
          (written more rest) a.0
          (λ f. element_or (parent ∷ outer) (holding here content text) (At (parent ∷ outer) (holding here content text) mode.Open) s inside
          space (written more rest) f a.0 a.2
          (pieces_or (settled (holding here content text)) (parent ∷ outer) (child_level (meant sc s) (spelled s.name)) [] [] Zero inside
          (written_end s.name space (written more rest)) a.1 (row_safe inside a.1)))
          (nat_lt (length (parent ∷ outer)) 32) refl)
          ih.1,
    )

-- ---- documents

abbrev RootOr : Pieces → List ℕ → Type 0
RootOr root rest = (from : State) → Begins from → (h : Head) (m : Misc) → IsHeading h → IsMisc m
    → Or from (written_heading h (written_misc m (written root rest))) (outside (meaning first_scope root)) rest

empty_root : (s : Start) (rest : List ℕ) → Allowed (empty s nothing) → RootOr (empty s nothing) rest
empty_root s rest a from g h m ih im = by (heading_reaches from g h m (written_tag s (47 ∷ 62 ∷ rest)) ih im)
  where
    by : ReachesRoot from (written_heading h (written_misc m (60 ∷ written_tag s (47 ∷ 62 ∷ rest)))) (written_tag s (47 ∷ 62 ∷ rest))
        → Or from (written_heading h (written_misc m (60 ∷ written_tag s (47 ∷ 62 ∷ rest))))
        (outside (meaning first_scope (empty s nothing))) rest
    by x = before from x.0 (outside (meaning first_scope (empty s nothing))) _ (written_tag s (47 ∷ 62 ∷ rest)) rest x.2
        (empty_or [] document x.0 s rest x.1 a.0)

element_root : (s : Start) (inside : Pieces) (space rest : List ℕ) → Allowed (element s inside space nothing)
    → RootOr (element s inside space nothing) rest
element_root s inside space rest a from g h m ih im =
    by (heading_reaches from g h m (written_tag s (62 ∷ written inside (written_end s.name space rest))) ih im)
  where
    by : ReachesRoot from (written_heading h (written_misc m (60 ∷ written_tag s (62 ∷ written inside (written_end s.name space rest)))))
        (written_tag s (62 ∷ written inside (written_end s.name space rest)))
        → Or from (written_heading h (written_misc m (60 ∷ written_tag s (62 ∷ written inside (written_end s.name space rest)))))
        (outside (meaning first_scope (element s inside space nothing))) rest
    by x = before from x.0 (outside (meaning first_scope (element s inside space nothing))) _
        (written_tag s (62 ∷ written inside (written_end s.name space rest))) rest x.2
        (element_or [] document x.0 s inside space rest x.1 a.0 a.2
        (pieces_or (settled document) [] (child_level (meant first_scope s) (spelled s.name)) [] [] Zero inside
        (written_end s.name space rest) a.1 (row_safe inside a.1)))

root_or : (root : Pieces) (rest : List ℕ) → IsRoot root → Allowed root → RootOr root rest
root_or (empty s nothing) rest i a = empty_root s rest a
root_or (element s inside space nothing) rest i a = element_root s inside space rest a
root_or _ rest i a = absurd i

-- over a document the states lead to its content, or to a reason of those
pub document_or : (d : Document) → IsDocument d
    → (steps (At [] document mode.Begin) (written_document d) ≡ outside (meaning first_scope d.root))
    ⊎ Limited (At [] document mode.Begin) (written_document d)
document_or d i = by (mark_begins d.mark)
  where
    ended : Or (At [] document mode.Begin) (written_document d) (outside (meaning first_scope d.root)) []
        → (steps (At [] document mode.Begin) (written_document d) ≡ outside (meaning first_scope d.root))
        ⊎ Limited (At [] document mode.Begin) (written_document d)
    ended (inl e) = inl (e ∙ none (outside (meaning first_scope d.root)))
    ended (inr l) = inr l

    by : (from : State) × Begins from × ((bs : List ℕ) → steps (At [] document mode.Begin) (written_mark d.mark bs) ≡ steps from bs)
        → (steps (At [] document mode.Begin) (written_document d) ≡ outside (meaning first_scope d.root))
        ⊎ Limited (At [] document mode.Begin) (written_document d)
    by m = ended (before (At [] document mode.Begin) m.0 (outside (meaning first_scope d.root)) (written_document d)
        (written_heading d.heading (written_misc d.before (written d.root (written_misc d.behind [])))) []
        (m.2 (written_heading d.heading (written_misc d.before (written d.root (written_misc d.behind [])))))
        (next m.0 (outside (meaning first_scope d.root)) (outside (meaning first_scope d.root))
        (written_heading d.heading (written_misc d.before (written d.root (written_misc d.behind [])))) (written_misc d.behind []) []
        (root_or d.root (written_misc d.behind []) i.2 i.3 m.0 m.1 d.heading d.before i.0 i.1)
        (inl (misc_runs (meaning first_scope d.root) d.behind [] i.4))))
