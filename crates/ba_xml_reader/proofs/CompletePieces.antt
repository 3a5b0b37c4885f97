-- The machine over the pieces of an element.
use Rattle.std.proofs.Common.{◌≡◌, ℕ, ◌+◌, ◌<◌, ◌≤◌, true, Some, List, [], ◌∷◌, ◌++◌, length, encode_utf8, refl, sym, ap, ◌∙◌, subst}
use Rattle.std.proofs.Common.{append_assoc, append-nil, arith}
use Rattle.std.proofs.lemmas.Bool.{lt-ltb}
use Rattle.ba_tree.specs.declared.trees.Content.{Content}
use Rattle.ba_tree.specs.declared.trees.Content.TheVariants.{Child}
use Rattle.ba_tree.specs.declared.trees.Tree.{Tree}
use Rattle.ba_xml_reader.proofs.CompleteContent.{white, greater_kind, hyphen_kind, comment_runs, section_runs, character_runs}
use Rattle.ba_xml_reader.proofs.CompleteContent.{CharacterRuns, brackets, section_word}
use Rattle.ba_xml_reader.proofs.CompleteNames.{letter_kind, end_name_runs}
use Rattle.ba_xml_reader.proofs.CompleteReferences.{reference_runs, follows}
use Rattle.ba_xml_reader.proofs.CompleteSteps.{steps, one, by_kind, go}
use Rattle.ba_xml_reader.proofs.CompleteTags.{tag_runs, Breaks}
use Rattle.ba_xml_words.specs.Classes.{is_first_letter, class_of, mark_of}
use Rattle.ba_xml_reader.specs.inside.Content.{reference_by}
use Rattle.ba_xml_names.specs.inside.Levels.{settled, with_child, tree_of, child_level, empty_tree, text_item}
use Rattle.ba_xml_reader.specs.inside.Machine.{state_after}
use Rattle.ba_xml_words.specs.inside.Names.{spelled, one_letter}
use Rattle.ba_xml_names.specs.Namespaces.{opening, scope}
use Rattle.ba_xml_reader.specs.inside.Tags.{slashed_at, opened_at}
use Rattle.ba_xml_grammar.specs.Grammar.{Start, Pieces, nothing, character, reference, section, comment, empty, element, written}
use Rattle.ba_xml_grammar.specs.Grammar.{written_tag, written_end, tag, or_nothing, meant, element_tree, leading, if_some, following}
use Rattle.ba_xml_grammar.specs.Grammar.{meaning, row, Allowed, IsStart, IsComment, IsSection, IsExplained, Resolves, Small}
use Rattle.ba_xml_grammar.specs.GrammarWords.{Nowhere, IsWhite, IsName, written_name, Reference, reference_text, character_of, IsReference}
use Rattle.ba_xml_words.specs.declared.classes.Class.TheVariants as class
use Rattle.ba_xml_names.specs.declared.levels.Declaration.{Declaration}
use Rattle.ba_xml_names.specs.declared.levels.Level.{Level}
use Rattle.ba_xml_words.specs.declared.names.RawName.{RawName}
use Rattle.ba_xml_words.specs.declared.references.Partial.TheVariants.{Nothing}
use Rattle.ba_xml_reader.specs.declared.states.Mode.TheVariants as mode
use Rattle.ba_xml_reader.specs.declared.states.Seen.{Seen}
use Rattle.ba_xml_reader.specs.declared.states.Seen.TheVariants.{Zero}
use Rattle.ba_xml_reader.specs.declared.states.State.{State}
use Rattle.ba_xml_reader.specs.declared.states.State.TheVariants.{At}

pub less_kind : class_of 60 ≡ class.Less
unfolding class_of mark_of
less_kind = refl

pub slash_kind : class_of 47 ≡ class.Slash
unfolding class_of mark_of
slash_kind = refl

pub exclamation_kind : class_of 33 ≡ class.Exclamation
unfolding class_of mark_of
exclamation_kind = refl

open_bracket_kind : class_of 91 ≡ class.OpenBracket
unfolding class_of mark_of
open_bracket_kind = refl

ampersand_kind : class_of 38 ≡ class.Ampersand
unfolding class_of mark_of
ampersand_kind = refl

-- a level with this content and these characters behind it
abbrev pub holding : Level → List Content → List ℕ → Level
holding here content text = record here { content = content; text = text }

-- ---- what pieces add to a level

abbrev pub text_after : List ℕ → Pieces → List ℕ
text_after text nothing = text
text_after text (character b more) = text_after (text ++ b ∷ []) more
text_after text (reference r more) = text_after (text ++ encode_utf8 (character_of r)) more
text_after text (section body more) = text_after (text ++ body) more
text_after text (comment body more) = text_after text more
text_after text (empty s more) = text_after [] more
text_after text (element s inside space more) = text_after [] more

abbrev pub with_element : List Content → List ℕ → Tree → List Content
with_element content text tree = (content ++ text_item text) ++ Child tree ∷ []

abbrev pub content_after : List Declaration → List Content → List ℕ → Pieces → List Content
content_after sc content text nothing = content
content_after sc content text (character b more) = content_after sc content (text ++ b ∷ []) more
content_after sc content text (reference r more) = content_after sc content (text ++ encode_utf8 (character_of r)) more
content_after sc content text (section body more) = content_after sc content (text ++ body) more
content_after sc content text (comment body more) = content_after sc content text more
content_after sc content text (empty s more) = content_after sc (with_element content text (element_tree (meant sc s) [])) [] more
content_after sc content text (element s inside space more) =
    content_after sc (with_element content text (element_tree (meant sc s) (meaning ((meant sc s).declarations ++ sc) inside))) [] more

same_item : (text : List ℕ) → text_item text ≡ if_some text
same_item [] = refl
same_item (b ∷ bs) = refl

abbrev Law : List Declaration → List Content → List ℕ → Pieces → Type 0
Law sc content text p = content_after sc content text p ++ text_item (text_after text p) ≡ content
    ++ (if_some (text ++ leading p) ++ following sc p)

joins : (sc : List Declaration) (content : List Content) (text more : List ℕ) (p : Pieces) → Law sc content (text ++ more) p
    → content_after sc content (text ++ more) p ++ text_item (text_after (text ++ more) p) ≡ content
    ++ (if_some (text ++ (more ++ leading p)) ++ following sc p)
joins sc content text more p l = l ∙ ap (λ t. content ++ (if_some t ++ following sc p)) (append_assoc text more (leading p))

element_law : (sc : List Declaration) (content : List Content) (text : List ℕ) (tree : Tree) (p : Pieces)
    → Law sc (with_element content text tree) [] p
    → content_after sc (with_element content text tree) [] p ++ text_item (text_after [] p) ≡ content
    ++ (if_some (text ++ []) ++ (Child tree ∷ meaning sc p))
element_law sc content text tree p l = l ∙ append_assoc (content ++ text_item text) (Child tree ∷ []) (meaning sc p)
    ∙ append_assoc content (text_item text) (Child tree ∷ meaning sc p)
    ∙ ap (λ i. content ++ (i ++ (Child tree ∷ meaning sc p))) (same_item text ∙ ap if_some (sym (append-nil text)))

pub law : (sc : List Declaration) (content : List Content) (text : List ℕ) (p : Pieces) → Law sc content text p
law sc content text nothing = ap (λ i. content ++ i)
    (same_item text ∙ ap if_some (sym (append-nil text)) ∙ sym (append-nil (if_some (text ++ []))))
law sc content text (character b more) = joins sc content text (b ∷ []) more (law sc content (text ++ b ∷ []) more)
law sc content text (reference r more) = joins sc content text (encode_utf8 (character_of r)) more
    (law sc content (text ++ encode_utf8 (character_of r)) more)
law sc content text (section body more) = joins sc content text body more (law sc content (text ++ body) more)
law sc content text (comment body more) = law sc content text more
law sc content text (empty s more) = element_law sc content text (element_tree (meant sc s) []) more
    (law sc (with_element content text (element_tree (meant sc s) [])) [] more)
law sc content text (element s inside space more) =
    element_law sc content text (element_tree (meant sc s) (meaning ((meant sc s).declarations ++ sc) inside)) more
    (law sc (with_element content text (element_tree (meant sc s) (meaning ((meant sc s).declarations ++ sc) inside))) [] more)

-- ---- tags

explained : (sc : List Declaration) (s : Start) → IsExplained sc s → opening sc (tag s) ≡ Some (meant sc s)
explained sc s e = e.1 ∙ ap Some (sym (ap or_nothing e.1))

abbrev pub Firsts : List Level → Level → State → Type 0
Firsts outer here from = (b : ℕ) → is_first_letter b ≡ true → state_after from b ≡ At outer here (mode.TagName (one_letter b))

pub greater_breaks : Breaks (class_of 62)
greater_breaks = subst Breaks (sym greater_kind) tt

pub slash_breaks : Breaks (class_of 47)
slash_breaks = subst Breaks (sym slash_kind) tt

start_runs : (outer : List Level) (here : Level) (from : State) (s : Start) (rest : List ℕ) → Firsts outer here from → IsStart s
    → length s.pairs ≤ 32 → IsExplained (scope (here ∷ outer)) s
    → steps from (written_tag s (62 ∷ rest)) ≡ steps
    (At (settled here ∷ outer) (child_level (meant (scope (here ∷ outer)) s) (spelled s.name)) (mode.Inside Zero)) rest
start_runs outer here from s rest f t l e = by (tag_runs outer here from s (62 ∷ rest) f t l greater_breaks)
  where
    by : (spaced : _) × (steps from (written_tag s (62 ∷ rest)) ≡ steps (At outer here (mode.InTag (tag s) spaced)) (62 ∷ rest))
        → steps from (written_tag s (62 ∷ rest)) ≡ steps
        (At (settled here ∷ outer) (child_level (meant (scope (here ∷ outer)) s) (spelled s.name)) (mode.Inside Zero)) rest
    by r = r.1 ∙ go outer here (mode.InTag (tag s) r.0) 62 class.Greater rest greater_kind
        ∙ ap (λ o. steps (opened_at outer here (spelled s.name) o) rest) (explained (scope (here ∷ outer)) s e)

pub empty_runs : (outer : List Level) (here : Level) (from : State) (s : Start) (rest : List ℕ) → Firsts outer here from → IsStart s
    → length s.pairs ≤ 32 → IsExplained (scope (here ∷ outer)) s
    → steps from (written_tag s (47 ∷ 62 ∷ rest))
    ≡ steps (At outer (with_child (settled here) (empty_tree (meant (scope (here ∷ outer)) s))) (mode.Inside Zero)) rest
empty_runs outer here from s rest f t l e = by (tag_runs outer here from s (47 ∷ 62 ∷ rest) f t l slash_breaks)
  where
    by : (spaced : _) × (steps from (written_tag s (47 ∷ 62 ∷ rest)) ≡ steps (At outer here (mode.InTag (tag s) spaced)) (47 ∷ 62 ∷ rest))
        → steps from (written_tag s (47 ∷ 62 ∷ rest))
        ≡ steps (At outer (with_child (settled here) (empty_tree (meant (scope (here ∷ outer)) s))) (mode.Inside Zero)) rest
    by r = r.1 ∙ go outer here (mode.InTag (tag s) r.0) 47 class.Slash (62 ∷ rest) slash_kind
        ∙ ap (λ o. steps (slashed_at outer here o) (62 ∷ rest)) (explained (scope (here ∷ outer)) s e)
        ∙ go outer here (mode.Slashed (meant (scope (here ∷ outer)) s)) 62 class.Greater rest greater_kind

pub end_runs : (parent : Level) (outer : List Level) (here : Level) (seen : Seen) (name : RawName) (space rest : List ℕ)
    → here.spelled ≡ spelled name → IsName name → IsWhite space
    → steps (At (parent ∷ outer) here (mode.Inside seen)) (written_end name space rest)
    ≡ steps (At outer (with_child parent (tree_of here)) (mode.Inside Zero)) rest
end_runs parent outer here seen name space rest e n w =
    go (parent ∷ outer) here (mode.Inside seen) 60 class.Less (47 ∷ written_name name (space ++ 62 ∷ rest)) less_kind
    ∙ go (parent ∷ outer) here mode.Open 47 class.Slash (written_name name (space ++ 62 ∷ rest)) slash_kind
    ∙ ap (λ x. steps (At (parent ∷ outer) here (mode.EndName x)) (written_name name (space ++ 62 ∷ rest))) e
    ∙ end_name_runs (parent ∷ outer) here name (space ++ 62 ∷ rest) n
    ∙ white (parent ∷ outer) here mode.EndSpace refl (λ b. refl) space (62 ∷ rest) w
    ∙ go (parent ∷ outer) here mode.EndSpace 62 class.Greater rest greater_kind

-- ---- pieces

abbrev Runs : List Level → Level → List Content → List ℕ → Seen → Pieces → List ℕ → Type 0
Runs outer here content text seen p rest = (next : Seen) × (steps (At outer (holding here content text) (mode.Inside seen)) (written p rest)
    ≡ steps (At outer (holding here (content_after (scope (here ∷ outer)) content text p) (text_after text p)) (mode.Inside next)) rest)

-- what runs of pieces in an element is asked: that they are allowed behind so many brackets, explained, and small
abbrev pub IsReadable : List Level → Level → Seen → ℕ → Pieces → Type 0
IsReadable outer here seen level p = Allowed p × Nowhere section_word (brackets seen (row p)) × Resolves (scope (here ∷ outer)) p
    × Small level p × (level ≡ length outer + 1)

pub row_safe : (p : Pieces) → Allowed p → Nowhere section_word (row p)
row_safe nothing a = tt
row_safe (character b more) a = (a.0.3, row_safe more a.1)
row_safe (reference r more) a = tt
row_safe (section body more) a = tt
row_safe (comment body more) a = tt
row_safe (empty s more) a = tt
row_safe (element s inside space more) a = tt

pub opens : (outer : List Level) (here : Level) → length outer < 32 → (parent : Level) (above : List Level) → outer ≡ parent ∷ above
    → Firsts outer here (At outer here mode.Open)
opens outer here l parent above e b f = subst (λ o. length o < 32
    → state_after (At o here mode.Open) b ≡ At o here (mode.TagName (one_letter b))) (sym e) within l
  where
    within : length (parent ∷ above) < 32 → state_after (At (parent ∷ above) here mode.Open) b
        ≡ At (parent ∷ above) here (mode.TagName (one_letter b))
    within l = by_kind (parent ∷ above) here mode.Open b class.Letter (letter_kind b f) ∙ (rw (lt-ltb (length (parent ∷ above)) 32 l) refl)

pub comment_in : (outer : List Level) (here : Level) (body rest : List ℕ) → IsComment body
    → steps (At outer here mode.Open) (33 ∷ 45 ∷ 45 ∷ (body ++ 45 ∷ 45 ∷ 62 ∷ rest)) ≡ steps (At outer here (mode.Inside Zero)) rest
comment_in outer here body rest c = go outer here mode.Open 33 class.Exclamation (45 ∷ 45 ∷ (body ++ 45 ∷ 45 ∷ 62 ∷ rest)) exclamation_kind
    ∙ go outer here mode.Exclaimed 45 class.Hyphen (45 ∷ (body ++ 45 ∷ 45 ∷ 62 ∷ rest)) hyphen_kind ∙ comment_runs outer here body rest c

section_word_runs : (outer : List Level) (here : Level) (rest : List ℕ)
    → steps (At outer here (mode.Bracketed 0)) (67 ∷ 68 ∷ 65 ∷ 84 ∷ 65 ∷ 91 ∷ rest) ≡ steps (At outer here (mode.Section [] Zero)) rest
section_word_runs outer here rest = go outer here (mode.Bracketed 0) 67 (class_of 67) (68 ∷ 65 ∷ 84 ∷ 65 ∷ 91 ∷ rest) refl
    ∙ go outer here (mode.Bracketed 1) 68 (class_of 68) (65 ∷ 84 ∷ 65 ∷ 91 ∷ rest) refl
    ∙ go outer here (mode.Bracketed 2) 65 (class_of 65) (84 ∷ 65 ∷ 91 ∷ rest) refl
    ∙ go outer here (mode.Bracketed 3) 84 (class_of 84) (65 ∷ 91 ∷ rest) refl
    ∙ go outer here (mode.Bracketed 4) 65 (class_of 65) (91 ∷ rest) refl ∙ go outer here (mode.Bracketed 5) 91 (class_of 91) rest refl

pub section_in : (parent : Level) (outer : List Level) (here : Level) (seen : Seen) (body rest : List ℕ) → IsSection body
    → steps (At (parent ∷ outer) here (mode.Inside seen)) (60 ∷ 33 ∷ 91 ∷ 67 ∷ 68 ∷ 65 ∷ 84 ∷ 65 ∷ 91 ∷ (body ++ 93 ∷ 93 ∷ 62 ∷ rest))
    ≡ steps (At (parent ∷ outer) (record here { text = here.text ++ body }) (mode.Inside Zero)) rest
section_in parent outer here seen body rest c =
    go (parent ∷ outer) here (mode.Inside seen) 60 class.Less
    (33 ∷ 91 ∷ 67 ∷ 68 ∷ 65 ∷ 84 ∷ 65 ∷ 91 ∷ (body ++ 93 ∷ 93 ∷ 62 ∷ rest)) less_kind
    ∙ go (parent ∷ outer) here mode.Open 33 class.Exclamation (91 ∷ 67 ∷ 68 ∷ 65 ∷ 84 ∷ 65 ∷ 91 ∷ (body ++ 93 ∷ 93 ∷ 62 ∷ rest))
    exclamation_kind
    ∙ go (parent ∷ outer) here mode.Exclaimed 91 class.OpenBracket (67 ∷ 68 ∷ 65 ∷ 84 ∷ 65 ∷ 91 ∷ (body ++ 93 ∷ 93 ∷ 62 ∷ rest))
    open_bracket_kind
    ∙ section_word_runs (parent ∷ outer) here (body ++ 93 ∷ 93 ∷ 62 ∷ rest) ∙ section_runs (parent ∷ outer) here body rest c

pub reference_in : (parent : Level) (outer : List Level) (here : Level) (seen : Seen) (r : Reference) (rest : List ℕ) → IsReference r
    → steps (At (parent ∷ outer) here (mode.Inside seen)) (38 ∷ (reference_text r ++ 59 ∷ rest))
    ≡ steps (At (parent ∷ outer) (record here { text = here.text ++ encode_utf8 (character_of r) }) (mode.Inside Zero)) rest
reference_in parent outer here seen r rest i =
    go (parent ∷ outer) here (mode.Inside seen) 38 class.Ampersand (reference_text r ++ 59 ∷ rest) ampersand_kind
    ∙ ap (λ bs. steps (At (parent ∷ outer) here (mode.Reference Nothing)) bs) (sym (append_assoc (reference_text r) (59 ∷ []) rest))
    ∙ reference_runs (λ p. At (parent ∷ outer) here (mode.Reference p))
    (λ c. At (parent ∷ outer) (record here { text = here.text ++ encode_utf8 c }) (mode.Inside Zero))
    (λ p q b e. by_kind (parent ∷ outer) here (mode.Reference p) b (class_of b) refl ∙ ap (λ g. reference_by (parent ∷ outer) here g) e)
    (λ p b c e. by_kind (parent ∷ outer) here (mode.Reference p) b (class_of b) refl ∙ ap (λ g. reference_by (parent ∷ outer) here g) e)
    (reference_text r ++ 59 ∷ []) Nothing (character_of r) rest (follows r i)

-- an element from its name on, given what runs of its pieces
abbrev Inner : List Level → Level → Start → Pieces → Type 0
Inner outer here s inside = (rest : List ℕ)
    → Runs (settled here ∷ outer) (child_level (meant (scope (here ∷ outer)) s) (spelled s.name)) [] [] Zero inside rest

pub element_runs : (outer : List Level) (here : Level) (from : State) (s : Start) (inside : Pieces) (space rest : List ℕ)
    → Firsts outer here from → IsStart s → length s.pairs ≤ 32
    → IsExplained (scope (here ∷ outer)) s → IsWhite space → Inner outer here s inside
    → steps from (written_tag s (62 ∷ written inside (written_end s.name space rest)))
    ≡ steps (At outer (with_child (settled here)
    (element_tree (meant (scope (here ∷ outer)) s)
    (meaning ((meant (scope (here ∷ outer)) s).declarations ++ scope (here ∷ outer)) inside))) (mode.Inside Zero)) rest
element_runs outer here from s inside space rest f t l e w inner =
    start_runs outer here from s (written inside (written_end s.name space rest)) f t l e
    ∙ (inner (written_end s.name space rest)).1
    ∙ end_runs (settled here) outer
    (holding (child_level (meant (scope (here ∷ outer)) s) (spelled s.name))
    (content_after ((meant (scope (here ∷ outer)) s).declarations ++ scope (here ∷ outer)) [] [] inside) (text_after [] inside))
    (inner (written_end s.name space rest)).0 s.name space rest refl t.0 w
    ∙ ap (λ c. steps (At outer (with_child (settled here) (element_tree (meant (scope (here ∷ outer)) s) c)) (mode.Inside Zero)) rest)
    (law ((meant (scope (here ∷ outer)) s).declarations ++ scope (here ∷ outer)) [] [] inside)

room : (outer : List Level) (level : ℕ) → level ≡ length outer + 1 → level ≤ 32 → length outer < 32
room outer level e l = omega (arith, e, l)

pub deeper : (outer : List Level) (here : Level) (level : ℕ) → level ≡ length outer + 1 → level + 1 ≡ length (here ∷ outer) + 1
deeper outer here level e = omega (arith, e)

character_then : (parent : Level) (outer : List Level) (here : Level) (content : List Content) (text : List ℕ) (seen : Seen) (b : ℕ)
    (more : Pieces) (rest : List ℕ)
    → CharacterRuns (parent ∷ outer) (holding here content text) seen b (row more)
    → ((next : Seen) → Nowhere section_word (brackets next (row more)) → Runs (parent ∷ outer) here content (text ++ b ∷ []) next more rest)
    → Runs (parent ∷ outer) here content text seen (character b more) rest
character_then parent outer here content text seen b more rest c ih = (
  (ih c.0 c.2).0,
  one (At (parent ∷ outer) (holding here content text) (mode.Inside seen))
      (At (parent ∷ outer) (holding here content (text ++ b ∷ [])) (mode.Inside c.0)) b (written more rest) c.1 ∙ (ih c.0 c.2).1,
)

pub pieces_run : (parent : Level) (outer : List Level) (here : Level) (content : List Content) (text : List ℕ) (seen : Seen) (level : ℕ)
    (p : Pieces) (rest : List ℕ)
    → IsReadable (parent ∷ outer) here seen level p → Runs (parent ∷ outer) here content text seen p rest
pieces_run parent outer here content text seen level nothing rest r = (seen, refl)
pieces_run parent outer here content text seen level (character b more) rest r =
    character_then parent outer here content text seen b more rest
    (character_runs parent outer (holding here content text) seen b (row more) r.0.0.0 r.0.0.1 r.0.0.2 r.1)
    (λ next n. pieces_run parent outer here content (text ++ b ∷ []) next level more rest (r.0.1, n, r.2, r.3, r.4))
pieces_run parent outer here content text seen level (reference x more) rest r =
    let ih = pieces_run parent outer here content (text ++ encode_utf8 (character_of x)) Zero level more rest (
      r.0.1,
      row_safe more r.0.1,
      r.2,
      r.3,
      r.4,
    ) in
    (ih.0, reference_in parent outer (holding here content text) seen x (written more rest) r.0.0 ∙ ih.1)
pieces_run parent outer here content text seen level (section body more) rest r =
    let ih = pieces_run parent outer here content (text ++ body) Zero level more rest (r.0.1, row_safe more r.0.1, r.2, r.3, r.4) in
    (ih.0, section_in parent outer (holding here content text) seen body (written more rest) r.0.0 ∙ ih.1)
pieces_run parent outer here content text seen level (comment body more) rest r =
    let ih = pieces_run parent outer here content text Zero level more rest (r.0.1, row_safe more r.0.1, r.2, r.3, r.4) in (
      ih.0,
      go (parent ∷ outer) (holding here content text) (mode.Inside seen) 60 class.Less
          (33 ∷ 45 ∷ 45 ∷ (body ++ 45 ∷ 45 ∷ 62 ∷ written more rest)) less_kind
          ∙ comment_in (parent ∷ outer) (holding here content text) body (written more rest) r.0.0 ∙ ih.1,
    )
pieces_run parent outer here content text seen level (empty s more) rest r =
    let ih = pieces_run parent outer here (with_element content text (element_tree (meant (scope (here ∷ parent ∷ outer)) s) [])) [] Zero
    level more rest (r.0.1, row_safe more r.0.1, r.2.1, r.3.2, r.4) in (
      ih.0,
      go (parent ∷ outer) (holding here content text) (mode.Inside seen) 60 class.Less
          (written_tag s (47 ∷ 62 ∷ written more rest)) less_kind
          ∙ empty_runs (parent ∷ outer) (holding here content text) (At (parent ∷ outer) (holding here content text) mode.Open) s
          (written more rest)
          (opens (parent ∷ outer) (holding here content text) (room (parent ∷ outer) level r.4 r.3.0) parent outer refl) r.0.0 r.3.1 r.2.0
          ∙ ih.1,
    )
pieces_run parent outer here content text seen level (element s inside space more) rest r =
    let sc = scope (here ∷ parent ∷ outer) in
    let ih = pieces_run parent outer here (with_element content text
    (element_tree (meant sc s) (meaning ((meant sc s).declarations ++ sc) inside))) [] Zero level more rest
    (r.0.3, row_safe more r.0.3, r.2.2, r.3.3, r.4) in (
      ih.0,
      go (parent ∷ outer) (holding here content text) (mode.Inside seen) 60 class.Less
          (written_tag s (62 ∷ written inside (written_end s.name space (written more rest)))) less_kind
          ∙ element_runs (parent ∷ outer) (holding here content text) (At (parent ∷ outer) (holding here content text) mode.Open) s inside
          space (written more rest)
          (opens (parent ∷ outer) (holding here content text) (room (parent ∷ outer) level r.4 r.3.0) parent outer refl) r.0.0
          r.3.1 r.2.0 r.0.2
          (λ after. pieces_run (settled (holding here content text)) (parent ∷ outer) (child_level (meant sc s) (spelled s.name)) [] [] Zero
          (level + 1) inside after
          (r.0.1, row_safe inside r.0.1, r.2.1, r.3.2, deeper (parent ∷ outer) (settled (holding here content text)) level r.4))
          ∙ ih.1,
    )
