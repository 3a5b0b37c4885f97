-- Where the machine stops over a document, whatever its prefixes mean and its size: nowhere, or at a start tag that is the cause.
use Rattle.std.proofs.Common.{◌≡◌, ℕ, ◌+◌, ◌<◌, ◌≤◌, suc, Bool, true, false, cond, nat_lt, ◌⊎◌, inl, inr, Option, Some, None, List, [], ◌∷◌}
use Rattle.std.proofs.Common.{◌++◌, map}
use Rattle.std.proofs.Common.{length, encode_utf8, refl, sym, ap, ◌∙◌, subst, append_assoc, append-nil, length-append, arith}
use Rattle.std.proofs.lemmas.Bool.{ltb-true, ltb-false}
use Rattle.std.proofs.lemmas.List.{map-append, length-map}
use Rattle.std.proofs.lemmas.List.Elements.{Contains-append_left, Contains-append_right}
use Rattle.std.specs.Prelude.{Contains}
use Rattle.ba_tree.specs.declared.trees.Content.{Content}
use Rattle.ba_xml_places.proofs.Parts.{at_most, IsPart, part_append, part_name, part_reference, part_pair, part_comment, part_section}
use Rattle.ba_xml_places.proofs.Parts.{part_end, part_misc, part_heading, part_mark, end_longer, written_longer, behind_pairs, name_in_tag}
use Rattle.ba_xml_places.proofs.Standings.{IsCauseAt, IsBehind, AreBehind, AreFree, AreWithin, Within, AreOf, the_first, the_rest}
use Rattle.ba_xml_places.proofs.Standings.{only_first, nothing_in, either_of, none_free, none_within, shorter, longer, behind_attribute}
use Rattle.ba_xml_places.proofs.Standings.{deep_behind, tag_free, namespace_behind, attributes_behind, pieces_within}
use Rattle.ba_xml_places.proofs.Viable.{IsGoing}
use Rattle.ba_xml_reader.proofs.CompleteContent.{greater_kind, character_runs, CharacterRuns, brackets, section_word}
use Rattle.ba_xml_reader.proofs.CompleteDocuments.{Begins, outside, misc_runs, heading_reaches, mark_begins}
use Rattle.ba_xml_reader.proofs.CompleteLayers.{stays}
use Rattle.ba_xml_reader.proofs.CompleteNames.{name_runs, letter_kind}
use Rattle.ba_xml_reader.proofs.CompletePieces.{Firsts, holding, less_kind, slash_kind, greater_breaks, slash_breaks, end_runs, law}
use Rattle.ba_xml_reader.proofs.CompletePieces.{comment_in}
use Rattle.ba_xml_reader.proofs.CompletePieces.{section_in, reference_in, row_safe, with_element, content_after, text_after}
use Rattle.ba_xml_reader.proofs.CompleteSteps.{steps, none, one, by_kind, go}
use Rattle.ba_xml_reader.proofs.CompleteTags.{IsBreak, gap_runs, pair_runs, space_runs, pairs_break, white_break, tag_named, in_tag, bare}
use Rattle.ba_xml_words.specs.Classes.{is_first_letter, class_of}
use Rattle.ba_xml_names.specs.inside.Levels.{settled, with_child, child_level, empty_tree, text_item}
use Rattle.ba_xml_reader.specs.inside.Machine.{state_after, document}
use Rattle.ba_xml_words.specs.inside.Names.{one_letter, spelled}
use Rattle.ba_xml_names.specs.Namespaces.{opening, scope, first_scope}
use Rattle.ba_xml_names.specs.inside.Tags.{with_attribute}
use Rattle.ba_xml_reader.specs.inside.Tags.{tag_name_by, slashed_at, opened_at}
use Rattle.ba_xml_grammar.specs.Grammar.{Pair, Start, Pieces, nothing, character}
use Rattle.ba_xml_grammar.specs.Grammar.{reference, section}
use Rattle.ba_xml_grammar.specs.Grammar.{comment, empty, element, Misc}
use Rattle.ba_xml_grammar.specs.Grammar.{Head, Document}
use Rattle.ba_xml_grammar.specs.Grammar.{written_quoted}
use Rattle.ba_xml_grammar.specs.Grammar.{written_attribute, written_pair, written_pairs, written_tag, written_end, written_comment}
use Rattle.ba_xml_grammar.specs.Grammar.{written_section}
use Rattle.ba_xml_grammar.specs.Grammar.{written, written_misc}
use Rattle.ba_xml_grammar.specs.Grammar.{written_heading}
use Rattle.ba_xml_grammar.specs.Grammar.{written_mark, written_document, attribute, tag, meant, or_nothing, meaning, element_tree, row}
use Rattle.ba_xml_grammar.specs.Grammar.{ArePairs, IsStart, Allowed, IsMisc, IsRoot, IsHeading, IsDocument}
use Rattle.ba_xml_grammar.specs.GrammarWords.{IsName, IsPrefix, IsPlainName, IsWhite, Nowhere, written_name, written_prefix}
use Rattle.ba_xml_grammar.specs.GrammarWords.{written_reference, character_of}
use Rattle.ba_xml_grammar.specs.Places.{Standing, standing, standings, document_standings}
use Rattle.ba_xml_words.specs.declared.classes.Class.TheVariants as class
use Rattle.ba_xml_words.specs.declared.faults.Reason.{Reason}
use Rattle.ba_xml_words.specs.declared.faults.Reason.TheVariants as reason
use Rattle.ba_xml_names.specs.declared.levels.Declaration.{Declaration}
use Rattle.ba_xml_names.specs.declared.levels.Level.{Level}
use Rattle.ba_xml_names.specs.declared.levels.Opening.{Opening}
use Rattle.ba_xml_words.specs.declared.names.RawName.{RawName}
use Rattle.ba_xml_names.specs.declared.tags.Tag.{Tag}
use Rattle.ba_xml_reader.specs.declared.states.Mode.TheVariants as mode
use Rattle.ba_xml_reader.specs.declared.states.Seen.{Seen}
use Rattle.ba_xml_reader.specs.declared.states.Seen.TheVariants.{Zero}
use Rattle.ba_xml_reader.specs.declared.states.State.{State}
use Rattle.ba_xml_reader.specs.declared.states.State.TheVariants.{At, Refused}

-- ---- where a state stops

-- over all the bytes, or for a reason where these of them are left
pub data Stop : Type 0 where
  goes_on : Stop
  stops : Reason → List ℕ → Stop

abbrev stop_by : State → List ℕ → Stop → Stop
stop_by (Refused r) rest later = stops r rest
stop_by (At outer here m) rest later = later

pub stop : State → List ℕ → Stop
stop s [] = goes_on
stop s (b ∷ bs) = stop_by (state_after s b) (b ∷ bs) (stop (state_after s b) bs)

stop_none : (s : State) → stop s [] ≡ goes_on
unfolding stop
stop_none s = refl

stop_same : (s t : State) (b : ℕ) (bs : List ℕ) → state_after s b ≡ state_after t b → stop s (b ∷ bs) ≡ stop t (b ∷ bs)
unfolding stop
stop_same s t b bs e = ap (λ u. stop_by u (b ∷ bs) (stop u bs)) e

pub halts : (s : State) (b : ℕ) (bs : List ℕ) (r : Reason) → state_after s b ≡ Refused r → stop s (b ∷ bs) ≡ stops r (b ∷ bs)
unfolding stop
halts s b bs r e = ap (λ u. stop_by u (b ∷ bs) (stop u bs)) e

later : (u : State) (rest : List ℕ) (x : Stop) → IsGoing u → stop_by u rest x ≡ x
later (Refused r) rest x g = absurd g
later (At outer here m) rest x g = refl

over_one : (s t : State) (b : ℕ) (bs : List ℕ) → state_after s b ≡ t → IsGoing t → stop s (b ∷ bs) ≡ stop t bs
unfolding stop
over_one s t b bs e g = ap (λ u. stop_by u (b ∷ bs) (stop u bs)) e ∙ later t (b ∷ bs) (stop t bs) g

going_back : (bs : List ℕ) (s t : State) → steps s bs ≡ t → IsGoing t → IsGoing s
going_back bs (Refused r) t e g = subst IsGoing (sym e ∙ stays r bs) g
going_back bs (At outer here m) t e g = tt

pub over : (bs : List ℕ) (s t : State) (rest : List ℕ) → steps s bs ≡ t → IsGoing t → stop s (bs ++ rest) ≡ stop t rest
over [] s t rest e g = ap (λ u. stop u rest) (sym (none s) ∙ e)
over (b ∷ bs) s t rest e g =
    let f : steps (state_after s b) bs ≡ t = sym (one s (state_after s b) b bs refl) ∙ e in
    over_one s (state_after s b) b (bs ++ rest) refl (going_back bs (state_after s b) t f g) ∙ over bs (state_after s b) t rest f g

to_end : (bs : List ℕ) (s t : State) → steps s bs ≡ t → IsGoing t → stop s bs ≡ goes_on
to_end bs s t e g = ap (λ x. stop s x) (sym (append-nil bs)) ∙ over bs s t [] e g ∙ stop_none t

-- ---- over what is written

-- where the states lead over what is written, whatever follows
runs : (w : List ℕ → List ℕ) → IsPart w → (s t : State) → ((rest : List ℕ) → steps s (w rest) ≡ steps t rest) → IsGoing t → (rest : List ℕ)
    → stop s (w rest) ≡ stop t rest
runs w p s t f g rest = ap (λ x. stop s x) (p [] rest) ∙ over (w []) s t rest (f [] ∙ none t) g

-- ---- causes

abbrev pub IsFoundAt : List Standing → State → List ℕ → Type 0
IsFoundAt ts s bs = (r : Reason) × (left : List ℕ) × (stop s bs ≡ stops r left) × (t : Standing) × Contains ts t × IsCauseAt r t left

-- so, before what follows, and each other cause of these leaves fewer bytes
abbrev pub IsFirstAt : List Standing → State → List ℕ → List ℕ → Type 0
IsFirstAt ts s bs rest = (r : Reason) × (left : List ℕ) × (stop s bs ≡ stops r left) × (t : Standing) × Contains ts t × IsCauseAt r t left
    × (length rest < length left) × AreBehind ts r left

-- the states go on so and none of these start tags is a cause, or they stop at the first that is
abbrev Or : List Standing → State → List ℕ → State → List ℕ → Type 0
Or ts s bs t rest = ((stop s bs ≡ stop t rest) × AreFree ts) ⊎ IsFirstAt ts s bs rest

before : (ts : List Standing) (s t u : State) (bs cs ds : List ℕ) → stop s bs ≡ stop t cs → Or ts t cs u ds → Or ts s bs u ds
before ts s t u bs cs ds e (inl f) = inl (e ∙ f.0, f.1)
before ts s t u bs cs ds e (inr l) = inr (l.0, l.1, e ∙ l.2, l.3, l.4, l.5, l.6, l.7)

same_tags : (ts us : List Standing) (s t : State) (bs cs : List ℕ) → Within ts us → Within us ts → Or ts s bs t cs → Or us s bs t cs
same_tags ts us s t bs cs w v (inl e) = inl (e.0, λ q u k c i. e.1 q u k (v u c) i)
same_tags ts us s t bs cs w v (inr l) = inr (l.0, l.1, l.2, l.3, w l.3 l.4, l.5, l.6, λ q u k c i. l.7 q u k (v u c) i)

next : (ts us vs : List Standing) (s t u : State) (bs cs ds : List ℕ) → Within ts vs → Within us vs → AreOf ts us vs
    → AreWithin us (length cs) → length ds ≤ length cs → Or ts s bs t cs → Or us t cs u ds → Or vs s bs u ds
next ts us vs s t u bs cs ds v w p n d (inl e) (inl f) = inl (e.0 ∙ f.0, λ q y l c i. by q y l i (p y c))
  where
    by : (q : Reason) (y : Standing) (l : List ℕ) → IsCauseAt q y l → Contains ts y ⊎ Contains us y → ⊥
    by q y l i (inl c) = e.1 q y l c i
    by q y l i (inr c) = f.1 q y l c i
next ts us vs s t u bs cs ds v w p n d (inl e) (inr f) =
    inr (f.0, f.1, e.0 ∙ f.2, f.3, w f.3 f.4, f.5, f.6, λ q y l c i. by q y l i (p y c))
  where
    by : (q : Reason) (y : Standing) (l : List ℕ) → IsCauseAt q y l → Contains ts y ⊎ Contains us y → IsBehind q l f.0 f.1
    by q y l i (inl c) = absurd (e.1 q y l c i)
    by q y l i (inr c) = f.7 q y l c i
next ts us vs s t u bs cs ds v w p n d (inr e) o = inr (
  e.0,
  e.1,
  e.2,
  e.3,
  v e.3 e.4,
  e.5,
  shorter (length ds) (length cs) (length e.1) d e.6,
  λ q y l c i. by q y l i (p y c),
)
  where
    by : (q : Reason) (y : Standing) (l : List ℕ) → IsCauseAt q y l → Contains ts y ⊎ Contains us y → IsBehind q l e.0 e.1
    by q y l i (inl c) = e.7 q y l c i
    by q y l i (inr c) = inl (shorter (length l) (length cs) (length e.1) (n q y l c i) e.6)

-- ---- where a name is refused at its first letter

first_halts : (s : State) (r : Reason) → ((b : ℕ) → is_first_letter b ≡ true → state_after s b ≡ Refused r)
    → (prefix local rest : List ℕ) → IsPrefix prefix → IsPlainName local
    → stop s (written_prefix prefix (local ++ rest)) ≡ stops r (written_prefix prefix (local ++ rest))
first_halts s r f [] [] rest p n = absurd n
first_halts s r f [] (b ∷ bs) rest p n = halts s b (bs ++ rest) r (f b n.0)
first_halts s r f (b ∷ bs) local rest p n = halts s b (bs ++ 58 ∷ (local ++ rest)) r (f b p.0)

-- ---- attributes

abbrev tagged : RawName → List Pair → Tag
tagged name pairs = record { name = name; attributes = map attribute pairs }

-- the tag with all its attributes is read, or its 33rd is refused
abbrev PairsOr : List Level → Level → RawName → List Pair → State → List ℕ → List ℕ → Type 0
PairsOr outer here name pairs s bs rest =
    ((spaced : Bool) × (stop s bs ≡ stop (in_tag outer here (tagged name pairs) spaced) rest) × (length pairs ≤ 32))
    ⊎ ((first : List Pair) × (a : Pair) × (more : List Pair) × (pairs ≡ first ++ a ∷ more) × (length first ≡ 32)
    × (stop s bs ≡ stops reason.Attributes (written_attribute a (written_pairs more rest))))

pairs_before : (outer : List Level) (here : Level) (name : RawName) (ps qs : List Pair) (s t : State) (bs cs rest : List ℕ)
    → stop s bs ≡ stop t cs → ps ≡ qs
    → PairsOr outer here name ps t cs rest → PairsOr outer here name qs s bs rest
pairs_before outer here name ps qs s t bs cs rest e q (inl f) =
    inl (f.0, e ∙ f.1 ∙ ap (λ x. stop (in_tag outer here (tagged name x) f.0) rest) q, subst (λ x. length x ≤ 32) q f.2)
pairs_before outer here name ps qs s t bs cs rest e q (inr f) = inr (f.0, f.1, f.2, sym q ∙ f.3, f.4, e ∙ f.5)

attribute_refused : (outer : List Level) (here : Level) (t : Tag) → nat_lt (length t.attributes) 32 ≡ false → (b : ℕ)
    → is_first_letter b ≡ true
    → state_after (in_tag outer here t true) b ≡ Refused reason.Attributes
attribute_refused outer here t l b e = by_kind outer here (mode.InTag t true) b class.Letter (letter_kind b e)
    ∙ ap (λ q. cond q (At outer here (mode.AttributeName t (one_letter b))) (Refused reason.Attributes)) l

pairs_or : (outer : List Level) (here : Level) (name : RawName) (pairs first : List Pair) (spaced : Bool) (rest : List ℕ)
    → ArePairs (map attribute first) pairs
    → length first ≤ 32 → PairsOr outer here name (first ++ pairs) (in_tag outer here (tagged name first) spaced)
    (written_pairs pairs rest) rest
pairs_or outer here name [] first spaced rest p l =
    inl (
      spaced,
      ap (λ xs. stop (in_tag outer here (tagged name xs) spaced) rest) (sym (append-nil first)),
      subst (λ x. length x ≤ 32) (sym (append-nil first)) l,
    )
pairs_or outer here name (a ∷ more) first spaced rest p l =
    by (nat_lt (length (map attribute first)) 32) refl (λ h. pairs_or outer here name more (first ++ a ∷ []) false rest
    (subst (λ xs. ArePairs xs more) (sym (map-append attribute first (a ∷ []))) p.1) h)
  where
    counted : length (map attribute first) < 32 → length (first ++ a ∷ []) ≤ 32
    counted h = longer (length (map attribute first)) (length first) (length (first ++ a ∷ [])) h (length-map first attribute)
        (length-append first (a ∷ []))
      where
        longer : (x y z : ℕ) → x < 32 → x ≡ y → z ≡ y + 1 → z ≤ 32
        longer x y z h e f = omega (arith, h, e, f)

    full : 32 ≤ length (map attribute first) → length first ≡ 32
    full h = same (length (map attribute first)) (length first) h (length-map first attribute) l
      where
        same : (x y : ℕ) → 32 ≤ x → x ≡ y → y ≤ 32 → y ≡ 32
        same x y h e l = omega (arith, h, e, l)

    by : (q : Bool) → nat_lt (length (map attribute first)) 32 ≡ q
        → (length (first ++ a ∷ []) ≤ 32 → PairsOr outer here name ((first ++ a ∷ []) ++ more)
        (in_tag outer here (tagged name (first ++ a ∷ [])) false) (written_pairs more rest) rest)
        → PairsOr outer here name (first ++ a ∷ more) (in_tag outer here (tagged name first) spaced) (written_pairs (a ∷ more) rest) rest
    by true q ih = pairs_before outer here name ((first ++ a ∷ []) ++ more) (first ++ a ∷ more)
        (in_tag outer here (tagged name first) spaced)
        (in_tag outer here (tagged name (first ++ a ∷ [])) false) (written_pairs (a ∷ more) rest) (written_pairs more rest) rest
        (runs (written_pair a) (part_pair a) (in_tag outer here (tagged name first) spaced)
        (in_tag outer here (with_attribute (tagged name first) (attribute a)) false)
        (λ r. pair_runs outer here (tagged name first) spaced a r (ltb-true (length (map attribute first)) 32 q) p.0) tt
        (written_pairs more rest)
        ∙ ap (λ xs. stop (in_tag outer here (record { name = name; attributes = xs }) false) (written_pairs more rest))
        (sym (map-append attribute first (a ∷ []))))
        (append_assoc first (a ∷ []) more) (ih (counted (ltb-true (length (map attribute first)) 32 q)))
    by false q ih = inr (
      first,
      a,
      more,
      refl,
      full (ltb-false (length (map attribute first)) 32 q),
      runs (λ r. a.gap ++ r) (part_append a.gap) (in_tag outer here (tagged name first) spaced) (in_tag outer here (tagged name first) true)
          (λ r. gap_runs outer here (tagged name first) spaced a.gap r p.0.0) tt (written_attribute a (written_pairs more rest))
          ∙ first_halts (in_tag outer here (tagged name first) true) reason.Attributes (attribute_refused outer here (tagged name first) q)
          a.name.prefix a.name.local (a.left ++ 61 ∷ (a.right ++ written_quoted a.quote a.value (written_pairs more rest))) p.0.1.0 p.0.1.1,
    )

-- ---- start tags

single : (s : State) (b : ℕ) → steps s (b ∷ []) ≡ state_after s b
single s b = one s (state_after s b) b [] refl ∙ none (state_after s b)

break_same : (outer : List Level) (here : Level) (prefix local bs : List ℕ) → IsPlainName local → IsBreak bs
    → stop (At outer here (mode.TagName (record { prefix = prefix; local = local }))) bs ≡ stop
    (in_tag outer here (bare prefix local) false) bs
break_same outer here prefix local [] n b = absurd b
break_same outer here prefix local (c ∷ cs) n b =
    stop_same (At outer here (mode.TagName (record { prefix = prefix; local = local }))) (in_tag outer here (bare prefix local) false) c cs
    (sym (single (At outer here (mode.TagName (record { prefix = prefix; local = local }))) c)
    ∙ tag_named outer here prefix local (c ∷ []) n b
    ∙ single (in_tag outer here (bare prefix local) false) c)

space_over : (outer : List Level) (here : Level) (t : Tag) (spaced : Bool) (ws rest : List ℕ) → IsWhite ws
    → (next : Bool) × (stop (in_tag outer here t spaced) (ws ++ rest) ≡ stop (in_tag outer here t next) rest)
space_over outer here t spaced ws rest w =
    let r = space_runs outer here t spaced ws [] w in (
      r.0,
      over ws (in_tag outer here t spaced) (in_tag outer here t r.0) rest
          (ap (λ x. steps (in_tag outer here t spaced) x) (sym (append-nil ws)) ∙ r.1 ∙ none (in_tag outer here t r.0)) tt,
    )

-- the tag is read up to its end, or its 33rd attribute is refused
abbrev TagOr : List Level → Level → State → Start → List ℕ → Type 0
TagOr outer here from s rest =
    ((spaced : Bool) × (stop from (written_tag s rest) ≡ stop (in_tag outer here (tag s) spaced) rest) × (length s.pairs ≤ 32))
    ⊎ ((first : List Pair) × (a : Pair) × (more : List Pair) × (s.pairs ≡ first ++ a ∷ more) × (length first ≡ 32)
    × (stop from (written_tag s rest) ≡ stops reason.Attributes (written_attribute a (written_pairs more (s.space ++ rest)))))

tag_or : (outer : List Level) (here : Level) (from : State) (s : Start) (rest : List ℕ) → Firsts outer here from → IsStart s → IsBreak rest
    → TagOr outer here from s rest
tag_or outer here from s rest first t b = by (pairs_or outer here s.name s.pairs [] false (s.space ++ rest) t.1 (omega arith))
  where
    to_pairs : stop from (written_tag s rest) ≡ stop (in_tag outer here (tagged s.name []) false) (written_pairs s.pairs (s.space ++ rest))
    to_pairs = runs (written_name s.name) (part_name s.name) from (At outer here (mode.TagName s.name))
        (λ r. name_runs outer here mode.TagName
        (λ m next b e. by_kind outer here (mode.TagName m) b (class_of b) refl
        ∙ ap (λ g. tag_name_by outer here b (class_of b) g) e) from first s.name r t.0)
        tt (written_pairs s.pairs (s.space ++ rest))
        ∙ break_same outer here s.name.prefix s.name.local (written_pairs s.pairs (s.space ++ rest)) t.0.1
        (pairs_break [] s.pairs (s.space ++ rest) t.1 (white_break s.space rest t.2 b))

    by : PairsOr outer here s.name s.pairs (in_tag outer here (tagged s.name []) false) (written_pairs s.pairs (s.space ++ rest))
        (s.space ++ rest)
        → TagOr outer here from s rest
    by (inl f) = let e = space_over outer here (tag s) f.0 s.space rest t.2 in inl (e.0, to_pairs ∙ f.1 ∙ e.1, f.2)
    by (inr f) = inr (f.0, f.1, f.2, f.3, f.4, to_pairs ∙ f.5)

opened_step : (outer : List Level) (here : Level) (s : Start) (spaced : Bool) (o : Option Opening)
    → opening (scope (here ∷ outer)) (tag s) ≡ o
    → state_after (in_tag outer here (tag s) spaced) 62 ≡ opened_at outer here (spelled s.name) o
opened_step outer here s spaced o e =
    by_kind outer here (mode.InTag (tag s) spaced) 62 class.Greater greater_kind ∙ ap (λ x. opened_at outer here (spelled s.name) x) e

slashed_step : (outer : List Level) (here : Level) (s : Start) (spaced : Bool) (o : Option Opening)
    → opening (scope (here ∷ outer)) (tag s) ≡ o
    → state_after (in_tag outer here (tag s) spaced) 47 ≡ slashed_at outer here o
slashed_step outer here s spaced o e =
    by_kind outer here (mode.InTag (tag s) spaced) 47 class.Slash slash_kind ∙ ap (λ x. slashed_at outer here x) e

abbrev opened_state : List Level → Level → Start → State
opened_state outer here s = At (settled here ∷ outer) (child_level (meant (scope (here ∷ outer)) s) (spelled s.name)) (mode.Inside Zero)

abbrev emptied_state : List Level → Level → Start → State
emptied_state outer here s = At outer (with_child (settled here) (empty_tree (meant (scope (here ∷ outer)) s))) (mode.Inside Zero)

-- a start tag, of which this is said in the table
abbrev stands : ℕ → List Level → Level → Start → List ℕ → Standing
stands level outer here s closing = standing level (scope (here ∷ outer)) s closing

no_less : (x y : ℕ) → x < y → x ≤ y
no_less x y l = omega (arith, l)

start_or : (level : ℕ) (outer : List Level) (here : Level) (from : State) (s : Start) (rest : List ℕ) → level ≤ 32
    → Firsts outer here from → IsStart s
    → Or (stands level outer here s (62 ∷ rest) ∷ []) from (written_tag s (62 ∷ rest)) (opened_state outer here s) rest
start_or level outer here from s rest h f t = by (tag_or outer here from s (62 ∷ rest) f t greater_breaks)
  where
    closes : length rest < length (62 ∷ rest)
    closes = omega arith

    by_opening : (sp : Bool) → stop from (written_tag s (62 ∷ rest)) ≡ stop (in_tag outer here (tag s) sp) (62 ∷ rest) → length s.pairs ≤ 32
        → (o : Option Opening) → opening (scope (here ∷ outer)) (tag s) ≡ o
        → Or (stands level outer here s (62 ∷ rest) ∷ []) from (written_tag s (62 ∷ rest)) (opened_state outer here s) rest
    by_opening sp e n None q = inr (
      reason.Namespace,
      62 ∷ rest,
      e ∙ halts (in_tag outer here (tag s) sp) 62 rest reason.Namespace (opened_step outer here s sp None q),
      stands level outer here s (62 ∷ rest),
      the_first (stands level outer here s (62 ∷ rest)) [],
      (q, refl),
      closes,
      namespace_behind level (scope (here ∷ outer)) s (62 ∷ rest) h n,
    )
    by_opening sp e n (Some o) q = inl (
      e ∙ over_one (in_tag outer here (tag s) sp) (opened_state outer here s) 62 rest
          (opened_step outer here s sp (Some o) q
          ∙ ap (λ x. At (settled here ∷ outer) (child_level x (spelled s.name)) (mode.Inside Zero)) (sym (ap or_nothing q))) tt,
      tag_free level (scope (here ∷ outer)) s (62 ∷ rest) o h n q,
    )

    by : TagOr outer here from s (62 ∷ rest)
        → Or (stands level outer here s (62 ∷ rest) ∷ []) from (written_tag s (62 ∷ rest)) (opened_state outer here s) rest
    by (inl r) = by_opening r.0 r.1 r.2 (opening (scope (here ∷ outer)) (tag s)) refl
    by (inr r) = inr (
      reason.Attributes,
      written_attribute r.1 (written_pairs r.2 (s.space ++ 62 ∷ rest)),
      r.5,
      stands level outer here s (62 ∷ rest),
      the_first (stands level outer here s (62 ∷ rest)) [],
      (r.0, r.1, r.2, r.3, r.4, refl),
      longer (length rest) (length (62 ∷ rest)) (length (written_attribute r.1 (written_pairs r.2 (s.space ++ 62 ∷ rest)))) closes
          (no_less (length (62 ∷ rest)) (length (written_attribute r.1 (written_pairs r.2 (s.space ++ 62 ∷ rest))))
          (behind_attribute s r.1 r.2 (62 ∷ rest))),
      attributes_behind level (scope (here ∷ outer)) s (62 ∷ rest) h r.0 r.1 r.2 r.3 r.4,
    )

empty_or : (level : ℕ) (outer : List Level) (here : Level) (from : State) (s : Start) (rest : List ℕ) → level ≤ 32
    → Firsts outer here from → IsStart s
    → Or (stands level outer here s (47 ∷ 62 ∷ rest) ∷ []) from (written_tag s (47 ∷ 62 ∷ rest)) (emptied_state outer here s) rest
empty_or level outer here from s rest h f t = by (tag_or outer here from s (47 ∷ 62 ∷ rest) f t slash_breaks)
  where
    closes : length rest < length (47 ∷ 62 ∷ rest)
    closes = omega arith

    by_opening : (sp : Bool) → stop from (written_tag s (47 ∷ 62 ∷ rest)) ≡ stop (in_tag outer here (tag s) sp) (47 ∷ 62 ∷ rest)
        → length s.pairs ≤ 32
        → (o : Option Opening) → opening (scope (here ∷ outer)) (tag s) ≡ o
        → Or (stands level outer here s (47 ∷ 62 ∷ rest) ∷ []) from (written_tag s (47 ∷ 62 ∷ rest)) (emptied_state outer here s) rest
    by_opening sp e n None q = inr (
      reason.Namespace,
      47 ∷ 62 ∷ rest,
      e ∙ halts (in_tag outer here (tag s) sp) 47 (62 ∷ rest) reason.Namespace (slashed_step outer here s sp None q),
      stands level outer here s (47 ∷ 62 ∷ rest),
      the_first (stands level outer here s (47 ∷ 62 ∷ rest)) [],
      (q, refl),
      closes,
      namespace_behind level (scope (here ∷ outer)) s (47 ∷ 62 ∷ rest) h n,
    )
    by_opening sp e n (Some o) q = inl (
      e
          ∙ over_one (in_tag outer here (tag s) sp) (At outer here (mode.Slashed (meant (scope (here ∷ outer)) s))) 47 (62 ∷ rest)
          (slashed_step outer here s sp (Some o) q ∙ ap (λ x. At outer here (mode.Slashed x)) (sym (ap or_nothing q))) tt
          ∙ over_one (At outer here (mode.Slashed (meant (scope (here ∷ outer)) s))) (emptied_state outer here s) 62 rest
          (by_kind outer here (mode.Slashed (meant (scope (here ∷ outer)) s)) 62 class.Greater greater_kind) tt,
      tag_free level (scope (here ∷ outer)) s (47 ∷ 62 ∷ rest) o h n q,
    )

    by : TagOr outer here from s (47 ∷ 62 ∷ rest)
        → Or (stands level outer here s (47 ∷ 62 ∷ rest) ∷ []) from (written_tag s (47 ∷ 62 ∷ rest)) (emptied_state outer here s) rest
    by (inl r) = by_opening r.0 r.1 r.2 (opening (scope (here ∷ outer)) (tag s)) refl
    by (inr r) = inr (
      reason.Attributes,
      written_attribute r.1 (written_pairs r.2 (s.space ++ 47 ∷ 62 ∷ rest)),
      r.5,
      stands level outer here s (47 ∷ 62 ∷ rest),
      the_first (stands level outer here s (47 ∷ 62 ∷ rest)) [],
      (r.0, r.1, r.2, r.3, r.4, refl),
      longer (length rest) (length (47 ∷ 62 ∷ rest)) (length (written_attribute r.1 (written_pairs r.2 (s.space ++ 47 ∷ 62 ∷ rest)))) closes
          (no_less (length (47 ∷ 62 ∷ rest)) (length (written_attribute r.1 (written_pairs r.2 (s.space ++ 47 ∷ 62 ∷ rest))))
          (behind_attribute s r.1 r.2 (47 ∷ 62 ∷ rest))),
      attributes_behind level (scope (here ∷ outer)) s (47 ∷ 62 ∷ rest) h r.0 r.1 r.2 r.3 r.4,
    )

-- ---- pieces

length_more : (level : Level) (outer : List Level) → length (level ∷ outer) ≡ length outer + 1
length_more level outer = omega arith

level_more : (x y z : ℕ) → y ≡ x + 1 → z ≡ x + 1 → y + 1 ≡ z + 1
level_more x y z e f = omega (arith, e, f)

room_more : (x z : ℕ) → x < 32 → z ≡ x + 1 → z ≤ 32
room_more x z h f = omega (arith, h, f)

room : (x level : ℕ) → x < 32 → level ≡ x + 1 → level ≤ 32
room x level h e = omega (arith, h, e)

two_more : (x : ℕ) → x ≤ suc (suc x)
two_more x = omega arith

up_more : (x y z : ℕ) → x ≤ y → y ≤ z → x ≤ suc z
up_more x y z a b = omega (arith, a, b)

up_within : (ts : List Standing) (n : ℕ) → AreWithin ts n → AreWithin ts (suc n)
up_within ts n w q t l c i = by (length l) (w q t l c i)
  where
    by : (k : ℕ) → k ≤ n → k ≤ suc n
    by k h = omega (arith, h)

abbrev PiecesOr : ℕ → List Level → Level → List Content → List ℕ → Seen → Pieces → List ℕ → Type 0
PiecesOr level outer here content text seen p rest = (to : Seen) × Or (standings level (scope (here ∷ outer)) p rest)
    (At outer (holding here content text) (mode.Inside seen)) (written p rest)
    (At outer (holding here (content_after (scope (here ∷ outer)) content text p) (text_after text p)) (mode.Inside to)) rest

abbrev inner_level : List Level → Level → Start → Level
inner_level outer here s = child_level (meant (scope (here ∷ outer)) s) (spelled s.name)

abbrev element_state : List Level → Level → Start → Pieces → State
element_state outer here s inside = At outer (with_child (settled here)
    (element_tree (meant (scope (here ∷ outer)) s) (meaning ((meant (scope (here ∷ outer)) s).declarations ++ scope
    (here ∷ outer)) inside))) (mode.Inside Zero)

abbrev element_standings : ℕ → List Level → Level → Start → Pieces → List ℕ → List ℕ → List Standing
element_standings level outer here s inside space rest = stands level outer here s (62 ∷ written inside (written_end s.name space rest))
    ∷ standings (level + 1) ((meant (scope (here ∷ outer)) s).declarations ++ scope (here ∷ outer)) inside (written_end s.name space rest)

element_or : (level : ℕ) (outer : List Level) (here : Level) (from : State) (s : Start) (inside : Pieces) (space rest : List ℕ)
    → level ≤ 32 → Firsts outer here from
    → IsStart s → IsWhite space → PiecesOr (level + 1) (settled here ∷ outer) (inner_level outer here s) [] [] Zero inside
    (written_end s.name space rest)
    → Or (element_standings level outer here s inside space rest) from (written_tag s (62 ∷ written inside (written_end s.name space rest)))
    (element_state outer here s inside) rest
element_or level outer here from s inside space rest h f t w inner =
    let sc = (meant (scope (here ∷ outer)) s).declarations ++ scope (here ∷ outer) in
    let st = stands level outer here s (62 ∷ written inside (written_end s.name space rest)) in
    let us = standings (level + 1) sc inside (written_end s.name space rest) in
    let last = holding (inner_level outer here s) (content_after sc [] [] inside) (text_after [] inside) in
    next (st ∷ []) us (st ∷ us) from (opened_state outer here s) (element_state outer here s inside)
    (written_tag s (62 ∷ written inside (written_end s.name space rest))) (written inside (written_end s.name space rest)) rest
    (only_first st us) (the_rest st us) (either_of (st ∷ []) us) (pieces_within (level + 1) sc inside (written_end s.name space rest))
    (at_most (length rest) (length (written_end s.name space rest)) (length (written inside (written_end s.name space rest)))
    (end_longer s.name space rest) (written_longer inside (written_end s.name space rest)))
    (start_or level outer here from s (written inside (written_end s.name space rest)) h f t)
    (next us [] us (opened_state outer here s) (At (settled here ∷ outer) last (mode.Inside inner.0)) (element_state outer here s inside)
    (written inside (written_end s.name space rest)) (written_end s.name space rest) rest (λ u c. c)
    (λ u c. absurd (nothing_in u c)) (λ u c. inl c)
    (none_within (length (written_end s.name space rest))) (end_longer s.name space rest) inner.1
    (inl (
      runs (written_end s.name space) (part_end s.name space) (At (settled here ∷ outer) last (mode.Inside inner.0))
          (At outer (with_child (settled here) (element_tree (meant (scope (here ∷ outer)) s)
          (content_after sc [] [] inside ++ text_item (text_after [] inside)))) (mode.Inside Zero))
          (λ r. end_runs (settled here) outer last inner.0 s.name space r refl t.0 w) tt rest
          ∙ ap (λ c. stop (At outer (with_child (settled here) (element_tree (meant (scope (here ∷ outer)) s) c)) (mode.Inside Zero)) rest)
          (law sc [] [] inside),
      none_free,
    )))

open_step : (parent : Level) (outer : List Level) (here : Level) (q : Bool) → nat_lt (length (parent ∷ outer)) 32 ≡ q → (b : ℕ)
    → is_first_letter b ≡ true
    → state_after (At (parent ∷ outer) here mode.Open) b ≡ cond q (At (parent ∷ outer) here (mode.TagName (one_letter b)))
    (Refused reason.Depth)
open_step parent outer here q e b f = by_kind (parent ∷ outer) here mode.Open b class.Letter (letter_kind b f)
    ∙ ap (λ q. cond q (At (parent ∷ outer) here (mode.TagName (one_letter b))) (Refused reason.Depth)) e

behind_name : (s : Start) → IsName s.name → (tail : List ℕ) → length tail < length (written_tag s tail)
behind_name s n tail = shorter (length tail) (length (written_pairs s.pairs (s.space ++ tail))) (length (written_tag s tail))
    (behind_pairs s tail) (name_in_tag s n tail)

-- a tag that may stand too deep
deep_or : (level : ℕ) (parent : Level) (outer : List Level) (here : Level) (seen : Seen) (s : Start) (tail : List ℕ) (to : State)
    (rest : List ℕ)
    (sc : List Declaration) (us : List Standing) → IsStart s → AreWithin us (length tail) → length rest ≤ length tail
    → level ≡ length (parent ∷ outer) + 1 → length (parent ∷ outer) ≤ 32
    → (length (parent ∷ outer) < 32 → Firsts (parent ∷ outer) here (At (parent ∷ outer) here mode.Open)
    → Or (standing level sc s tail ∷ us) (At (parent ∷ outer) here mode.Open) (written_tag s tail) to rest)
    → (q : Bool) → nat_lt (length (parent ∷ outer)) 32 ≡ q
    → Or (standing level sc s tail ∷ us) (At (parent ∷ outer) here (mode.Inside seen)) (60 ∷ written_tag s tail) to rest
deep_or level parent outer here seen s tail to rest sc us t w k l most then true e =
    before (standing level sc s tail ∷ us) (At (parent ∷ outer) here (mode.Inside seen)) (At (parent ∷ outer) here mode.Open) to
    (60 ∷ written_tag s tail) (written_tag s tail) rest
    (over_one (At (parent ∷ outer) here (mode.Inside seen)) (At (parent ∷ outer) here mode.Open) 60 (written_tag s tail)
    (by_kind (parent ∷ outer) here (mode.Inside seen) 60 class.Less less_kind) tt)
    (then (ltb-true (length (parent ∷ outer)) 32 e) (open_step parent outer here true e))
deep_or level parent outer here seen s tail to rest sc us t w k l most then false e = inr (
  reason.Depth,
  written_tag s tail,
  over_one (At (parent ∷ outer) here (mode.Inside seen)) (At (parent ∷ outer) here mode.Open) 60 (written_tag s tail)
      (by_kind (parent ∷ outer) here (mode.Inside seen) 60 class.Less less_kind) tt
      ∙ first_halts (At (parent ∷ outer) here mode.Open) reason.Depth (open_step parent outer here false e) s.name.prefix s.name.local
      (written_pairs s.pairs (s.space ++ tail)) t.0.0 t.0.1,
  standing level sc s tail,
  the_first (standing level sc s tail) us,
  (deepest (length (parent ∷ outer)) level l most (ltb-false (length (parent ∷ outer)) 32 e), refl),
  shorter (length rest) (length tail) (length (written_tag s tail)) k (behind_name s t.0 tail),
  deep_behind level sc s tail t us w,
)
  where
    deepest : (x y : ℕ) → y ≡ x + 1 → x ≤ 32 → 32 ≤ x → y ≡ 33
    deepest x y e h k = omega (arith, e, h, k)

character_then : (level : ℕ) (parent : Level) (outer : List Level) (here : Level) (content : List Content) (text : List ℕ) (seen : Seen)
    (b : ℕ)
    (more : Pieces) (rest : List ℕ) → CharacterRuns (parent ∷ outer) (holding here content text) seen b (row more)
    → ((to : Seen) → Nowhere section_word (brackets to (row more))
    → PiecesOr level (parent ∷ outer) here content (text ++ b ∷ []) to more rest)
    → PiecesOr level (parent ∷ outer) here content text seen (character b more) rest
character_then level parent outer here content text seen b more rest c ih = (
  (ih c.0 c.2).0,
  before (standings level (scope (here ∷ parent ∷ outer)) more rest) (At (parent ∷ outer) (holding here content text) (mode.Inside seen))
      (At (parent ∷ outer) (holding here content (text ++ b ∷ [])) (mode.Inside c.0)) _ (b ∷ written more rest) (written more rest) rest
      (over_one (At (parent ∷ outer) (holding here content text) (mode.Inside seen))
      (At (parent ∷ outer) (holding here content (text ++ b ∷ [])) (mode.Inside c.0)) b (written more rest) c.1 tt) (ih c.0 c.2).1,
)

pieces_or : (level : ℕ) (parent : Level) (outer : List Level) (here : Level) (content : List Content) (text : List ℕ) (seen : Seen)
    (p : Pieces) (rest : List ℕ)
    → Allowed p → Nowhere section_word (brackets seen (row p)) → level ≡ length (parent ∷ outer) + 1 → length (parent ∷ outer) ≤ 32
    → PiecesOr level (parent ∷ outer) here content text seen p rest
pieces_or level parent outer here content text seen nothing rest a n l d = (seen, inl (refl, none_free))
pieces_or level parent outer here content text seen (character b more) rest a n l d =
    character_then level parent outer here content text seen b more rest
    (character_runs parent outer (holding here content text) seen b (row more) a.0.0 a.0.1 a.0.2 n)
    (λ to n. pieces_or level parent outer here content (text ++ b ∷ []) to more rest a.1 n l d)
pieces_or level parent outer here content text seen (reference x more) rest a n l d =
    let ih = pieces_or level parent outer here content (text ++ encode_utf8 (character_of x)) Zero more rest a.1
    (row_safe more a.1) l d in (
      ih.0,
      before (standings level (scope (here ∷ parent ∷ outer)) more rest) _
          (At (parent ∷ outer) (holding here content (text ++ encode_utf8 (character_of x))) (mode.Inside Zero)) _
          _ (written more rest) rest (runs (written_reference x) (part_reference x)
          (At (parent ∷ outer) (holding here content text) (mode.Inside seen))
          (At (parent ∷ outer) (holding here content (text ++ encode_utf8 (character_of x))) (mode.Inside Zero))
          (λ r. reference_in parent outer (holding here content text) seen x r a.0) tt (written more rest)) ih.1,
    )
pieces_or level parent outer here content text seen (section body more) rest a n l d =
    let ih = pieces_or level parent outer here content (text ++ body) Zero more rest a.1 (row_safe more a.1) l d in (
      ih.0,
      before (standings level (scope (here ∷ parent ∷ outer)) more rest) _
          (At (parent ∷ outer) (holding here content (text ++ body)) (mode.Inside Zero)) _
          _ (written more rest) rest (runs (written_section body) (part_section body)
          (At (parent ∷ outer) (holding here content text) (mode.Inside seen))
          (At (parent ∷ outer) (holding here content (text ++ body)) (mode.Inside Zero))
          (λ r. section_in parent outer (holding here content text) seen body r a.0) tt (written more rest)) ih.1,
    )
pieces_or level parent outer here content text seen (comment body more) rest a n l d =
    let ih = pieces_or level parent outer here content text Zero more rest a.1 (row_safe more a.1) l d in (
      ih.0,
      before (standings level (scope (here ∷ parent ∷ outer)) more rest) _
          (At (parent ∷ outer) (holding here content text) (mode.Inside Zero)) _
          _ (written more rest) rest (runs (written_comment body) (part_comment body)
          (At (parent ∷ outer) (holding here content text) (mode.Inside seen))
          (At (parent ∷ outer) (holding here content text) (mode.Inside Zero))
          (λ r. go (parent ∷ outer) (holding here content text) (mode.Inside seen) 60 class.Less
          (33 ∷ 45 ∷ 45 ∷ (body ++ 45 ∷ 45 ∷ 62 ∷ r)) less_kind
          ∙ comment_in (parent ∷ outer) (holding here content text) body r a.0) tt (written more rest)) ih.1,
    )
pieces_or level parent outer here content text seen (empty s more) rest a n l d =
    let sc = scope (here ∷ parent ∷ outer) in
    let ih = pieces_or level parent outer here (with_element content text (element_tree (meant sc s) [])) [] Zero more rest a.1
    (row_safe more a.1) l d in
    let st = standing level sc s (47 ∷ 62 ∷ written more rest) in
    let us = standings level sc more rest in (
      ih.0,
      next (st ∷ []) us (st ∷ us) _ (emptied_state (parent ∷ outer) (holding here content text) s) _ _ (written more rest) rest
          (only_first st us) (the_rest st us) (either_of (st ∷ []) us) (pieces_within level sc more rest) (written_longer more rest)
          (deep_or level parent outer (holding here content text) seen s (47 ∷ 62 ∷ written more rest)
          (emptied_state (parent ∷ outer) (holding here content text) s)
          (written more rest) sc [] a.0 (none_within (length (47 ∷ 62 ∷ written more rest))) (two_more (length (written more rest))) l d
          (λ h f. empty_or level (parent ∷ outer) (holding here content text)
          (At (parent ∷ outer) (holding here content text) mode.Open) s (written more rest)
          (room (length (parent ∷ outer)) level h l) f a.0)
          (nat_lt (length (parent ∷ outer)) 32) refl)
          ih.1,
    )
pieces_or level parent outer here content text seen (element s inside space more) rest a n l d =
    let sc = scope (here ∷ parent ∷ outer) in
    let ih = pieces_or level parent outer here (with_element content text
    (element_tree (meant sc s) (meaning ((meant sc s).declarations ++ sc) inside))) [] Zero more rest
    a.3 (row_safe more a.3) l d in
    let st = standing level sc s (62 ∷ written inside (written_end s.name space (written more rest))) in
    let vs = standings (level + 1) ((meant sc s).declarations ++ sc) inside (written_end s.name space (written more rest)) in
    let us = standings level sc more rest in (
      ih.0,
      next (st ∷ vs) us (st ∷ (vs ++ us)) _ (element_state (parent ∷ outer) (holding here content text) s inside) _ _
          (written more rest) rest
          (λ u c. Contains-append_left (st ∷ vs) us u c) (λ u c. Contains-append_right (st ∷ vs) us u c)
          (either_of (st ∷ vs) us) (pieces_within level sc more rest) (written_longer more rest)
          (deep_or level parent outer (holding here content text) seen s
          (62 ∷ written inside (written_end s.name space (written more rest)))
          (element_state (parent ∷ outer) (holding here content text) s inside) (written more rest) sc vs a.0
          (up_within vs (length (written inside (written_end s.name space (written more rest))))
          (pieces_within (level + 1) ((meant sc s).declarations ++ sc) inside (written_end s.name space (written more rest))))
          (up_more (length (written more rest)) (length (written_end s.name space (written more rest)))
          (length (written inside (written_end s.name space (written more rest)))) (end_longer s.name space (written more rest))
          (written_longer inside (written_end s.name space (written more rest)))) l d
          (λ h f. element_or level (parent ∷ outer) (holding here content text)
          (At (parent ∷ outer) (holding here content text) mode.Open) s inside space
          (written more rest) (room (length (parent ∷ outer)) level h l) f a.0 a.2
          (pieces_or (level + 1) (settled (holding here content text)) (parent ∷ outer)
          (child_level (meant sc s) (spelled s.name)) [] [] Zero inside
          (written_end s.name space (written more rest)) a.1 (row_safe inside a.1)
          (level_more (length (parent ∷ outer)) level (length (settled (holding here content text) ∷ parent ∷ outer)) l
          (length_more (settled (holding here content text)) (parent ∷ outer)))
          (room_more (length (parent ∷ outer)) (length (settled (holding here content text) ∷ parent ∷ outer)) h
          (length_more (settled (holding here content text)) (parent ∷ outer)))))
          (nat_lt (length (parent ∷ outer)) 32) refl)
          ih.1,
    )

-- ---- documents

refused_after : (r : Reason) (b : ℕ) → state_after (Refused r) b ≡ Refused r
unfolding state_after
refused_after r b = refl

firsts_going : (s : State) → Firsts [] document s → IsGoing s
firsts_going (At outer here m) f = tt
firsts_going (Refused r) f = subst IsGoing (sym (f 97 refl) ∙ refused_after r 97) tt

begins_going : (s : State) → Begins s → IsGoing s
begins_going (At outer here m) g = tt
begins_going (Refused r) g = subst IsGoing (sym (g.0 32 refl) ∙ refused_after r 32) tt

abbrev RootOr : Pieces → List ℕ → Type 0
RootOr root rest = (from : State) → Begins from → (h : Head) (m : Misc) → IsHeading h → IsMisc m
    → Or (standings 1 first_scope root rest) from (written_heading h (written_misc m (written root rest)))
    (outside (meaning first_scope root)) rest

-- up to the root's name
up_to : (from : State) → Begins from → (h : Head) (m : Misc) → IsHeading h → IsMisc m
    → (at : State) × Firsts [] document at × ((rest : List ℕ) → stop from (written_heading h (written_misc m (60 ∷ rest))) ≡ stop at rest)
up_to from g h m ih im =
    let x = heading_reaches from g h m [] ih im in (
      x.0,
      x.1,
      λ rest. ap (λ y. stop from (written_heading h y)) (part_misc m (60 ∷ []) rest)
          ∙ ap (λ y. stop from y) (part_heading h (written_misc m (60 ∷ [])) rest)
          ∙ over (written_heading h (written_misc m (60 ∷ []))) from x.0 rest (x.2 ∙ none x.0) (firsts_going x.0 x.1),
    )

one_open : length (settled document ∷ []) ≤ 32
one_open = omega arith

two_levels : 1 + 1 ≡ length (settled document ∷ []) + 1
two_levels = omega arith

one_level : 1 ≤ 32
one_level = omega arith

without_end : (ts : List Standing) (u : Standing) → Contains ts u ⊎ Contains [] u → Contains ts u
without_end ts u (inl c) = c
without_end ts u (inr c) = absurd (nothing_in u c)

empty_root : (s : Start) (rest : List ℕ) → Allowed (empty s nothing) → RootOr (empty s nothing) rest
empty_root s rest a from g h m ih im =
    let x = up_to from g h m ih im in
    before (standings 1 first_scope (empty s nothing) rest) from x.0 (outside (meaning first_scope (empty s nothing))) _
    (written_tag s (47 ∷ 62 ∷ rest)) rest
    (x.2 (written_tag s (47 ∷ 62 ∷ rest))) (empty_or 1 [] document x.0 s rest one_level x.1 a.0)

element_root : (s : Start) (inside : Pieces) (space rest : List ℕ) → Allowed (element s inside space nothing)
    → RootOr (element s inside space nothing) rest
element_root s inside space rest a from g h m ih im =
    let x = up_to from g h m ih im in
    let st = standing 1 first_scope s (62 ∷ written inside (written_end s.name space rest)) in
    let us = standings (1 + 1) ((meant first_scope s).declarations ++ first_scope) inside (written_end s.name space rest) in
    before (standings 1 first_scope (element s inside space nothing) rest) from x.0
    (outside (meaning first_scope (element s inside space nothing))) _
    (written_tag s (62 ∷ written inside (written_end s.name space rest))) rest
    (x.2 (written_tag s (62 ∷ written inside (written_end s.name space rest))))
    (same_tags (st ∷ us) (st ∷ (us ++ [])) x.0 _ _ rest (λ u c. Contains-append_left (st ∷ us) [] u c)
    (λ u c. without_end (st ∷ us) u (either_of (st ∷ us) [] u c))
    (element_or 1 [] document x.0 s inside space rest one_level x.1 a.0 a.2
    (pieces_or (1 + 1) (settled document) [] (child_level (meant first_scope s) (spelled s.name)) [] [] Zero inside
    (written_end s.name space rest)
    a.1 (row_safe inside a.1) two_levels one_open)))

root_or : (root : Pieces) (rest : List ℕ) → IsRoot root → Allowed root → RootOr root rest
root_or (empty s nothing) rest i a = empty_root s rest a
root_or (element s inside space nothing) rest i a = element_root s inside space rest a
root_or _ rest i a = absurd i

-- over a document the machine stops nowhere, or at the first start tag that is a cause
abbrev DocumentOr : Document → Type 0
DocumentOr d = ((stop (At [] document mode.Begin) (written_document d) ≡ goes_on) × AreFree (document_standings d))
    ⊎ IsFirstAt (document_standings d) (At [] document mode.Begin) (written_document d) (written_misc d.behind [])

document_first : (d : Document) → IsDocument d → DocumentOr d
document_first d i =
    let m = mark_begins d.mark in
    let rest = written_heading d.heading (written_misc d.before (written d.root (written_misc d.behind []))) in
    by (before (document_standings d) (At [] document mode.Begin) m.0 (outside (meaning first_scope d.root)) (written_document d) rest
    (written_misc d.behind [])
    (ap (λ y. stop (At [] document mode.Begin) y) (part_mark d.mark [] rest)
    ∙ over (written_mark d.mark []) (At [] document mode.Begin) m.0 rest (m.2 [] ∙ none m.0) (begins_going m.0 m.1))
    (root_or d.root (written_misc d.behind []) i.2 i.3 m.0 m.1 d.heading d.before i.0 i.1))
  where
    ended : stop (outside (meaning first_scope d.root)) (written_misc d.behind []) ≡ goes_on
    ended = to_end (written_misc d.behind []) (outside (meaning first_scope d.root)) (outside (meaning first_scope d.root))
        (misc_runs (meaning first_scope d.root) d.behind [] i.4 ∙ none (outside (meaning first_scope d.root))) tt

    by : Or (document_standings d) (At [] document mode.Begin) (written_document d) (outside (meaning first_scope d.root))
        (written_misc d.behind [])
        → DocumentOr d
    by (inl e) = inl (e.0 ∙ ended, e.1)
    by (inr f) = inr f

pub document_or : (d : Document) → IsDocument d
    → (stop (At [] document mode.Begin) (written_document d) ≡ goes_on)
    ⊎ IsFoundAt (document_standings d) (At [] document mode.Begin) (written_document d)
document_or d i = by (document_first d i)
  where
    by : DocumentOr d → (stop (At [] document mode.Begin) (written_document d) ≡ goes_on)
        ⊎ IsFoundAt (document_standings d) (At [] document mode.Begin) (written_document d)
    by (inl f) = inl f.0
    by (inr f) = inr (f.0, f.1, f.2, f.3, f.4, f.5)

-- where a start tag is a cause, the machine stops there, or where more bytes are left
pub stops_by_then : (d : Document) → IsDocument d → (q : Reason) (t : Standing) (l : List ℕ) → Contains (document_standings d) t
    → IsCauseAt q t l
    → (r : Reason) × (left : List ℕ) × (stop (At [] document mode.Begin) (written_document d) ≡ stops r left) × IsBehind q l r left
stops_by_then d i q t l c k = by (document_first d i)
  where
    by : DocumentOr d
        → (r : Reason) × (left : List ℕ) × (stop (At [] document mode.Begin) (written_document d) ≡ stops r left) × IsBehind q l r left
    by (inl f) = absurd (f.1 q t l c k)
    by (inr f) = (f.0, f.1, f.2, f.7 q t l c k)

-- ---- what is left where a state stops

no_stops : (r : Reason) (left : List ℕ) → goes_on ≡ stops r left → ⊥
no_stops r left e = cc

stopped_reason : (q r : Reason) (xs ys : List ℕ) → stops q xs ≡ stops r ys → q ≡ r
stopped_reason q r xs ys e = cc

stopped_left : (q r : Reason) (xs ys : List ℕ) → stops q xs ≡ stops r ys → xs ≡ ys
stopped_left q r xs ys e = cc

-- at the first byte, or behind it
first_byte : (s : State) (b : ℕ) (bs : List ℕ) (r : Reason) (left : List ℕ) → stop s (b ∷ bs) ≡ stops r left → (u : State)
    → state_after s b ≡ u → ((u ≡ Refused r) × (left ≡ b ∷ bs)) ⊎ (stop u bs ≡ stops r left)
unfolding stop
first_byte s b bs r left e (Refused q) f =
    let both : stops q (b ∷ bs) ≡ stops r left = sym (ap (λ u. stop_by u (b ∷ bs) (stop u bs)) f) ∙ e in
    inl (ap (λ x. Refused x) (stopped_reason q r (b ∷ bs) left both), sym (stopped_left q r (b ∷ bs) left both))
first_byte s b bs r left e (At outer here m) f = inr (sym (ap (λ u. stop_by u (b ∷ bs) (stop u bs)) f) ∙ e)

pub stop_short : (bs : List ℕ) (s : State) (r : Reason) (left : List ℕ) → stop s bs ≡ stops r left → length left ≤ length bs
stop_short [] s r left e = absurd (no_stops r left (sym (stop_none s) ∙ e))
stop_short (b ∷ bs) s r left e =
    by (first_byte s b bs r left e (state_after s b) refl) (λ f. stop_short bs (state_after s b) r left f)
  where
    up : (x y : ℕ) → x ≤ y → x ≤ suc y
    up x y l = omega (arith, l)

    by : ((state_after s b ≡ Refused r) × (left ≡ b ∷ bs)) ⊎ (stop (state_after s b) bs ≡ stops r left)
        → (stop (state_after s b) bs ≡ stops r left → length left ≤ length bs) → length left ≤ length (b ∷ bs)
    by (inl f) ih = subst (λ x. length x ≤ length (b ∷ bs)) (sym f.1) (omega arith)
    by (inr f) ih = up (length left) (length bs) (ih f)

-- where all is left, the first byte is refused
pub first_refused : (bs : List ℕ) (s : State) (r : Reason) → stop s bs ≡ stops r bs
    → (b : ℕ) × (more : List ℕ) × (bs ≡ b ∷ more) × (state_after s b ≡ Refused r)
first_refused [] s r e = absurd (no_stops r [] (sym (stop_none s) ∙ e))
first_refused (b ∷ bs) s r e = by (first_byte s b bs r (b ∷ bs) e (state_after s b) refl)
  where
    never : (x : ℕ) → suc x ≤ x → ⊥
    never x l = omega (arith, l)

    by : ((state_after s b ≡ Refused r) × (b ∷ bs ≡ b ∷ bs)) ⊎ (stop (state_after s b) bs ≡ stops r (b ∷ bs))
        → (c : ℕ) × (more : List ℕ) × (b ∷ bs ≡ c ∷ more) × (state_after s c ≡ Refused r)
    by (inl f) = (b, bs, refl, f.0)
    by (inr f) = absurd (never (length bs) (stop_short bs (state_after s b) r (b ∷ bs) f))
