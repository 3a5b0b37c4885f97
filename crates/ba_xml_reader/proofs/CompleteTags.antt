-- The machine over attributes and start tags.
use Rattle.std.proofs.Common.{◌≡◌, ℕ, ◌+◌, ◌<◌, ◌≤◌, Bool, true, false, cond, ◌||◌, ◌&&◌, inl, inr, List, [], ◌∷◌, ◌++◌, map, length}
use Rattle.std.proofs.Common.{encode_utf8, bytes_eq, refl, sym, ap, ap₂, ◌∙◌, subst, append_assoc, append-nil, arith, eq-eqb, true≢false}
use Rattle.std.proofs.Common.{length-append}
use Rattle.std.proofs.lemmas.Bool.{lt-ltb}
use Rattle.std.proofs.lemmas.Slice.Eq.{bytes_eq-Decides}
use Rattle.ba_xml_reader.proofs.CompleteContent.{white}
use Rattle.ba_xml_reader.proofs.CompleteNames.{name_runs, letter_kind}
use Rattle.ba_xml_reader.proofs.CompleteReferences.{reference_runs, follows}
use Rattle.ba_xml_reader.proofs.CompleteSteps.{steps, one, by_kind, go, IsByte, told, no_control, space_kind}
use Rattle.ba_xml_reader.proofs.CompleteContent.{Differing}
use Rattle.ba_xml_words.specs.Classes.{is_space, is_first_letter, class_of, mark_of}
use Rattle.ba_xml_reader.specs.inside.Machine.{state_after}
use Rattle.ba_xml_words.specs.inside.Names.{one_letter, is_written, same_name}
use Rattle.ba_xml_names.specs.inside.Tags.{with_attribute}
use Rattle.ba_xml_reader.specs.inside.Tags.{value_by, value_reference_by, attribute_name_by, name_ended, equals_after, tag_name_by}
use Rattle.ba_xml_grammar.specs.Grammar.{Value, value_end, value_character, value_reference, Pair, Start, written_value, written_pair}
use Rattle.ba_xml_grammar.specs.Grammar.{written_pairs, written_tag, written_quoted, value_of, attribute, tag, IsValue, IsNew, IsPair}
use Rattle.ba_xml_grammar.specs.Grammar.{ArePairs, IsStart}
use Rattle.ba_xml_grammar.specs.GrammarWords.{Differ, IsWhite, IsGap, is_character, IsName, IsPlainName, IsQuote, written_name, Reference}
use Rattle.ba_xml_grammar.specs.GrammarWords.{reference_text, character_of, IsReference}
use Rattle.ba_xml_words.specs.declared.classes.Class.{Class}
use Rattle.ba_xml_words.specs.declared.classes.Class.TheVariants as class
use Rattle.ba_xml_names.specs.declared.levels.Level.{Level}
use Rattle.ba_xml_words.specs.declared.names.RawName.{RawName}
use Rattle.ba_xml_words.specs.declared.names.RawAttribute.{RawAttribute}
use Rattle.ba_xml_words.specs.declared.references.Partial.TheVariants.{Nothing}
use Rattle.ba_xml_names.specs.declared.tags.Tag.{Tag}
use Rattle.ba_xml_reader.specs.declared.states.Mode.TheVariants as mode
use Rattle.ba_xml_reader.specs.declared.states.State.{State}
use Rattle.ba_xml_reader.specs.declared.states.State.TheVariants.{At, Refused}
use Rattle.ba_xml_words.specs.declared.faults.Reason.TheVariants.{Syntax}

ampersand_kind : class_of 38 ≡ class.Ampersand
unfolding class_of mark_of
ampersand_kind = refl

equals_kind : class_of 61 ≡ class.EqualsSign
unfolding class_of mark_of
equals_kind = refl

apostrophe_kind : class_of 39 ≡ class.Apostrophe
unfolding class_of mark_of
apostrophe_kind = refl

quotation_kind : class_of 34 ≡ class.DoubleQuote
unfolding class_of mark_of
quotation_kind = refl

-- ---- values

abbrev valued : RawName → List ℕ → RawAttribute
valued name bytes = record { name = name; value = bytes }

abbrev in_value : List Level → Level → Tag → RawName → ℕ → List ℕ → State
in_value outer here t name quote bytes = At outer here (mode.Value t (valued name bytes) quote)

space_step : (outer : List Level) (here : Level) (t : Tag) (name : RawName) (quote : ℕ) (acc : List ℕ) (b : ℕ) → Differ b quote
    → is_space b ≡ true
    → state_after (in_value outer here t name quote acc) b ≡ in_value outer here t name quote (acc ++ 32 ∷ [])
space_step outer here t name quote acc b d s = by_kind outer here (mode.Value t (valued name acc) quote) b class.Space (space_kind b s)
    ∙ ap (λ q. cond q (At outer here (mode.InTag (with_attribute t (valued name acc)) false))
    (in_value outer here t name quote (acc ++ 32 ∷ []))) d

plain_step : (outer : List Level) (here : Level) (t : Tag) (name : RawName) (quote : ℕ) (acc : List ℕ) (b : ℕ) → Differ b quote
    → is_space b ≡ false → is_character b ≡ true
    → (b ≡ 60 → ⊥) → (b ≡ 38 → ⊥) → (k : Class) → class_of b ≡ k → IsByte k b
    → state_after (in_value outer here t name quote acc) b ≡ in_value outer here t name quote (acc ++ b ∷ [])
plain_step outer here t name quote acc b d s c nl na class.Space e i = absurd (true≢false (sym i ∙ s))
plain_step outer here t name quote acc b d s c nl na class.Control e i = absurd (no_control b c i)
plain_step outer here t name quote acc b d s c nl na class.Less e i = absurd (nl i)
plain_step outer here t name quote acc b d s c nl na class.Ampersand e i = absurd (na i)
plain_step outer here t name quote acc b d s c nl na k e i = by_kind outer here (mode.Value t (valued name acc) quote) b k e
    ∙ ap (λ q. cond q (At outer here (mode.InTag (with_attribute t (valued name acc)) false))
    (in_value outer here t name quote (acc ++ b ∷ []))) d

value_step : (outer : List Level) (here : Level) (t : Tag) (name : RawName) (quote : ℕ) (acc : List ℕ) (b : ℕ) → is_character b ≡ true
    → Differ b 60 → Differ b 38 → Differ b quote
    → state_after (in_value outer here t name quote acc) b ≡ in_value outer here t name quote (acc ++ cond (is_space b) 32 b ∷ [])
value_step outer here t name quote acc b c l a d = by (is_space b) refl
  where
    by : (s : Bool) → is_space b ≡ s → state_after (in_value outer here t name quote acc) b
        ≡ in_value outer here t name quote (acc ++ cond s 32 b ∷ [])
    by true s = space_step outer here t name quote acc b d s
    by false s = plain_step outer here t name quote acc b d s c (Differing b 60 l) (Differing b 38 a) (class_of b) refl (told b)

no_quote : (quote : ℕ) → IsQuote quote → Differ 38 quote
no_quote quote (inl e) = subst (λ q. Differ 38 q) (sym e) refl
no_quote quote (inr e) = subst (λ q. Differ 38 q) (sym e) refl

ampersand_step : (outer : List Level) (here : Level) (t : Tag) (name : RawName) (quote : ℕ) (acc : List ℕ) (bs : List ℕ) → IsQuote quote
    → steps (in_value outer here t name quote acc) (38 ∷ bs)
    ≡ steps (At outer here (mode.ValueReference t (valued name acc) quote Nothing)) bs
ampersand_step outer here t name quote acc bs q = go outer here (mode.Value t (valued name acc) quote) 38 class.Ampersand bs ampersand_kind
    ∙ ap (λ x. steps (cond x (At outer here (mode.InTag (with_attribute t (valued name acc)) false))
    (At outer here (mode.ValueReference t (valued name acc) quote Nothing))) bs) (no_quote quote q)

value_reference_runs : (outer : List Level) (here : Level) (t : Tag) (name : RawName) (quote : ℕ) (acc : List ℕ) (r : Reference)
    (rest : List ℕ) → IsReference r
    → steps (At outer here (mode.ValueReference t (valued name acc) quote Nothing)) (reference_text r ++ 59 ∷ rest)
    ≡ steps (in_value outer here t name quote (acc ++ encode_utf8 (character_of r))) rest
value_reference_runs outer here t name quote acc r rest i =
    ap (λ bs. steps (At outer here (mode.ValueReference t (valued name acc) quote Nothing)) bs)
    (sym (append_assoc (reference_text r) (59 ∷ []) rest))
    ∙ reference_runs (λ p. At outer here (mode.ValueReference t (valued name acc) quote p))
    (λ c. in_value outer here t name quote (acc ++ encode_utf8 c))
    (λ p q b e. by_kind outer here (mode.ValueReference t (valued name acc) quote p) b (class_of b) refl
    ∙ ap (λ g. value_reference_by outer here t (valued name acc) quote g) e)
    (λ p b c e. by_kind outer here (mode.ValueReference t (valued name acc) quote p) b (class_of b) refl
    ∙ ap (λ g. value_reference_by outer here t (valued name acc) quote g) e)
    (reference_text r ++ 59 ∷ []) Nothing (character_of r) rest (follows r i)

value_runs : (outer : List Level) (here : Level) (t : Tag) (name : RawName) (quote : ℕ) (v : Value) (acc rest : List ℕ) → IsQuote quote
    → IsValue quote v
    → steps (in_value outer here t name quote acc) (written_value v rest)
    ≡ steps (in_value outer here t name quote (acc ++ value_of v)) rest
value_runs outer here t name quote value_end acc rest q i = ap (λ a. steps (in_value outer here t name quote a) rest) (sym (append-nil acc))
value_runs outer here t name quote (value_character b more) acc rest q i =
    one (in_value outer here t name quote acc) (in_value outer here t name quote (acc ++ cond (is_space b) 32 b ∷ [])) b
    (written_value more rest) (value_step outer here t name quote acc b i.0 i.1 i.2 i.3)
    ∙ value_runs outer here t name quote more (acc ++ cond (is_space b) 32 b ∷ []) rest q i.4
    ∙ ap (λ a. steps (in_value outer here t name quote a) rest) (append_assoc acc (cond (is_space b) 32 b ∷ []) (value_of more))
value_runs outer here t name quote (value_reference r more) acc rest q i =
    ampersand_step outer here t name quote acc (reference_text r ++ 59 ∷ written_value more rest) q
    ∙ value_reference_runs outer here t name quote acc r (written_value more rest) i.0
    ∙ value_runs outer here t name quote more (acc ++ encode_utf8 (character_of r)) rest q i.1
    ∙ ap (λ a. steps (in_value outer here t name quote a) rest) (append_assoc acc (encode_utf8 (character_of r)) (value_of more))

quote_step : (outer : List Level) (here : Level) (t : Tag) (name : RawName) (quote : ℕ) (rest : List ℕ) → IsQuote quote
    → steps (At outer here (mode.Quote t name)) (quote ∷ rest) ≡ steps (in_value outer here t name quote []) rest
quote_step outer here t name quote rest (inl e) =
    subst (λ q. steps (At outer here (mode.Quote t name)) (q ∷ rest) ≡ steps (in_value outer here t name q []) rest) (sym e)
    (go outer here (mode.Quote t name) 34 class.DoubleQuote rest quotation_kind)
quote_step outer here t name quote rest (inr e) =
    subst (λ q. steps (At outer here (mode.Quote t name)) (q ∷ rest) ≡ steps (in_value outer here t name q []) rest) (sym e)
    (go outer here (mode.Quote t name) 39 class.Apostrophe rest apostrophe_kind)

unquote_step : (outer : List Level) (here : Level) (t : Tag) (name : RawName) (quote : ℕ) (acc rest : List ℕ)
    → steps (in_value outer here t name quote acc) (quote ∷ rest)
    ≡ steps (At outer here (mode.InTag (with_attribute t (valued name acc)) false)) rest
unquote_step outer here t name quote acc rest = go outer here (mode.Value t (valued name acc) quote) quote (class_of quote) rest refl
    ∙ ap (λ x. steps (cond x (At outer here (mode.InTag (with_attribute t (valued name acc)) false))
    (value_by outer here t (valued name acc) quote quote (class_of quote))) rest) (eq-eqb quote quote refl)

quoted_runs : (outer : List Level) (here : Level) (t : Tag) (a : Pair) (rest : List ℕ) → IsQuote a.quote → IsValue a.quote a.value
    → steps (At outer here (mode.Quote t a.name)) (written_quoted a.quote a.value rest)
    ≡ steps (At outer here (mode.InTag (with_attribute t (attribute a)) false)) rest
quoted_runs outer here t a rest q v = quote_step outer here t a.name a.quote (written_value a.value (a.quote ∷ rest)) q
    ∙ value_runs outer here t a.name a.quote a.value [] (a.quote ∷ rest) q v
    ∙ unquote_step outer here t a.name a.quote (value_of a.value) rest

-- ---- attributes

same_parts : (name other : RawName) → same_name name other ≡ true → name ≡ other
same_parts name other e = by (bytes_eq name.prefix other.prefix) (bytes_eq name.local other.local) refl refl e
  where
    by : (x y : Bool) → bytes_eq name.prefix other.prefix ≡ x → bytes_eq name.local other.local ≡ y → (x && y) ≡ true → name ≡ other
    by true true p l e = λ i. record {
      prefix = (bytes_eq-Decides name.prefix other.prefix).0 p i;
      local = (bytes_eq-Decides name.local other.local).0 l i;
    }
    by true false p l e = absurd (true≢false (sym e))
    by false y p l e = absurd (true≢false (sym e))

not_same : (name other : RawName) → (name ≡ other → ⊥) → same_name name other ≡ false
not_same name other n = by (same_name name other) refl
  where
    by : (t : Bool) → same_name name other ≡ t → t ≡ false
    by true e = absurd (n (same_parts name other e))
    by false e = refl

not_written : (name : RawName) (before : List RawAttribute) → IsNew name before → is_written name before ≡ false
not_written name [] n = refl
not_written name (a ∷ before) n = ap₂ (λ x y. x || y) (not_same name a.name n.0) (not_written name before n.1)

abbrev pub in_tag : List Level → Level → Tag → Bool → State
in_tag outer here t spaced = At outer here (mode.InTag t spaced)

pub gap_runs : (outer : List Level) (here : Level) (t : Tag) (spaced : Bool) (ws rest : List ℕ) → IsGap ws
    → steps (in_tag outer here t spaced) (ws ++ rest) ≡ steps (in_tag outer here t true) rest
gap_runs outer here t spaced [] rest g = absurd g.0
gap_runs outer here t spaced (b ∷ ws) rest g = go outer here (mode.InTag t spaced) b class.Space (ws ++ rest) (space_kind b g.1.0)
    ∙ white outer here (mode.InTag t true) refl (λ b. refl) ws rest g.1.1

attribute_first : (outer : List Level) (here : Level) (t : Tag) → length t.attributes < 32 → (b : ℕ) → is_first_letter b ≡ true
    → state_after (in_tag outer here t true) b ≡ At outer here (mode.AttributeName t (one_letter b))
attribute_first outer here t l b e = by_kind outer here (mode.InTag t true) b class.Letter (letter_kind b e)
    ∙ (rw (lt-ltb (length t.attributes) 32 l) refl)

attribute_named : (outer : List Level) (here : Level) (t : Tag) → length t.attributes < 32 → (name : RawName) (rest : List ℕ) → IsName name
    → steps (in_tag outer here t true) (written_name name rest) ≡ steps (At outer here (mode.AttributeName t name)) rest
attribute_named outer here t l name rest n = name_runs outer here (λ m. mode.AttributeName t m)
    (λ m next b e. by_kind outer here (mode.AttributeName t m) b (class_of b) refl
    ∙ ap (λ g. attribute_name_by outer here t (class_of b) g) e)
    (in_tag outer here t true) (attribute_first outer here t l) name rest n

abbrev pub raw : List ℕ → List ℕ → RawName
raw prefix local = record { prefix = prefix; local = local }

not_twice : (outer : List Level) (here : Level) (t : Tag) (name : RawName) (k : Class) (bs : List ℕ) → is_written name t.attributes ≡ false
    → steps (name_ended outer here t name k) bs ≡ steps (equals_after outer here t name k) bs
not_twice outer here t name k bs w = ap (λ q. steps (cond q (Refused Syntax) (equals_after outer here t name k)) bs) w

-- behind an attribute's name
name_ends : (outer : List Level) (here : Level) (t : Tag) (prefix local : List ℕ) (ws rest : List ℕ) → IsPlainName local
    → is_written (raw prefix local) t.attributes ≡ false → IsWhite ws
    → steps (At outer here (mode.AttributeName t (raw prefix local))) (ws ++ 61 ∷ rest)
    ≡ steps (At outer here (mode.Equals t (raw prefix local))) (ws ++ 61 ∷ rest)
name_ends outer here t prefix [] ws rest n w s = absurd n
name_ends outer here t prefix (x ∷ xs) [] rest n w s =
    go outer here (mode.AttributeName t (raw prefix (x ∷ xs))) 61 class.EqualsSign rest equals_kind
    ∙ not_twice outer here t (raw prefix (x ∷ xs)) class.EqualsSign rest w
    ∙ sym (go outer here (mode.Equals t (raw prefix (x ∷ xs))) 61 class.EqualsSign rest equals_kind)
name_ends outer here t prefix (x ∷ xs) (b ∷ ws) rest n w s =
    go outer here (mode.AttributeName t (raw prefix (x ∷ xs))) b class.Space (ws ++ 61 ∷ rest) (space_kind b s.0)
    ∙ not_twice outer here t (raw prefix (x ∷ xs)) class.Space (ws ++ 61 ∷ rest) w
    ∙ sym (go outer here (mode.Equals t (raw prefix (x ∷ xs))) b class.Space (ws ++ 61 ∷ rest) (space_kind b s.0))

equals_runs : (outer : List Level) (here : Level) (t : Tag) (a : Pair) (rest : List ℕ) → IsWhite a.left → IsWhite a.right
    → steps (At outer here (mode.Equals t a.name)) (a.left ++ 61 ∷ (a.right ++ rest)) ≡ steps (At outer here (mode.Quote t a.name)) rest
equals_runs outer here t a rest l r = white outer here (mode.Equals t a.name) refl (λ b. refl) a.left (61 ∷ (a.right ++ rest)) l
    ∙ go outer here (mode.Equals t a.name) 61 class.EqualsSign (a.right ++ rest) equals_kind
    ∙ white outer here (mode.Quote t a.name) refl (λ b. refl) a.right rest r

pub pair_runs : (outer : List Level) (here : Level) (t : Tag) (spaced : Bool) (a : Pair) (rest : List ℕ) → length t.attributes < 32
    → IsPair t.attributes a
    → steps (in_tag outer here t spaced) (written_pair a rest) ≡ steps (in_tag outer here (with_attribute t (attribute a)) false) rest
pair_runs outer here t spaced a rest l p =
    gap_runs outer here t spaced a.gap (written_name a.name (a.left ++ 61 ∷ (a.right ++ written_quoted a.quote a.value rest))) p.0
    ∙ attribute_named outer here t l a.name (a.left ++ 61 ∷ (a.right ++ written_quoted a.quote a.value rest)) p.1
    ∙ name_ends outer here t a.name.prefix a.name.local a.left (a.right ++ written_quoted a.quote a.value rest) p.1.1
    (not_written a.name t.attributes p.2) p.3
    ∙ equals_runs outer here t a (written_quoted a.quote a.value rest) p.3 p.4 ∙ quoted_runs outer here t a rest p.5 p.6

abbrev pub with_pairs : Tag → List Pair → Tag
with_pairs t pairs = record { name = t.name; attributes = t.attributes ++ map attribute pairs }

abbrev pub TagRuns : List Level → Level → Tag → Bool → List ℕ → Tag → List ℕ → Type 0
TagRuns outer here t spaced bs to rest = (s : Bool) × (steps (in_tag outer here t spaced) bs ≡ steps (in_tag outer here to s) rest)

pairs_run : (outer : List Level) (here : Level) (t : Tag) (spaced : Bool) (pairs : List Pair) (rest : List ℕ)
    → length t.attributes + length pairs ≤ 32 → ArePairs t.attributes pairs
    → TagRuns outer here t spaced (written_pairs pairs rest) (with_pairs t pairs) rest
pairs_run outer here t spaced [] rest l p =
    (spaced, ap (λ xs. steps (in_tag outer here (record { name = t.name; attributes = xs }) spaced) rest) (sym (append-nil t.attributes)))
pairs_run outer here t spaced (a ∷ more) rest l p = after (pairs_run outer here (with_attribute t (attribute a)) false more rest longer p.1)
  where
    longer : length (t.attributes ++ attribute a ∷ []) + length more ≤ 32
    longer = rw (length-append t.attributes (attribute a ∷ [])) (omega (arith, l))

    after : TagRuns outer here (with_attribute t (attribute a)) false (written_pairs more rest)
        (with_pairs (with_attribute t (attribute a)) more) rest
        → TagRuns outer here t spaced (written_pairs (a ∷ more) rest) (with_pairs t (a ∷ more)) rest
    after r = (
      r.0,
      pair_runs outer here t spaced a (written_pairs more rest) (omega (arith, l)) p.0 ∙ r.1
          ∙ ap (λ xs. steps (in_tag outer here (record { name = t.name; attributes = xs }) r.0) rest)
          (append_assoc t.attributes (attribute a ∷ []) (map attribute more)),
    )

pub space_runs : (outer : List Level) (here : Level) (t : Tag) (spaced : Bool) (ws rest : List ℕ) → IsWhite ws
    → TagRuns outer here t spaced (ws ++ rest) t rest
space_runs outer here t spaced [] rest w = (spaced, refl)
space_runs outer here t spaced (b ∷ ws) rest w = (true, gap_runs outer here t spaced (b ∷ ws) rest (tt, w))

-- ---- start tags

-- a byte that may stand behind a tag's name
abbrev pub Breaks : Class → Type 0
Breaks class.Space = Unit {0}
Breaks class.Slash = Unit {0}
Breaks class.Greater = Unit {0}
Breaks _ = ⊥

abbrev pub IsBreak : List ℕ → Type 0
IsBreak [] = ⊥
IsBreak (b ∷ bs) = Breaks (class_of b)

space_breaks : (b : ℕ) → is_space b ≡ true → Breaks (class_of b)
space_breaks b e = subst Breaks (sym (space_kind b e)) tt

pub white_break : (ws rest : List ℕ) → IsWhite ws → IsBreak rest → IsBreak (ws ++ rest)
white_break [] rest w b = b
white_break (x ∷ xs) rest w b = space_breaks x w.0

gap_break : (ws rest : List ℕ) → IsGap ws → IsBreak (ws ++ rest)
gap_break [] rest g = absurd g.0
gap_break (x ∷ xs) rest g = space_breaks x g.1.0

pub pairs_break : (before : List RawAttribute) (pairs : List Pair) (rest : List ℕ) → ArePairs before pairs → IsBreak rest
    → IsBreak (written_pairs pairs rest)
pairs_break before [] rest p b = b
pairs_break before (a ∷ more) rest p b = gap_break a.gap
    (written_name a.name (a.left ++ 61 ∷ (a.right ++ written_quoted a.quote a.value (written_pairs more rest)))) p.0.0

abbrev pub bare : List ℕ → List ℕ → Tag
bare prefix local = record { name = raw prefix local; attributes = [] }

name_over : (outer : List Level) (here : Level) (prefix : List ℕ) (x : ℕ) (xs : List ℕ) (b : ℕ) (bs : List ℕ) (k : Class)
    → class_of b ≡ k → Breaks k
    → steps (At outer here (mode.TagName (raw prefix (x ∷ xs)))) (b ∷ bs) ≡ steps (in_tag outer here (bare prefix (x ∷ xs)) false) (b ∷ bs)
name_over outer here prefix x xs b bs class.Space e k = go outer here (mode.TagName (raw prefix (x ∷ xs))) b class.Space bs e
    ∙ sym (go outer here (mode.InTag (bare prefix (x ∷ xs)) false) b class.Space bs e)
name_over outer here prefix x xs b bs class.Slash e k = go outer here (mode.TagName (raw prefix (x ∷ xs))) b class.Slash bs e
    ∙ sym (go outer here (mode.InTag (bare prefix (x ∷ xs)) false) b class.Slash bs e)
name_over outer here prefix x xs b bs class.Greater e k = go outer here (mode.TagName (raw prefix (x ∷ xs))) b class.Greater bs e
    ∙ sym (go outer here (mode.InTag (bare prefix (x ∷ xs)) false) b class.Greater bs e)
name_over outer here prefix x xs b bs _ e k = absurd k

pub tag_named : (outer : List Level) (here : Level) (prefix local bs : List ℕ) → IsPlainName local → IsBreak bs
    → steps (At outer here (mode.TagName (raw prefix local))) bs ≡ steps (in_tag outer here (bare prefix local) false) bs
tag_named outer here prefix [] bs n b = absurd n
tag_named outer here prefix (x ∷ xs) [] n b = absurd b
tag_named outer here prefix (x ∷ xs) (c ∷ bs) n b = name_over outer here prefix x xs c bs (class_of c) refl b

-- a start tag from its name on
pub tag_runs : (outer : List Level) (here : Level) (from : State) (s : Start) (rest : List ℕ)
    → ((b : ℕ) → is_first_letter b ≡ true → state_after from b ≡ At outer here (mode.TagName (one_letter b)))
    → IsStart s → length s.pairs ≤ 32 → IsBreak rest
    → (spaced : Bool) × (steps from (written_tag s rest) ≡ steps (in_tag outer here (tag s) spaced) rest)
tag_runs outer here from s rest first t l b =
    by (pairs_run outer here (bare s.name.prefix s.name.local) false s.pairs (s.space ++ rest) (omega (arith, l)) t.1)
  where
    at_pairs : steps from (written_tag s rest) ≡ steps (in_tag outer here (bare s.name.prefix s.name.local) false)
        (written_pairs s.pairs (s.space ++ rest))
    at_pairs = name_runs outer here mode.TagName
        (λ m next b e. by_kind outer here (mode.TagName m) b (class_of b) refl ∙ ap (λ g. tag_name_by outer here b (class_of b) g) e)
        from first s.name (written_pairs s.pairs (s.space ++ rest)) t.0
        ∙ tag_named outer here s.name.prefix s.name.local (written_pairs s.pairs (s.space ++ rest)) t.0.1
        (pairs_break [] s.pairs (s.space ++ rest) t.1 (white_break s.space rest t.2 b))

    end : (sp : Bool) → TagRuns outer here (tag s) sp (s.space ++ rest) (tag s) rest
    end sp = space_runs outer here (tag s) sp s.space rest t.2

    by : TagRuns outer here (bare s.name.prefix s.name.local) false (written_pairs s.pairs (s.space ++ rest)) (tag s) (s.space ++ rest)
        → (spaced : Bool) × (steps from (written_tag s rest) ≡ steps (in_tag outer here (tag s) spaced) rest)
    by r = ((end r.0).0, at_pairs ∙ r.1 ∙ (end r.0).1)
