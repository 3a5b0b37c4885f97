-- One byte backward in the states inside a start tag.
use Rattle.std.proofs.Common.{◌≡◌, ℕ, Bool, true, false, cond, ◌&&◌, ◌==◌, nat_lt, Option, Some, None, List, [], ◌∷◌, length}
use Rattle.std.proofs.Common.{bytes_eq, refl, sym, ap, ap₂, subst, ◌∙◌, true≢false, eq-eqb, inl, inr}
use Rattle.std.proofs.lemmas.Bool.{eqb-true, or_parts}
use Rattle.ba_xml_places.proofs.Elements.{Closes, BehindTagName}
use Rattle.ba_xml_places.proofs.Leads.{Leads, Goes}
use Rattle.ba_xml_places.proofs.Pieces.{ampersand_kind}
use Rattle.ba_xml_places.proofs.Tags.{BehindName, value_ends, value_more, value_refers, quote_begins, quote_space, equals_ends}
use Rattle.ba_xml_places.proofs.Tags.{equals_space}
use Rattle.ba_xml_places.proofs.Tags.{tag_space, tag_ends, tag_attribute}
use Rattle.ba_xml_reader.proofs.SoundKinds.{IsMark, mark_of_kind, differs, character_kind, rank}
use Rattle.ba_xml_reader.proofs.SoundNames.{IsPart, Grows, grows, LeadsName, name_more, name_whole}
use Rattle.ba_xml_reader.proofs.CompletePieces.{less_kind}
use Rattle.ba_xml_reader.proofs.CompleteReferences.{refers}
use Rattle.ba_xml_reader.proofs.CompleteSteps.{space_kind}
use Rattle.ba_xml_words.specs.Classes.{class_of, is_space}
use Rattle.ba_xml_words.specs.inside.Names.{spelled, same_name, is_written, grown, one_letter}
use Rattle.ba_xml_words.specs.inside.References.{referred}
use Rattle.ba_xml_names.specs.Namespaces.{opening, scope}
use Rattle.ba_xml_names.specs.inside.Tags.{with_attribute, with_value}
use Rattle.ba_xml_reader.specs.inside.Tags.{slashed_at, opened_at, begun_attribute, in_tag_after, tag_name_by, tag_name_after, equals_after}
use Rattle.ba_xml_reader.specs.inside.Tags.{name_ended, attribute_name_by, attribute_name_after, quote_after, value_by, value_after}
use Rattle.ba_xml_reader.specs.inside.Tags.{value_reference_by, value_reference_after, slashed_after}
use Rattle.ba_xml_grammar.specs.Grammar.{IsNew}
use Rattle.ba_tree.specs.declared.trees.Content.TheVariants.{Child}
use Rattle.ba_xml_names.specs.inside.Levels.{settled, empty_tree}
use Rattle.ba_xml_places.proofs.Pieces.{element_behind}
use Rattle.ba_xml_words.specs.declared.classes.Class.{Class}
use Rattle.ba_xml_words.specs.declared.classes.Class.TheVariants as class
use Rattle.ba_xml_names.specs.declared.levels.Level.{Level}
use Rattle.ba_xml_names.specs.declared.levels.Opening.{Opening}
use Rattle.ba_xml_words.specs.declared.names.RawName.{RawName}
use Rattle.ba_xml_words.specs.declared.names.RawAttribute.{RawAttribute}
use Rattle.ba_xml_words.specs.declared.names.Naming.{Naming}
use Rattle.ba_xml_words.specs.declared.names.Naming.TheVariants as naming
use Rattle.ba_xml_words.specs.declared.references.Partial.{Partial}
use Rattle.ba_xml_words.specs.declared.references.Referred.{Referred}
use Rattle.ba_xml_words.specs.declared.references.Referred.TheVariants as referred'
use Rattle.ba_xml_reader.specs.declared.states.Mode.TheVariants as mode
use Rattle.ba_xml_reader.specs.declared.states.State.TheVariants.{Refused, At}
use Rattle.ba_xml_words.specs.declared.faults.Reason.TheVariants.{Syntax, Attributes}
use Rattle.ba_xml_names.specs.declared.tags.Tag.{Tag}

-- ---- in a tag

slash_back : (outer : List Level) (here : Level) (t : Tag) (spaced : Bool) (bs : List ℕ) (o : Option Opening)
    → Goes (slashed_at outer here o) bs
    → Leads outer here (mode.InTag t spaced) (47 ∷ bs)
slash_back outer here t spaced bs None l = absurd l
slash_back outer here t spaced bs (Some o) l = tag_ends (Closes outer here) t spaced (47 ∷ bs) (inl (l.0, ap (λ x. 47 ∷ x) l.1, l.2))

greater_back : (outer : List Level) (here : Level) (t : Tag) (spaced : Bool) (bs : List ℕ) (o : Option Opening)
    → Goes (opened_at outer here (spelled t.name) o) bs → Leads outer here (mode.InTag t spaced) (62 ∷ bs)
greater_back outer here t spaced bs None l = absurd l
greater_back outer here t spaced bs (Some o) l = tag_ends (Closes outer here) t spaced (62 ∷ bs) (inr (bs, refl, l))

letter_back : (outer : List Level) (here : Level) (t : Tag) (spaced : Bool) (b : ℕ) (bs : List ℕ)
    → Goes (begun_attribute outer here t spaced b) bs
    → Leads outer here (mode.InTag t spaced) (b ∷ bs)
letter_back outer here t false b bs l = absurd l
letter_back outer here t true b bs l = by (nat_lt (length t.attributes) 32) l
  where
    by : (q : Bool) → Goes (cond q (At outer here (mode.AttributeName t (one_letter b))) (Refused Attributes)) bs
        → Leads outer here (mode.InTag t true) (b ∷ bs)
    by true l = tag_attribute (Closes outer here) t b bs l
    by false l = absurd l

pub in_tag_back : (outer : List Level) (here : Level) (t : Tag) (spaced : Bool) (b : ℕ) (bs : List ℕ) (k : Class) → IsMark k b
    → Goes (in_tag_after outer here t spaced b k) bs → Leads outer here (mode.InTag t spaced) (b ∷ bs)
in_tag_back outer here t spaced b bs class.Space m l = tag_space (Closes outer here) t spaced b bs m l
in_tag_back outer here t spaced b bs class.Slash m l = subst (λ x. Leads outer here (mode.InTag t spaced) (x ∷ bs)) (sym m)
    (slash_back outer here t spaced bs (opening (scope (here ∷ outer)) t) l)
in_tag_back outer here t spaced b bs class.Greater m l = subst (λ x. Leads outer here (mode.InTag t spaced) (x ∷ bs)) (sym m)
    (greater_back outer here t spaced bs (opening (scope (here ∷ outer)) t) l)
in_tag_back outer here t spaced b bs class.Letter m l = letter_back outer here t spaced b bs l
in_tag_back outer here t spaced b bs _ m l = absurd l

pub slashed_back : (outer : List Level) (here : Level) (o : Opening) (b : ℕ) (bs : List ℕ) (k : Class) → IsMark k b
    → Goes (slashed_after outer here o k) bs → Leads outer here (mode.Slashed o) (b ∷ bs)
slashed_back outer here o b bs class.Greater m g =
    (bs, ap (λ x. x ∷ bs) m, element_behind outer (settled here).content (Child (empty_tree o)) here.spelled bs g)
slashed_back outer here o b bs _ m g = absurd g

-- ---- names

tag_name_from : (outer : List Level) (here : Level) (name : RawName) (b : ℕ) (bs : List ℕ) (k : Class) (n : Naming) → IsMark k b
    → Grows name b n
    → Goes (tag_name_by outer here b k n) bs → LeadsName name (BehindTagName outer here) (b ∷ bs)
tag_name_from outer here name b bs k naming.Wrong m w l = absurd l
tag_name_from outer here name b bs k (naming.On next) m w l = name_more name next (BehindTagName outer here) b bs w.1 l
tag_name_from outer here name b bs k (naming.Whole full) m w l = name_whole name (BehindTagName outer here) (b ∷ bs) w.1
    (subst (λ x. BehindTagName outer here x (b ∷ bs)) w.0 (in_tag_back outer here
    (record { name = full; attributes = [] }) false b bs k m l))

pub tag_name_back : (outer : List Level) (here : Level) (name : RawName) (b : ℕ) (bs : List ℕ) (k : Class) → class_of b ≡ k → IsPart name
    → Goes (tag_name_after outer here name b k) bs → Leads outer here (mode.TagName name) (b ∷ bs)
tag_name_back outer here name b bs k e p l = tag_name_from outer here name b bs k (grown name b k) (mark_of_kind b k e)
    (subst (λ c. Grows name b (grown name b c)) e (grows name b p)) l

pub equals_back : (outer : List Level) (here : Level) (t : Tag) (name : RawName) (b : ℕ) (bs : List ℕ) (k : Class) → IsMark k b
    → Goes (equals_after outer here t name k) bs → Leads outer here (mode.Equals t name) (b ∷ bs)
equals_back outer here t name b bs class.Space m l = equals_space (Closes outer here) t name b bs m l
equals_back outer here t name b bs class.EqualsSign m l =
    subst (λ x. Leads outer here (mode.Equals t name) (x ∷ bs)) (sym m) (equals_ends (Closes outer here) t name bs l)
equals_back outer here t name b bs _ m l = absurd l

same_self : (bs : List ℕ) → bytes_eq bs bs ≡ true
same_self [] = refl
same_self (b ∷ bs) = ap₂ (λ x y. x && y) (eq-eqb b b refl) (same_self bs)

new_name : (name : RawName) (before : List RawAttribute) → is_written name before ≡ false → IsNew name before
new_name name [] w = tt
new_name name (a ∷ before) w = (
  (λ e. other (subst (λ x. same_name name x ≡ false) (sym e) (or_parts (same_name name a.name) (is_written name before) w).0)),
  new_name name before (or_parts (same_name name a.name) (is_written name before) w).1,
)
  where
    other : same_name name name ≡ false → ⊥
    other e = true≢false (sym (ap₂ (λ x y. x && y) (same_self name.prefix) (same_self name.local)) ∙ e)

attribute_ended : (outer : List Level) (here : Level) (t : Tag) (name : RawName) (b : ℕ) (bs : List ℕ) (k : Class) → IsMark k b
    → Goes (name_ended outer here t name k) bs → BehindName (Closes outer here) t name (b ∷ bs)
attribute_ended outer here t name b bs k m l = by (is_written name t.attributes) refl l
  where
    by : (q : Bool) → is_written name t.attributes ≡ q → Goes (cond q (Refused Syntax) (equals_after outer here t name k)) bs
        → BehindName (Closes outer here) t name (b ∷ bs)
    by true q l = absurd l
    by false q l = (new_name name t.attributes q, equals_back outer here t name b bs k m l)

attribute_name_from : (outer : List Level) (here : Level) (t : Tag) (name : RawName) (b : ℕ) (bs : List ℕ) (k : Class) (n : Naming)
    → IsMark k b
    → Grows name b n → Goes (attribute_name_by outer here t k n) bs → LeadsName name (BehindName (Closes outer here) t) (b ∷ bs)
attribute_name_from outer here t name b bs k naming.Wrong m w l = absurd l
attribute_name_from outer here t name b bs k (naming.On next) m w l = name_more name next (BehindName (Closes outer here) t) b bs w.1 l
attribute_name_from outer here t name b bs k (naming.Whole full) m w l = name_whole name (BehindName (Closes outer here) t) (b ∷ bs) w.1
    (subst (λ x. BehindName (Closes outer here) t x (b ∷ bs)) w.0 (attribute_ended outer here t full b bs k m l))

pub attribute_name_back : (outer : List Level) (here : Level) (t : Tag) (name : RawName) (b : ℕ) (bs : List ℕ) (k : Class) → class_of b ≡ k
    → IsPart name → Goes (attribute_name_after outer here t name b k) bs → Leads outer here (mode.AttributeName t name) (b ∷ bs)
attribute_name_back outer here t name b bs k e p l = attribute_name_from outer here t name b bs k (grown name b k) (mark_of_kind b k e)
    (subst (λ c. Grows name b (grown name b c)) e (grows name b p)) l

-- ---- values

pub quote_back : (outer : List Level) (here : Level) (t : Tag) (name : RawName) (b : ℕ) (bs : List ℕ) (k : Class) → IsMark k b
    → Goes (quote_after outer here t name b k) bs → Leads outer here (mode.Quote t name) (b ∷ bs)
quote_back outer here t name b bs class.Space m l = quote_space (Closes outer here) t name b bs m l
quote_back outer here t name b bs class.Apostrophe m l = quote_begins (Closes outer here) t name b bs (inr m) l
quote_back outer here t name b bs class.DoubleQuote m l = quote_begins (Closes outer here) t name b bs (inl m) l
quote_back outer here t name b bs _ m l = absurd l

no_space : (b : ℕ) (k : Class) → class_of b ≡ k → (rank k == 0) ≡ false → is_space b ≡ false
no_space b k e n = by (is_space b) refl
  where
    by : (q : Bool) → is_space b ≡ q → q ≡ false
    by true q = absurd (true≢false (sym (eq-eqb (rank k) 0 (ap rank (sym e ∙ space_kind b q))) ∙ n))
    by false q = refl

value_from : (outer : List Level) (here : Level) (t : Tag) (a : RawAttribute) (quote b : ℕ) (bs : List ℕ) (k : Class) → class_of b ≡ k
    → IsMark k b → (b == quote) ≡ false → Goes (value_by outer here t a quote b k) bs → Leads outer here (mode.Value t a quote) (b ∷ bs)
value_from outer here t a quote b bs class.Less e m d l = absurd l
value_from outer here t a quote b bs class.Control e m d l = absurd l
value_from outer here t a quote b bs class.Ampersand e m d l =
    subst (λ x. Leads outer here (mode.Value t a quote) (x ∷ bs)) (sym m) (value_refers (Closes outer here) t a quote bs l)
value_from outer here t a quote b bs class.Space e m d l =
    value_more (Closes outer here) t a quote b bs (character_kind b class.Space e tt) (differs b 60 class.Space class.Less e less_kind refl)
    (differs b 38 class.Space class.Ampersand e ampersand_kind refl) d
    (subst (λ c. Leads outer here (mode.Value t (with_value a (c ∷ [])) quote) bs) (sym (ap (λ q. cond q 32 b) m)) l)
value_from outer here t a quote b bs k e m d l =
    value_more (Closes outer here) t a quote b bs (character_kind b k e tt) (differs b 60 k class.Less e less_kind refl)
    (differs b 38 k class.Ampersand e ampersand_kind refl) d
    (subst (λ c. Leads outer here (mode.Value t (with_value a (c ∷ [])) quote) bs) (sym (ap (λ q. cond q 32 b) (no_space b k e refl))) l)

pub value_back : (outer : List Level) (here : Level) (t : Tag) (a : RawAttribute) (quote b : ℕ) (bs : List ℕ) (k : Class) → class_of b ≡ k
    → Goes (value_after outer here t a quote b k) bs → Leads outer here (mode.Value t a quote) (b ∷ bs)
value_back outer here t a quote b bs k e l = by (b == quote) refl l
  where
    by : (q : Bool) → (b == quote) ≡ q
        → Goes (cond q (At outer here (mode.InTag (with_attribute t a) false)) (value_by outer here t a quote b k)) bs
        → Leads outer here (mode.Value t a quote) (b ∷ bs)
    by true q l = subst (λ x. Leads outer here (mode.Value t a quote) (x ∷ bs)) (sym (eqb-true b quote q))
        (value_ends (Closes outer here) t a quote bs l)
    by false q l = value_from outer here t a quote b bs k e (mark_of_kind b k e) q l

value_reference_from : (outer : List Level) (here : Level) (t : Tag) (a : RawAttribute) (quote : ℕ) (partial : Partial) (b : ℕ)
    (bs : List ℕ)
    (r : Referred) → referred partial b ≡ r → Goes (value_reference_by outer here t a quote r) bs
    → Leads outer here (mode.ValueReference t a quote partial) (b ∷ bs)
value_reference_from outer here t a quote partial b bs referred'.Wrong e l = absurd l
value_reference_from outer here t a quote partial b bs (referred'.On more) e l =
    (b ∷ l.0, l.1, l.2, ap (λ r. refers r l.0) e ∙ l.3, ap (λ x. b ∷ x) l.4, l.5)
value_reference_from outer here t a quote partial b bs (referred'.Meant c) e l = (b ∷ [], bs, c, ap (λ r. refers r []) e, refl, l)

pub value_reference_back : (outer : List Level) (here : Level) (t : Tag) (a : RawAttribute) (quote : ℕ) (partial : Partial) (b : ℕ)
    (bs : List ℕ)
    → Goes (value_reference_after outer here t a quote partial b) bs → Leads outer here (mode.ValueReference t a quote partial) (b ∷ bs)
value_reference_back outer here t a quote partial b bs l =
    value_reference_from outer here t a quote partial b bs (referred partial b) refl l
