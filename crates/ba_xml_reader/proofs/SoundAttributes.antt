-- One byte backward in the states inside a start tag.
use Rattle.std.proofs.Common.{◌≡◌, ℕ, ◌+◌, ◌<◌, ◌≤◌, Bool, true, false, cond, ◌||◌, ◌&&◌, ◌==◌, nat_lt, Option, Some, None, List, [], ◌∷◌}
use Rattle.std.proofs.Common.{◌++◌, length, bytes_eq, refl, sym, ap, ap₂, subst, ◌∙◌, arith, true≢false, length-append, eq-eqb, inl, inr}
use Rattle.std.proofs.lemmas.Bool.{ltb-true, eqb-true}
use Rattle.ba_tree.specs.declared.trees.Tree.{Tree}
use Rattle.ba_xml_reader.proofs.SoundElements.{Closes, BehindTagName}
use Rattle.ba_xml_reader.proofs.SoundKinds.{IsMark, mark_of_kind, differs, character_kind, rank}
use Rattle.ba_xml_reader.proofs.SoundLeads.{Leads, Goes}
use Rattle.ba_xml_reader.proofs.SoundNames.{Grows, grows, LeadsName, name_more, name_whole}
use Rattle.ba_xml_reader.proofs.SoundTags.{LeadsValue, LeadsEquals, BehindName, value_ends, value_more, value_refers, quote_begins}
use Rattle.ba_xml_reader.proofs.SoundTags.{quote_space, equals_ends, equals_space, tag_space, tag_ends, tag_attribute}
use Rattle.ba_xml_reader.proofs.CompletePieces.{less_kind}
use Rattle.ba_xml_reader.proofs.CompleteReferences.{refers}
use Rattle.ba_xml_reader.proofs.CompleteSteps.{space_kind}
use Rattle.ba_xml_words.specs.Classes.{class_of, mark_of, is_space}
use Rattle.ba_xml_words.specs.inside.Names.{spelled, same_name, is_written, grown}
use Rattle.ba_xml_names.specs.Namespaces.{opening, scope}
use Rattle.ba_xml_words.specs.inside.References.{referred}
use Rattle.ba_xml_names.specs.inside.Tags.{with_attribute}
use Rattle.ba_xml_reader.specs.inside.Tags.{slashed_at, opened_at, begun_attribute, in_tag_after, tag_name_by, tag_name_after, equals_after}
use Rattle.ba_xml_reader.specs.inside.Tags.{name_ended, attribute_name_by, attribute_name_after, quote_after, value_by, value_after}
use Rattle.ba_xml_reader.specs.inside.Tags.{value_reference_by, value_reference_after}
use Rattle.ba_xml_grammar.specs.Grammar.{IsNew}
use Rattle.ba_xml_words.specs.declared.classes.Class.{Class}
use Rattle.ba_xml_words.specs.declared.classes.Class.TheVariants as class
use Rattle.ba_xml_names.specs.declared.levels.Level.{Level}
use Rattle.ba_xml_names.specs.declared.levels.Opening.{Opening}
use Rattle.ba_xml_words.specs.declared.names.RawName.{RawName}
use Rattle.ba_xml_words.specs.declared.names.RawAttribute.{RawAttribute}
use Rattle.ba_xml_words.specs.declared.names.Naming.{Naming}
use Rattle.ba_xml_words.specs.declared.names.Naming.TheVariants as naming
use Rattle.ba_xml_words.specs.declared.references.Partial.{Partial}
use Rattle.ba_xml_words.specs.declared.references.Referred.{Referred}
use Rattle.ba_xml_words.specs.declared.references.Referred.TheVariants as referred'
use Rattle.ba_xml_reader.specs.declared.states.Mode.TheVariants as mode
use Rattle.ba_xml_reader.specs.declared.states.State.TheVariants.{Refused, At}
use Rattle.ba_xml_words.specs.declared.faults.Reason.TheVariants.{Syntax, Attributes}
use Rattle.ba_xml_names.specs.declared.tags.Tag.{Tag}

ampersand_kind : class_of 38 ≡ class.Ampersand
unfolding class_of mark_of
ampersand_kind = refl

-- ---- in a tag

slash_back : (outer : List Level) (here : Level) (t : Tree) (g : Tag) (spaced : Bool) (bs : List ℕ) (o : Option Opening)
    → opening (scope (here ∷ outer)) g ≡ o → Goes (slashed_at outer here o) bs t → Leads outer here (mode.InTag g spaced) (47 ∷ bs) t
slash_back outer here t g spaced bs None e l = absurd l
slash_back outer here t g spaced bs (Some o) e l =
    λ n. tag_ends (Closes outer here t) g spaced (47 ∷ bs) n (inl (o, l.0, e, ap (λ x. 47 ∷ x) l.1, l.2))

greater_back : (outer : List Level) (here : Level) (t : Tree) (g : Tag) (spaced : Bool) (bs : List ℕ) (o : Option Opening)
    → opening (scope (here ∷ outer)) g ≡ o → Goes (opened_at outer here (spelled g.name) o) bs t
    → Leads outer here (mode.InTag g spaced) (62 ∷ bs) t
greater_back outer here t g spaced bs None e l = absurd l
greater_back outer here t g spaced bs (Some o) e l = λ n. tag_ends (Closes outer here t) g spaced (62 ∷ bs) n (inr (o, bs, e, refl, l))

letter_back : (outer : List Level) (here : Level) (t : Tree) (g : Tag) (spaced : Bool) (b : ℕ) (bs : List ℕ) → IsMark class.Letter b
    → Goes (begun_attribute outer here g spaced b) bs t → Leads outer here (mode.InTag g spaced) (b ∷ bs) t
letter_back outer here t g false b bs m l = absurd l
letter_back outer here t g true b bs m l = by (nat_lt (length g.attributes) 32) refl l
  where
    by : (q : Bool) → nat_lt (length g.attributes) 32 ≡ q
        → Goes (cond q (At outer here (mode.AttributeName g (record { prefix = []; local = b ∷ [] }))) (Refused Attributes)) bs t
        → Leads outer here (mode.InTag g true) (b ∷ bs) t
    by true q l = λ n. tag_attribute (Closes outer here t) g b bs (l (ltb-true (length g.attributes) 32 q) (tt, (m, tt)))
    by false q l = absurd l

pub in_tag_back : (outer : List Level) (here : Level) (t : Tree) (g : Tag) (spaced : Bool) (b : ℕ) (bs : List ℕ) (k : Class) → IsMark k b
    → Goes (in_tag_after outer here g spaced b k) bs t → Leads outer here (mode.InTag g spaced) (b ∷ bs) t
in_tag_back outer here t g spaced b bs class.Space m l = λ n. tag_space (Closes outer here t) g spaced b bs m (l n)
in_tag_back outer here t g spaced b bs class.Slash m l =
    subst (λ x. Leads outer here (mode.InTag g spaced) (x ∷ bs) t) (sym m)
    (slash_back outer here t g spaced bs (opening (scope (here ∷ outer)) g) refl l)
in_tag_back outer here t g spaced b bs class.Greater m l =
    subst (λ x. Leads outer here (mode.InTag g spaced) (x ∷ bs) t) (sym m)
    (greater_back outer here t g spaced bs (opening (scope (here ∷ outer)) g) refl l)
in_tag_back outer here t g spaced b bs class.Letter m l = letter_back outer here t g spaced b bs m l
in_tag_back outer here t g spaced b bs _ m l = absurd l

-- ---- names

tag_name_from : (outer : List Level) (here : Level) (t : Tree) (name : RawName) (b : ℕ) (bs : List ℕ) (k : Class) (n : Naming) → IsMark k b
    → Grows name b n → Goes (tag_name_by outer here b k n) bs t
    → LeadsName name (BehindTagName outer here t) (b ∷ bs)
tag_name_from outer here t name b bs k naming.Wrong m w l = absurd l
tag_name_from outer here t name b bs k (naming.On next) m w l = name_more name next (BehindTagName outer here t) b bs w.1 (l w.0)
tag_name_from outer here t name b bs k (naming.Whole full) m w l = name_whole name (BehindTagName outer here t) (b ∷ bs) w.1
    (subst (λ x. BehindTagName outer here t x (b ∷ bs)) w.0
    (in_tag_back outer here t (record { name = full; attributes = [] }) false b bs k m l none))
  where
    none : 0 ≤ 32
    none = omega arith

pub tag_name_back : (outer : List Level) (here : Level) (t : Tree) (name : RawName) (b : ℕ) (bs : List ℕ) (k : Class) → class_of b ≡ k
    → Goes (tag_name_after outer here name b k) bs t → Leads outer here (mode.TagName name) (b ∷ bs) t
tag_name_back outer here t name b bs k e l =
    λ p. tag_name_from outer here t name b bs k (grown name b k) (mark_of_kind b k e)
    (subst (λ c. Grows name b (grown name b c)) e (grows name b p)) l

pub equals_back : (outer : List Level) (here : Level) (t : Tree) (g : Tag) (name : RawName) (b : ℕ) (bs : List ℕ) (k : Class) → IsMark k b
    → Goes (equals_after outer here g name k) bs t → Leads outer here (mode.Equals g name) (b ∷ bs) t
equals_back outer here t g name b bs class.Space m l = λ n. equals_space (Closes outer here t) g name b bs m (l n)
equals_back outer here t g name b bs class.EqualsSign m l =
    λ n. subst (λ x. LeadsEquals (Closes outer here t) g name (x ∷ bs)) (sym m) (equals_ends (Closes outer here t) g name bs (l n))
equals_back outer here t g name b bs _ m l = absurd l

same_self : (bs : List ℕ) → bytes_eq bs bs ≡ true
same_self [] = refl
same_self (b ∷ bs) = ap₂ (λ x y. x && y) (eq-eqb b b refl) (same_self bs)

or_false : (x y : Bool) → (x || y) ≡ false → (x ≡ false) × (y ≡ false)
or_false true y e = absurd (true≢false e)
or_false false y e = (refl, e)

new_name : (name : RawName) (before : List RawAttribute) → is_written name before ≡ false → IsNew name before
new_name name [] w = tt
new_name name (a ∷ before) w = (
  (λ e. other
      (subst (λ x. same_name name x ≡ false) (sym e) (or_false (same_name name a.name) (is_written name before) w).0)),
  new_name name before (or_false (same_name name a.name) (is_written name before) w).1,
)
  where
    other : same_name name name ≡ false → ⊥
    other e = true≢false (sym (ap₂ (λ x y. x && y) (same_self name.prefix) (same_self name.local)) ∙ e)

attribute_ended : (outer : List Level) (here : Level) (t : Tree) (g : Tag) (name : RawName) (b : ℕ) (bs : List ℕ) (k : Class) → IsMark k b
    → length g.attributes < 32 → Goes (name_ended outer here g name k) bs t
    → BehindName (Closes outer here t) g name (b ∷ bs)
attribute_ended outer here t g name b bs k m n l = by (is_written name g.attributes) refl l
  where
    by : (q : Bool) → is_written name g.attributes ≡ q → Goes (cond q (Refused Syntax) (equals_after outer here g name k)) bs t
        → BehindName (Closes outer here t) g name (b ∷ bs)
    by true q l = absurd l
    by false q l = (new_name name g.attributes q, equals_back outer here t g name b bs k m l n)

attribute_name_from : (outer : List Level) (here : Level) (t : Tree) (g : Tag) (name : RawName) (b : ℕ) (bs : List ℕ) (k : Class)
    (n : Naming) → IsMark k b → Grows name b n → length g.attributes < 32
    → Goes (attribute_name_by outer here g k n) bs t → LeadsName name (BehindName (Closes outer here t) g) (b ∷ bs)
attribute_name_from outer here t g name b bs k naming.Wrong m w r l = absurd l
attribute_name_from outer here t g name b bs k (naming.On next) m w r l =
    name_more name next (BehindName (Closes outer here t) g) b bs w.1 (l r w.0)
attribute_name_from outer here t g name b bs k (naming.Whole full) m w r l =
    name_whole name (BehindName (Closes outer here t) g) (b ∷ bs) w.1
    (subst (λ x. BehindName (Closes outer here t) g x (b ∷ bs)) w.0 (attribute_ended outer here t g full b bs k m r l))

pub attribute_name_back : (outer : List Level) (here : Level) (t : Tree) (g : Tag) (name : RawName) (b : ℕ) (bs : List ℕ) (k : Class)
    → class_of b ≡ k → Goes (attribute_name_after outer here g name b k) bs t
    → Leads outer here (mode.AttributeName g name) (b ∷ bs) t
attribute_name_back outer here t g name b bs k e l =
    λ r p. attribute_name_from outer here t g name b bs k (grown name b k) (mark_of_kind b k e)
    (subst (λ c. Grows name b (grown name b c)) e (grows name b p)) r l

-- ---- values

pub quote_back : (outer : List Level) (here : Level) (t : Tree) (g : Tag) (name : RawName) (b : ℕ) (bs : List ℕ) (k : Class) → IsMark k b
    → Goes (quote_after outer here g name b k) bs t → Leads outer here (mode.Quote g name) (b ∷ bs) t
quote_back outer here t g name b bs class.Space m l = λ n. quote_space (Closes outer here t) g name b bs m (l n)
quote_back outer here t g name b bs class.Apostrophe m l = λ n. quote_begins (Closes outer here t) g name b bs (inr m) (l n)
quote_back outer here t g name b bs class.DoubleQuote m l = λ n. quote_begins (Closes outer here t) g name b bs (inl m) (l n)
quote_back outer here t g name b bs _ m l = absurd l

no_space : (b : ℕ) (k : Class) → class_of b ≡ k → (rank k == 0) ≡ false → is_space b ≡ false
no_space b k e n = by (is_space b) refl
  where
    by : (q : Bool) → is_space b ≡ q → q ≡ false
    by true q = absurd (true≢false (sym (eq-eqb (rank k) 0 (ap rank (sym e ∙ space_kind b q))) ∙ n))
    by false q = refl

one_more : (attributes : List RawAttribute) (a : RawAttribute) → length attributes < 32 → length (attributes ++ a ∷ []) ≤ 32
one_more attributes a l = subst (λ n. n ≤ 32) (sym (length-append attributes (a ∷ []))) by
  where
    by : length attributes + 1 ≤ 32
    by = omega (arith, l)

value_from : (outer : List Level) (here : Level) (t : Tree) (g : Tag) (a : RawAttribute) (quote b : ℕ) (bs : List ℕ) (k : Class)
    → class_of b ≡ k → IsMark k b → (b == quote) ≡ false → Goes (value_by outer here g a quote b k) bs t
    → Leads outer here (mode.Value g a quote) (b ∷ bs) t
value_from outer here t g a quote b bs class.Less e m d l = absurd l
value_from outer here t g a quote b bs class.Control e m d l = absurd l
value_from outer here t g a quote b bs class.Ampersand e m d l =
    λ n. subst (λ x. LeadsValue (Closes outer here t) g a quote (x ∷ bs)) (sym m) (value_refers (Closes outer here t) g a quote bs (l n))
value_from outer here t g a quote b bs class.Space e m d l =
    λ n. value_more (Closes outer here t) g a quote b bs (character_kind b class.Space e tt)
    (differs b 60 class.Space class.Less e less_kind refl)
    (differs b 38 class.Space class.Ampersand e ampersand_kind refl) d
    (subst (λ c. LeadsValue (Closes outer here t) g (record { name = a.name; value = a.value ++ c ∷ [] }) quote bs)
    (sym (ap (λ q. cond q 32 b) m)) (l n))
value_from outer here t g a quote b bs k e m d l =
    λ n. value_more (Closes outer here t) g a quote b bs (character_kind b k e tt) (differs b 60 k class.Less e less_kind refl)
    (differs b 38 k class.Ampersand e ampersand_kind refl) d
    (subst (λ c. LeadsValue (Closes outer here t) g (record { name = a.name; value = a.value ++ c ∷ [] }) quote bs)
    (sym (ap (λ q. cond q 32 b) (no_space b k e refl))) (l n))

pub value_back : (outer : List Level) (here : Level) (t : Tree) (g : Tag) (a : RawAttribute) (quote b : ℕ) (bs : List ℕ) (k : Class)
    → class_of b ≡ k → Goes (value_after outer here g a quote b k) bs t → Leads outer here (mode.Value g a quote) (b ∷ bs) t
value_back outer here t g a quote b bs k e l = by (b == quote) refl l
  where
    by : (q : Bool) → (b == quote) ≡ q → Goes
        (cond q (At outer here (mode.InTag (with_attribute g a) false)) (value_by outer here g a quote b k)) bs t
        → Leads outer here (mode.Value g a quote) (b ∷ bs) t
    by true q l = λ n. subst (λ x. LeadsValue (Closes outer here t) g a quote (x ∷ bs)) (sym (eqb-true b quote q))
        (value_ends (Closes outer here t) g a quote bs (l (one_more g.attributes a n)))
    by false q l = value_from outer here t g a quote b bs k e (mark_of_kind b k e) q l

value_reference_from : (outer : List Level) (here : Level) (t : Tree) (g : Tag) (a : RawAttribute) (quote : ℕ) (partial : Partial) (b : ℕ)
    (bs : List ℕ) (r : Referred) → referred partial b ≡ r
    → Goes (value_reference_by outer here g a quote r) bs t → Leads outer here (mode.ValueReference g a quote partial) (b ∷ bs) t
value_reference_from outer here t g a quote partial b bs referred'.Wrong e l = absurd l
value_reference_from outer here t g a quote partial b bs (referred'.On more) e l =
    λ n. (b ∷ (l n).0, (l n).1, (l n).2, ap (λ r. refers r (l n).0) e ∙ (l n).3, ap (λ x. b ∷ x) (l n).4, (l n).5)
value_reference_from outer here t g a quote partial b bs (referred'.Meant c) e l = λ n. (b ∷ [], bs, c, ap (λ r. refers r []) e, refl, l n)

pub value_reference_back : (outer : List Level) (here : Level) (t : Tree) (g : Tag) (a : RawAttribute) (quote : ℕ) (partial : Partial)
    (b : ℕ) (bs : List ℕ) → Goes (value_reference_after outer here g a quote partial b) bs t
    → Leads outer here (mode.ValueReference g a quote partial) (b ∷ bs) t
value_reference_back outer here t g a quote partial b bs l =
    value_reference_from outer here t g a quote partial b bs (referred partial b) refl l
