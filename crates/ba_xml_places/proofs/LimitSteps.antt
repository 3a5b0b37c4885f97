-- Where the machine refuses a byte for what prefixes mean or for size, some bytes may follow it nonetheless.
use Rattle.std.proofs.Common.{◌≡◌, ℕ, Bool, true, false, cond, ◌==◌, List, [], ◌∷◌, codes, refl}
use Rattle.std.proofs.Common.{sym, ap, subst}
use Rattle.std.proofs.Common.{inl, inr}
use Rattle.ba_tree.specs.declared.trees.Content.{Content}
use Rattle.ba_xml_places.proofs.Closings.{closes}
use Rattle.ba_xml_places.proofs.Elements.{Closes, Stands, BehindTagName, tag_stands}
use Rattle.ba_xml_places.proofs.Ends.{ends, rest_ends, ends_plain}
use Rattle.ba_xml_places.proofs.Leads.{Leads, Goes}
use Rattle.ba_xml_places.proofs.Live.{is_plain, ArePlain, PlainAround, LiveMode, Live}
use Rattle.ba_xml_places.proofs.LiveSteps.{name_plain, first_plain}
use Rattle.ba_xml_places.proofs.Pieces.{Here}
use Rattle.ba_xml_places.proofs.Tags.{LeadsInTag, tag_ends, tag_attribute}
use Rattle.ba_xml_places.proofs.Viable.{IsGoing}
use Rattle.ba_xml_reader.proofs.CompleteFronts.{IsLimit}
use Rattle.ba_xml_reader.proofs.SoundKinds.{IsMark, mark_told}
use Rattle.ba_xml_reader.proofs.SoundNames.{Grows, grows, LeadsName, name_whole}
use Rattle.ba_xml_words.specs.Classes.{class_of, is_first_letter}
use Rattle.ba_xml_words.specs.inside.Headings.{heading_after}
use Rattle.ba_xml_words.specs.inside.Names.{spelled, is_written, grown, one_letter}
use Rattle.ba_xml_words.specs.inside.References.{referred}
use Rattle.ba_xml_words.specs.inside.Remaining.{met}
use Rattle.ba_xml_words.specs.inside.Words.{reached_at}
use Rattle.ba_xml_names.specs.inside.Levels.{place_of, place_outside}
use Rattle.ba_xml_names.specs.inside.Tags.{with_attribute}
use Rattle.ba_xml_reader.specs.inside.Content as content
use Rattle.ba_xml_reader.specs.inside.Tags as tags
use Rattle.ba_xml_reader.specs.inside.Machine.{act, state_after}
use Rattle.ba_xml_grammar.specs.Grammar.{no_head}
use Rattle.ba_xml_grammar.specs.GrammarWords.{IsName}
use Rattle.ba_xml_words.specs.declared.classes.Class.{Class}
use Rattle.ba_xml_words.specs.declared.classes.Class.TheVariants as class
use Rattle.ba_xml_words.specs.declared.faults.Reason.{Reason}
use Rattle.ba_xml_words.specs.declared.faults.Reason.TheVariants as reason
use Rattle.ba_xml_words.specs.declared.headings.Declared.{Declared}
use Rattle.ba_xml_words.specs.declared.headings.Declared.TheVariants as declared'
use Rattle.ba_xml_names.specs.declared.levels.Level.{Level}
use Rattle.ba_xml_names.specs.declared.levels.Opening.{Opening}
use Rattle.ba_xml_names.specs.declared.levels.Place.{Place}
use Rattle.ba_xml_names.specs.declared.levels.Place.TheVariants.{Before, Within, Behind}
use Rattle.ba_xml_words.specs.declared.names.Naming.{Naming}
use Rattle.ba_xml_words.specs.declared.names.Naming.TheVariants as naming
use Rattle.ba_xml_words.specs.declared.names.RawAttribute.{RawAttribute}
use Rattle.ba_xml_words.specs.declared.names.RawName.{RawName}
use Rattle.ba_xml_words.specs.declared.references.Referred.{Referred}
use Rattle.ba_xml_words.specs.declared.references.Referred.TheVariants as referred'
use Rattle.ba_xml_words.specs.declared.remaining.Meeting.TheVariants as meeting
use Rattle.ba_xml_words.specs.declared.words.Progress.{Progress}
use Rattle.ba_xml_words.specs.declared.words.Progress.TheVariants as progress
use Rattle.ba_xml_reader.specs.declared.states.Mode.{Mode}
use Rattle.ba_xml_reader.specs.declared.states.Mode.TheVariants as mode
use Rattle.ba_xml_reader.specs.declared.states.Seen.{Seen}
use Rattle.ba_xml_reader.specs.declared.states.Seen.TheVariants.{Zero, One, Two}
use Rattle.ba_xml_reader.specs.declared.states.State.{State}
use Rattle.ba_xml_reader.specs.declared.states.State.TheVariants.{Refused, At}
use Rattle.ba_xml_names.specs.declared.tags.Tag.{Tag}

-- where the state refuses, it does for what is written
abbrev IsOfText : State → Type 0
IsOfText (Refused reason.Syntax) = Unit {0}
IsOfText (Refused _) = ⊥
IsOfText (At outer here m) = Unit {0}

no_limit : (r : Reason) → IsLimit r → IsOfText (Refused r) → ⊥
no_limit reason.Syntax l t = l
no_limit reason.NotUtf8 l t = t
no_limit reason.Truncated l t = t
no_limit reason.Namespace l t = t
no_limit reason.Depth l t = t
no_limit reason.Size l t = t
no_limit reason.Attributes l t = t

never : (s : State) (r : Reason) → IsOfText s → s ≡ Refused r → IsLimit r → ⊥
never s r t e l = no_limit r l (subst (λ x. IsOfText x) e t)

-- ---- states that refuse for what is written alone

module _ (outer : List Level) (here : Level) (b : ℕ) where
  wanted_text : (n : ℕ) (m : Mode) → IsOfText (content.wanted_after outer here b n m)
  wanted_text n m = by (b == n)
    where
      by : (q : Bool) → IsOfText (cond q (At outer here m) (Refused reason.Syntax))
      by true = tt
      by false = tt

  begin_text : (k : Class) → IsOfText (content.begin_after outer here b k)
  begin_text class.Less = tt
  begin_text class.Space = tt
  begin_text class.High = wanted_text 0xEF mode.MarkOne
  begin_text _ = tt

  first_text : (k : Class) → IsOfText (content.first_after outer here k)
  first_text class.Less = tt
  first_text class.Space = tt
  first_text _ = tt

  declaring_text : (d : Declared) → IsOfText (content.declaring_by outer here d)
  declaring_text declared'.Wrong = tt
  declaring_text (declared'.On h) = tt
  declaring_text declared'.Whole = tt

  outside_text : (k : Class) → IsOfText (content.outside_after outer here k)
  outside_text class.Space = tt
  outside_text class.Less = tt
  outside_text _ = tt

  greater_text : (seen : Seen) → IsOfText (content.greater_after outer here seen b)
  greater_text Two = tt
  greater_text One = tt
  greater_text Zero = tt

  within_text : (seen : Seen) (k : Class) → IsOfText (content.within_after outer here seen b k)
  within_text seen class.Less = tt
  within_text seen class.Ampersand = tt
  within_text seen class.Control = tt
  within_text seen class.CloseBracket = tt
  within_text seen class.Greater = greater_text seen
  within_text seen _ = tt

  inside_text : (at : Place) (seen : Seen) (k : Class) → IsOfText (content.inside_at at outer here seen b k)
  inside_text Within seen k = within_text seen k
  inside_text Before seen k = outside_text k
  inside_text Behind seen k = outside_text k

  ending_text : (at : Place) → IsOfText (content.ending_at at outer here)
  ending_text Within = tt
  ending_text Before = tt
  ending_text Behind = tt

  section_at_text : (at : Place) → IsOfText (content.section_at at outer here)
  section_at_text Within = tt
  section_at_text Before = tt
  section_at_text Behind = tt

  exclaimed_text : (k : Class) → IsOfText (content.exclaimed_after outer here k)
  exclaimed_text class.Hyphen = tt
  exclaimed_text class.OpenBracket = section_at_text (place_of outer here)
  exclaimed_text _ = tt

  hyphened_text : (k : Class) → IsOfText (content.hyphened_after outer here k)
  hyphened_text class.Hyphen = tt
  hyphened_text _ = tt

  comment_more_text : (seen : Seen) (k : Class) → IsOfText (content.comment_more outer here seen k)
  comment_more_text seen class.Control = tt
  comment_more_text seen class.Hyphen = tt
  comment_more_text seen _ = tt

  comment_end_text : (k : Class) → IsOfText (content.comment_end outer here k)
  comment_end_text class.Greater = tt
  comment_end_text _ = tt

  comment_text : (seen : Seen) (k : Class) → IsOfText (content.comment_after outer here seen k)
  comment_text Zero k = comment_more_text One k
  comment_text One k = comment_more_text Two k
  comment_text Two k = comment_end_text k

  bracketed_text : (q : Progress) → IsOfText (content.bracketed_by outer here q)
  bracketed_text progress.Nowhere = tt
  bracketed_text (progress.Part more) = tt
  bracketed_text progress.Whole = tt

  held_text : (body : List ℕ) (seen : Seen) → IsOfText (content.bracket_held outer here body seen b)
  held_text body Zero = tt
  held_text body One = tt
  held_text body Two = tt

  section_end_text : (body : List ℕ) (seen : Seen) → IsOfText (content.section_end outer here body seen b)
  section_end_text body Zero = tt
  section_end_text body One = tt
  section_end_text body Two = tt

  section_text : (body : List ℕ) (seen : Seen) (k : Class) → IsOfText (content.section_after outer here body seen b k)
  section_text body seen class.Control = tt
  section_text body seen class.CloseBracket = held_text body seen
  section_text body seen class.Greater = section_end_text body seen
  section_text body seen _ = tt

  reference_text' : (r : Referred) → IsOfText (content.reference_by outer here r)
  reference_text' referred'.Wrong = tt
  reference_text' (referred'.On more) = tt
  reference_text' (referred'.Meant c) = tt

  equals_text : (t : Tag) (name : RawName) (k : Class) → IsOfText (tags.equals_after outer here t name k)
  equals_text t name class.Space = tt
  equals_text t name class.EqualsSign = tt
  equals_text t name _ = tt

  name_ended_text : (t : Tag) (name : RawName) (k : Class) → IsOfText (tags.name_ended outer here t name k)
  name_ended_text t name k = by (is_written name t.attributes)
    where
      by : (q : Bool) → IsOfText (cond q (Refused reason.Syntax) (tags.equals_after outer here t name k))
      by true = tt
      by false = equals_text t name k

  attribute_name_text : (t : Tag) (k : Class) (n : Naming) → IsOfText (tags.attribute_name_by outer here t k n)
  attribute_name_text t k naming.Wrong = tt
  attribute_name_text t k (naming.On next) = tt
  attribute_name_text t k (naming.Whole full) = name_ended_text t full k

  quote_text : (t : Tag) (name : RawName) (k : Class) → IsOfText (tags.quote_after outer here t name b k)
  quote_text t name class.Space = tt
  quote_text t name class.Apostrophe = tt
  quote_text t name class.DoubleQuote = tt
  quote_text t name _ = tt

  value_by_text : (t : Tag) (a : RawAttribute) (quote : ℕ) (k : Class) → IsOfText (tags.value_by outer here t a quote b k)
  value_by_text t a quote class.Less = tt
  value_by_text t a quote class.Control = tt
  value_by_text t a quote class.Ampersand = tt
  value_by_text t a quote class.Space = tt
  value_by_text t a quote _ = tt

  value_text : (t : Tag) (a : RawAttribute) (quote : ℕ) (k : Class) → IsOfText (tags.value_after outer here t a quote b k)
  value_text t a quote k = by (b == quote)
    where
      by : (end : Bool) → IsOfText (cond end (At outer here (mode.InTag (with_attribute t a) false))
          (tags.value_by outer here t a quote b k))
      by true = tt
      by false = value_by_text t a quote k

  value_reference_text : (t : Tag) (a : RawAttribute) (quote : ℕ) (r : Referred) → IsOfText (tags.value_reference_by outer here t a quote r)
  value_reference_text t a quote referred'.Wrong = tt
  value_reference_text t a quote (referred'.On more) = tt
  value_reference_text t a quote (referred'.Meant c) = tt

  slashed_text : (o : Opening) (k : Class) → IsOfText (tags.slashed_after outer here o k)
  slashed_text o class.Greater = tt
  slashed_text o _ = tt

  end_name_text : (name : List ℕ) → IsOfText (tags.end_name_by outer here (met name b))
  end_name_text [] = tt
  end_name_text (x ∷ []) = by (x == b)
    where
      by : (q : Bool) → IsOfText (tags.end_name_by outer here (cond q meeting.Whole meeting.Wrong))
      by true = tt
      by false = tt
  end_name_text (x ∷ y ∷ more) = by (x == b)
    where
      by : (q : Bool) → IsOfText (tags.end_name_by outer here (cond q (meeting.On (y ∷ more)) meeting.Wrong))
      by true = tt
      by false = tt

closed_text : (outer : List Level) (here : Level) → IsOfText (tags.closed outer here)
closed_text [] here = tt
closed_text (parent ∷ above) here = tt

end_space_text : (outer : List Level) (here : Level) (k : Class) → IsOfText (tags.end_space_after outer here k)
end_space_text outer here class.Space = tt
end_space_text outer here class.Greater = closed_text outer here
end_space_text outer here _ = tt

-- ---- where the name of a tag begins too deep

-- plain bytes behind this one, which is plain, so that this holds of them
abbrev Follows : ℕ → (List ℕ → Type 0) → Type 0
Follows b After = (cs : List ℕ) × ArePlain (b ∷ cs) × After cs

mark_plain : (b n : ℕ) → b ≡ n → is_plain n ≡ true → is_plain b ≡ true
mark_plain b n e p = subst (λ x. is_plain x ≡ true) (sym e) p

name_stands : (outer : List Level) (here : Level) (b last : ℕ) → PlainAround outer here → is_first_letter b ≡ true
    → Follows b (λ cs. Stands outer here (60 ∷ b ∷ cs))
name_stands outer here b last p m =
    let c = closes outer here (mode.TagName (one_letter b)) last p tt (tt, (m, tt)) in
    (c.0, (first_plain b m, c.1), tag_stands outer here b c.0 c.2)

root_limit : (inner : List Content) (here : Level) (b : ℕ) (r : Reason) → content.starting_at (place_outside inner) [] here b ≡ Refused r
    → IsLimit r → ⊥
root_limit [] here b r e l = never (content.starting_at Before [] here b) r tt e l
root_limit (c ∷ cs) here b r e l = never (content.starting_at Behind [] here b) r tt e l

starting_limit : (outer : List Level) (here : Level) (b last : ℕ) (r : Reason) → PlainAround outer here → is_first_letter b ≡ true
    → content.starting_at (place_of outer here) outer here b ≡ Refused r → IsLimit r
    → Follows b (λ cs. (seen : Seen) → Here outer here seen (60 ∷ b ∷ cs))
starting_limit [] here b last r p m e l = absurd (root_limit here.content here b r e l)
starting_limit (parent ∷ above) here b last r p m e l = name_stands (parent ∷ above) here b last p m

open_limit : (outer : List Level) (here : Level) (b last : ℕ) (r : Reason) (k : Class) → PlainAround outer here → IsMark k b
    → content.open_after outer here b k ≡ Refused r → IsLimit r → Follows b (λ cs. (seen : Seen) → Here outer here seen (60 ∷ b ∷ cs))
open_limit outer here b last r class.Exclamation p m e l = absurd (never (At outer here mode.Exclaimed) r tt e l)
open_limit outer here b last r class.Slash p m e l =
    absurd (never (content.ending_at (place_of outer here) outer here) r (ending_text outer here b (place_of outer here)) e l)
open_limit outer here b last r class.Letter p m e l = starting_limit outer here b last r p m e l
open_limit outer here b last r _ p m e l = absurd (never (Refused reason.Syntax) r tt e l)

first_open_limit : (outer : List Level) (here : Level) (b last : ℕ) (r : Reason) (k : Class) → PlainAround outer here → IsMark k b
    → content.first_open_after outer here b k ≡ Refused r → IsLimit r
    → Follows b (λ cs. (seen : Seen) → Here outer here seen (60 ∷ b ∷ cs))
first_open_limit outer here b last r class.Question p m e l = absurd (never (content.first_open_after outer here b class.Question) r tt e l)
first_open_limit outer here b last r k p m e l = open_limit outer here b last r k p m e l

-- ---- where a tag isn't explained, or has an attribute too many

module _ (outer : List Level) (here : Level) (p : PlainAround outer here) where
  slash_limit : (t : Tag) (spaced : Bool) (b : ℕ) → b ≡ 47 → Follows b (λ cs. LeadsInTag (Closes outer here) t spaced (b ∷ cs))
  slash_limit t spaced b m = (
    62 ∷ ends outer here.spelled,
    (mark_plain b 47 m refl, (refl, ends_plain outer here.spelled p.0 p.1)),
    tag_ends (Closes outer here) t spaced (b ∷ 62 ∷ ends outer here.spelled)
        (inl (ends outer here.spelled, ap (λ x. x ∷ 62 ∷ ends outer here.spelled) m, rest_ends outer here.spelled Zero)),
  )

  greater_limit : (t : Tag) (spaced : Bool) (b : ℕ) → IsName t.name → b ≡ 62
      → Follows b (λ cs. LeadsInTag (Closes outer here) t spaced (b ∷ cs))
  greater_limit t spaced b n m = (
    ends (here ∷ outer) (spelled t.name),
    (mark_plain b 62 m refl, ends_plain (here ∷ outer) (spelled t.name) (name_plain t.name n) p),
    tag_ends (Closes outer here) t spaced (b ∷ ends (here ∷ outer) (spelled t.name))
        (inr (
          ends (here ∷ outer) (spelled t.name),
          ap (λ x. x ∷ ends (here ∷ outer) (spelled t.name)) m,
          rest_ends (here ∷ outer) (spelled t.name) Zero,
        )),
  )

  letter_limit : (t : Tag) (spaced : Bool) (b last : ℕ) (r : Reason) → IsName t.name → is_first_letter b ≡ true
      → tags.begun_attribute outer here t spaced b ≡ Refused r → IsLimit r
      → Follows b (λ cs. LeadsInTag (Closes outer here) t spaced (b ∷ cs))
  letter_limit t false b last r n m e l = absurd (never (Refused reason.Syntax) r tt e l)
  letter_limit t true b last r n m e l =
      let c = closes outer here (mode.AttributeName t (one_letter b)) last p tt (n, (tt, (m, tt))) in
      (c.0, (first_plain b m, c.1), tag_attribute (Closes outer here) t b c.0 c.2)

  in_tag_limit : (t : Tag) (spaced : Bool) (b last : ℕ) (r : Reason) (k : Class) → IsName t.name → IsMark k b
      → tags.in_tag_after outer here t spaced b k ≡ Refused r → IsLimit r
      → Follows b (λ cs. LeadsInTag (Closes outer here) t spaced (b ∷ cs))
  in_tag_limit t spaced b last r class.Space n m e l = absurd (never (At outer here (mode.InTag t true)) r tt e l)
  in_tag_limit t spaced b last r class.Slash n m e l = slash_limit t spaced b m
  in_tag_limit t spaced b last r class.Greater n m e l = greater_limit t spaced b n m
  in_tag_limit t spaced b last r class.Letter n m e l = letter_limit t spaced b last r n m e l
  in_tag_limit t spaced b last r _ n m e l = absurd (never (Refused reason.Syntax) r tt e l)

  tag_name_limit : (name : RawName) (b last : ℕ) (r : Reason) (k : Class) (g : Naming) → IsMark k b → Grows name b g
      → tags.tag_name_by outer here b k g ≡ Refused r → IsLimit r → Follows b (λ cs. LeadsName name (BehindTagName outer here) (b ∷ cs))
  tag_name_limit name b last r k naming.Wrong m w e l = absurd (never (Refused reason.Syntax) r tt e l)
  tag_name_limit name b last r k (naming.On next) m w e l = absurd (never (At outer here (mode.TagName next)) r tt e l)
  tag_name_limit name b last r k (naming.Whole full) m w e l =
      let c = in_tag_limit (record { name = full; attributes = [] }) false b last r k (subst (λ x. IsName x) (sym w.0) w.1) m e l in
      (c.0, c.1, name_whole name (BehindTagName outer here) (b ∷ c.0) w.1 (subst (λ x. BehindTagName outer here x (b ∷ c.0)) w.0 c.2))

-- ---- each state

limit_in : (outer : List Level) (here : Level) (m : Mode) (last b : ℕ) (r : Reason) → PlainAround outer here → LiveMode last outer m
    → act outer here m b ≡ Refused r → IsLimit r → Follows b (λ cs. Leads outer here m (b ∷ cs))
limit_in outer here mode.Begin last b r p v e l = absurd (never _ r (begin_text outer here b (class_of b)) e l)
limit_in outer here mode.MarkOne last b r p v e l = absurd (never _ r (wanted_text outer here b 0xBB mode.MarkTwo) e l)
limit_in outer here mode.MarkTwo last b r p v e l = absurd (never _ r (wanted_text outer here b 0xBF mode.First) e l)
limit_in outer here mode.First last b r p v e l = absurd (never _ r (first_text outer here b (class_of b)) e l)
limit_in outer here mode.FirstOpen last b r p v e l =
    let c = first_open_limit outer here b last r (class_of b) p (mark_told b) e l in
    (c.0, c.1, (no_head, 60 ∷ b ∷ c.0, tt, refl, c.2 Zero))
limit_in outer here (mode.Declaring h) last b r p v e l =
    absurd (never _ r (declaring_text outer here b (heading_after h b (class_of b))) e l)
limit_in outer here (mode.Inside seen) last b r p v e l =
    absurd (never _ r (inside_text outer here b (place_of outer here) seen (class_of b)) e l)
limit_in outer here mode.Open last b r p v e l = open_limit outer here b last r (class_of b) p (mark_told b) e l
limit_in outer here mode.Exclaimed last b r p v e l = absurd (never _ r (exclaimed_text outer here b (class_of b)) e l)
limit_in outer here mode.Hyphened last b r p v e l = absurd (never _ r (hyphened_text outer here b (class_of b)) e l)
limit_in outer here (mode.Comment seen) last b r p v e l = absurd (never _ r (comment_text outer here b seen (class_of b)) e l)
limit_in outer here (mode.Bracketed count) last b r p v e l =
    absurd (never _ r (bracketed_text outer here b (reached_at (codes "CDATA[") count b)) e l)
limit_in outer here (mode.Section body seen) last b r p v e l = absurd (never _ r (section_text outer here b body seen (class_of b)) e l)
limit_in outer here (mode.Reference partial) last b r p v e l = absurd (never _ r (reference_text' outer here b (referred partial b)) e l)
limit_in outer here (mode.TagName name) last b r p v e l =
    tag_name_limit outer here p name b last r (class_of b) (grown name b (class_of b)) (mark_told b) (grows name b v) e l
limit_in outer here (mode.InTag t spaced) last b r p v e l = in_tag_limit outer here p t spaced b last r (class_of b) v (mark_told b) e l
limit_in outer here (mode.AttributeName t name) last b r p v e l =
    absurd (never _ r (attribute_name_text outer here b t (class_of b) (grown name b (class_of b))) e l)
limit_in outer here (mode.Equals t name) last b r p v e l = absurd (never _ r (equals_text outer here b t name (class_of b)) e l)
limit_in outer here (mode.Quote t name) last b r p v e l = absurd (never _ r (quote_text outer here b t name (class_of b)) e l)
limit_in outer here (mode.Value t a quote) last b r p v e l = absurd (never _ r (value_text outer here b t a quote (class_of b)) e l)
limit_in outer here (mode.ValueReference t a quote partial) last b r p v e l =
    absurd (never _ r (value_reference_text outer here b t a quote (referred partial b)) e l)
limit_in outer here (mode.Slashed o) last b r p v e l = absurd (never _ r (slashed_text outer here b o (class_of b)) e l)
limit_in outer here (mode.EndName name) last b r p v e l = absurd (never _ r (end_name_text outer here b name) e l)
limit_in outer here mode.EndSpace last b r p v e l = absurd (never _ r (end_space_text outer here (class_of b)) e l)

-- a byte that is refused for a limit may be followed by some bytes
pub limit_follows : (s : State) (last b : ℕ) (r : Reason) → IsGoing s → Live last s → state_after s b ≡ Refused r → IsLimit r
    → (cs : List ℕ) × ArePlain (b ∷ cs) × Goes s (b ∷ cs)
unfolding state_after
limit_follows (Refused x) last b r g v e l = absurd g
limit_follows (At outer here m) last b r g v e l = limit_in outer here m last b r v.0 v.1 e l
