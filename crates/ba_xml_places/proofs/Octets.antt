-- A byte of 80 or more: which states take it, and where the characters stand after it.
use Rattle.std.proofs.Common.{◌≡◌, ℕ, ◌<◌, ◌≤◌, Bool, true, false, cond, ◌==◌, nat_lt, ◌⊎◌, inl, inr, List, [], ◌∷◌, drop, codes}
use Rattle.std.proofs.Common.{refl, sym, ap, subst, ◌∙◌, arith}
use Rattle.std.proofs.Common.{le-ltb}
use Rattle.std.proofs.lemmas.Bool.{lt-ltb, ltb-true, eqb-true, ne_eqb, and_parts, cond-false}
use Rattle.std.proofs.lemmas.Bool.Decides.{nat_tests}
use Rattle.std.specs.Char.{digit_value, to_ascii_lowercase}
use Rattle.ba_tree.specs.declared.trees.Content.{Content}
use Rattle.ba_xml_places.proofs.Ends.{drop_plain, item_plain, setting_plain}
use Rattle.ba_xml_places.proofs.ReferencesClose.{entity_plain}
use Rattle.ba_xml_places.proofs.Live.{is_plain, ArePlain, IsWithin, LiveMode, LiveHeading, Live}
use Rattle.ba_xml_reader.proofs.CompleteCharacters.{lead_one}
use Rattle.ba_xml_reader.proofs.SoundCharacters.{same_octet}
use Rattle.ba_xml_words.proofs.SoundWords.{LeftOf, word_left}
use Rattle.ba_xml_words.specs.Classes.{class_of}
use Rattle.ba_xml_words.specs.inside.Headings.{target_by, begun_by, item_begun, item_text, word_by, said_by, heading_after}
use Rattle.ba_xml_words.specs.inside.Headings.{setting_text}
use Rattle.ba_xml_words.specs.inside.Headings.{setting_by, spelling, blank_after, behind_after, later_item}
use Rattle.ba_xml_words.specs.inside.Octets.{octet_after, lead}
use Rattle.ba_xml_words.specs.inside.References.{entity_text, named_by, with_digit}
use Rattle.ba_xml_words.specs.inside.References.{referred}
use Rattle.ba_xml_words.specs.inside.Words.{reached_at}
use Rattle.ba_xml_names.specs.inside.Levels.{place_outside}
use Rattle.ba_xml_names.specs.inside.Tags.{with_attribute}
use Rattle.ba_xml_reader.specs.inside.Content as content
use Rattle.ba_xml_reader.specs.inside.Tags as tags
use Rattle.ba_xml_reader.specs.inside.Machine.{act_by, state_after}
use Rattle.ba_xml_grammar.specs.GrammarWords.{IsQuote}
use Rattle.ba_xml_words.specs.declared.classes.Class.TheVariants as class
use Rattle.ba_xml_words.specs.declared.faults.Reason.TheVariants.{Syntax, NotUtf8}
use Rattle.ba_xml_words.specs.declared.headings.Declared.TheVariants as declared'
use Rattle.ba_xml_words.specs.declared.headings.Heading.{Heading}
use Rattle.ba_xml_words.specs.declared.headings.Heading.TheVariants as heading'
use Rattle.ba_xml_words.specs.declared.headings.Item.{Item}
use Rattle.ba_xml_words.specs.declared.headings.Item.TheVariants as item
use Rattle.ba_xml_words.specs.declared.headings.Setting.{Setting}
use Rattle.ba_xml_words.specs.declared.headings.Setting.TheVariants as setting
use Rattle.ba_xml_words.specs.declared.octets.Decoding.TheVariants as decoding
use Rattle.ba_xml_words.specs.declared.octets.Octet.{Octet}
use Rattle.ba_xml_words.specs.declared.octets.Octet.TheVariants.{Between, One, Two, Three, AfterE0, AfterED, AfterEF, AfterEFBF, AfterF0}
use Rattle.ba_xml_words.specs.declared.octets.Octet.TheVariants.{AfterF4}
use Rattle.ba_xml_names.specs.declared.levels.Level.{Level}
use Rattle.ba_xml_words.specs.declared.names.RawAttribute.{RawAttribute}
use Rattle.ba_xml_names.specs.declared.tags.Tag.{Tag}
use Rattle.ba_xml_words.specs.declared.remaining.Meeting.TheVariants as meeting
use Rattle.ba_xml_words.specs.declared.references.Partial.{Partial}
use Rattle.ba_xml_words.specs.declared.references.Partial.TheVariants.{Nothing, LetterA, Named, Hash, HashX, Number}
use Rattle.ba_xml_words.specs.declared.references.Radix.{Radix}
use Rattle.ba_xml_words.specs.declared.references.Radix.TheVariants.{Decimal, Hexadecimal}
use Rattle.ba_xml_words.specs.declared.references.Referred.TheVariants as referred'
use Rattle.ba_xml_words.specs.declared.words.Progress.{Progress}
use Rattle.ba_xml_words.specs.declared.words.Progress.TheVariants as progress
use Rattle.ba_xml_reader.specs.declared.states.Mode.{Mode}
use Rattle.ba_xml_reader.specs.declared.states.Mode.TheVariants as mode
use Rattle.ba_xml_reader.specs.declared.states.Seen.{Seen}
use Rattle.ba_xml_reader.specs.declared.states.Seen.TheVariants as marks
use Rattle.ba_xml_reader.specs.declared.states.State.{State}
use Rattle.ba_xml_reader.specs.declared.states.State.TheVariants as state

high_kind : (b : ℕ) → 128 ≤ b → class_of b ≡ class.High
unfolding class_of
high_kind b h = rw (
  ne_eqb b 32 (λ e. omega (arith, e, h)),
  ne_eqb b 9 (λ e. omega (arith, e, h)),
  ne_eqb b 10 (λ e. omega (arith, e, h)),
  le-ltb b 32 (omega (arith, h)),
  le-ltb b 128 h,
) refl

apart : (b n : ℕ) → 128 ≤ b → n < 128 → (b == n) ≡ false
apart b n h l = ne_eqb b n (λ e. omega (arith, e, h, l))

plain_low : (b : ℕ) → is_plain b ≡ true → b < 128
plain_low b e = ltb-true b 128 (and_parts (nat_lt b 128) _ e).0

not_plain : (b : ℕ) → 128 ≤ b → is_plain b ≡ true → ⊥
not_plain b h e = by (plain_low b e)
  where
    by : b < 128 → ⊥
    by l = omega (arith, h, l)

-- ---- words, references and the declaration have no such byte

word_high : (word : List ℕ) (count b : ℕ) → ArePlain word → 128 ≤ b → reached_at word count b ≡ progress.Nowhere
word_high word count b w h = by (reached_at word count b) (word_left word count b)
  where
    begun : (rest : List ℕ) → drop count word ≡ b ∷ rest → ⊥
    begun rest e = not_plain b h (subst ArePlain e (drop_plain count word w)).0

    by : (p : Progress) → LeftOf word count b p → p ≡ progress.Nowhere
    by progress.Nowhere l = refl
    by (progress.Part more) l = absurd (begun (drop more word) l)
    by progress.Whole l = absurd (begun [] l)

high_value : (b : ℕ) → 128 ≤ b → digit_value b ≡ 36
high_value b h = rw (
  le-ltb b 48 (omega (arith, h)),
  le-ltb b 58 (omega (arith, h)),
  le-ltb b 65 (omega (arith, h)),
  le-ltb b 91 (omega (arith, h)),
  le-ltb b 97 (omega (arith, h)),
  le-ltb b 123 (omega (arith, h)),
) refl

digit_high : (radix : Radix) (value b : ℕ) → 128 ≤ b → with_digit radix value b ≡ referred'.Wrong
digit_high Decimal value b h = cond-false (nat_lt (digit_value b) 10) _ _ (ap (λ d. nat_lt d 10) (high_value b h))
digit_high Hexadecimal value b h = cond-false (nat_lt (digit_value b) 16) _ _ (ap (λ d. nat_lt d 16) (high_value b h))

referred_high : (partial : Partial) (b : ℕ) → 128 ≤ b → referred partial b ≡ referred'.Wrong
unfolding referred
referred_high Nothing b h = rw (
  apart b 108 h (omega arith),
  apart b 103 h (omega arith),
  apart b 113 h (omega arith),
  apart b 97 h (omega arith),
  apart b 35 h (omega arith),
) refl
referred_high LetterA b h = rw (apart b 109 h (omega arith), apart b 112 h (omega arith)) refl
referred_high (Named e count) b h = ap (λ p. named_by e p) (word_high (entity_text e) count b (entity_plain e) h)
referred_high Hash b h = cond-false (b == 120) _ _ (apart b 120 h (omega arith)) ∙ digit_high Decimal 0 b h
referred_high HashX b h = digit_high Hexadecimal 0 b h
referred_high (Number radix value) b h = cond-false (b == 59) _ _ (apart b 59 h (omega arith)) ∙ digit_high radix value b h

quote_apart : (b quote : ℕ) → 128 ≤ b → IsQuote quote → (b == quote) ≡ false
quote_apart b quote h (inl e) = apart b quote h (subst (λ q. q < 128) (sym e) (omega arith))
quote_apart b quote h (inr e) = apart b quote h (subst (λ q. q < 128) (sym e) (omega arith))

item_high : (i : Item) (b : ℕ) → 128 ≤ b → item_begun i b ≡ declared'.Wrong
item_high i b h = ap (λ p. begun_by i p) (word_high (item_text i) 0 b (item_plain i) h)

blank_high : (spaced : Bool) (b : ℕ) → 128 ≤ b → blank_after spaced b class.High ≡ declared'.Wrong
blank_high true b h = item_high item.Version b h
blank_high false b h = refl

over_high : (encoding : Bool) (b : ℕ) → 128 ≤ b → cond encoding (item_begun item.Encoding b)
    (item_begun item.Standalone b) ≡ declared'.Wrong
over_high true b h = item_high item.Encoding b h
over_high false b h = item_high item.Standalone b h

later_high : (i : Item) (b : ℕ) → 128 ≤ b → later_item i b ≡ declared'.Wrong
later_high item.Version b h = over_high (b == 101) b h
later_high item.Encoding b h = item_high item.Standalone b h
later_high item.Standalone b h = refl

behind_high : (i : Item) (spaced : Bool) (b : ℕ) → 128 ≤ b → behind_after i spaced b class.High ≡ declared'.Wrong
behind_high i true b h = later_high i b h
behind_high i false b h = refl

lower_high : (b : ℕ) → 128 ≤ b → 128 ≤ to_ascii_lowercase b
lower_high b h = grind (arith, nat_tests)

spelling_high : (s : Setting) (b : ℕ) → 128 ≤ b → 128 ≤ spelling s b
spelling_high setting.OneZero b h = h
spelling_high setting.Utf8 b h = lower_high b h
spelling_high setting.Yes b h = h
spelling_high setting.No b h = h

said_high : (i : Item) (quote : ℕ) (s : Setting) (count b : ℕ) → 128 ≤ b
    → said_by i quote s (reached_at (setting_text s) count (spelling s b)) ≡ declared'.Wrong
said_high i quote s count b h = ap (λ p. said_by i quote s p)
    (word_high (setting_text s) count (spelling s b) (setting_plain s) (spelling_high s b h))

heading_high : (g : Heading) (b : ℕ) → LiveHeading g → 128 ≤ b → heading_after g b class.High ≡ declared'.Wrong
unfolding heading_after
heading_high (heading'.Target count) b l h = ap target_by (word_high (codes "xml") count b (refl, (refl, (refl, tt))) h)
heading_high (heading'.Blank spaced) b l h = blank_high spaced b h
heading_high (heading'.Behind i spaced) b l h = behind_high i spaced b h
heading_high (heading'.Word i count) b l h = ap (λ p. word_by i p) (word_high (item_text i) count b (item_plain i) h)
heading_high (heading'.Equals i) b l h = refl
heading_high (heading'.Quote i) b l h = refl
heading_high (heading'.Said i quote s count) b l h = said_high i quote (setting_by s count b) count b h
heading_high (heading'.SaidAll i quote) b l h = cond-false (b == quote) _ _ (quote_apart b quote h l)
heading_high heading'.Close b l h = refl

-- ---- which states such a byte leads to

abbrev pub IsZero : Seen → Type 0
IsZero marks.Zero = Unit {0}
IsZero marks.One = ⊥
IsZero marks.Two = ⊥

-- such bytes are taken here, and lead to such states
abbrev pub IsFreeMode : List Level → Mode → Type 0
IsFreeMode outer (mode.Inside seen) = IsWithin outer
IsFreeMode outer (mode.Comment seen) = IsZero seen
IsFreeMode outer (mode.Section body seen) = Unit {0}
IsFreeMode outer (mode.Value t a quote) = Unit {0}
IsFreeMode outer _ = ⊥

abbrev pub IsFree : State → Type 0
IsFree (state.Refused r) = ⊥
IsFree (state.At outer here m) = IsFreeMode outer m

-- where the characters may stand in this state
abbrev pub FitsMode : Octet → List Level → Mode → Type 0
FitsMode o outer mode.MarkOne = o ≡ AfterEF
FitsMode o outer mode.MarkTwo = o ≡ One
FitsMode o outer m = (o ≡ Between) ⊎ IsFreeMode outer m

abbrev pub Fits : Octet → State → Type 0
Fits o (state.Refused r) = Unit {0}
Fits o (state.At outer here m) = FitsMode o outer m

after_EF : octet_after Between 0xEF ≡ decoding.At AfterEF
unfolding octet_after lead
after_EF = refl

pub after_BB : octet_after AfterEF 0xBB ≡ decoding.At One
unfolding octet_after
after_BB = refl

pub after_BF : octet_after One 0xBF ≡ decoding.At Between
unfolding octet_after
after_BF = refl

next_octet : (o q p r : Octet) (b n : ℕ) → o ≡ q → b ≡ n → octet_after o b ≡ decoding.At p → octet_after q n ≡ decoding.At r → p ≡ r
next_octet o q p r b n e f g h = same_octet p r (sym g ∙ ap (λ x. octet_after x b) e ∙ ap (λ x. octet_after q x) f ∙ h)

abbrev in_tag : List Level → Level → Tag → RawAttribute → State
in_tag outer here t a = state.At outer here (mode.InTag (with_attribute t a) false)

module _ (outer : List Level) (here : Level) (p : Octet) (b : ℕ) (h : 128 ≤ b) where
  wanted_fits : (n : ℕ) (m : Mode) → (b ≡ n → FitsMode p outer m) → Fits p (content.wanted_after outer here b n m)
  wanted_fits n m f = by (b == n) refl
    where
      by : (q : Bool) → (b == n) ≡ q → Fits p (cond q (state.At outer here m) (state.Refused Syntax))
      by true e = f (eqb-true b n e)
      by false e = tt

  begun_fits : (o : Octet) → (o ≡ Between) ⊎ ⊥ → octet_after o b ≡ decoding.At p → Fits p (content.begin_after outer here b class.High)
  begun_fits o (inl e) g = wanted_fits 0xEF mode.MarkOne (λ f. next_octet o Between p AfterEF b 0xEF e f g after_EF)
  begun_fits o (inr e) g = absurd e

  comment_fits : (seen : Seen) → Fits p (content.comment_after outer here seen class.High)
  comment_fits marks.Zero = inr tt
  comment_fits marks.One = inr tt
  comment_fits marks.Two = tt

  bracketed_fits : (count : ℕ) → Fits p (content.bracketed_after outer here count b)
  bracketed_fits count = subst (λ q. Fits p (content.bracketed_by outer here q))
      (sym (word_high (codes "CDATA[") count b (refl, (refl, (refl, (refl, (refl, (refl, tt)))))) h)) tt

  reference_fits : (partial : Partial) → Fits p (content.reference_after outer here partial b)
  reference_fits partial = subst (λ r. Fits p (content.reference_by outer here r)) (sym (referred_high partial b h)) tt

  value_reference_fits : (t : Tag) (a : RawAttribute) (quote : ℕ) (partial : Partial)
      → Fits p (tags.value_reference_after outer here t a quote partial b)
  value_reference_fits t a quote partial =
      subst (λ r. Fits p (tags.value_reference_by outer here t a quote r)) (sym (referred_high partial b h)) tt

  declaring_fits : (g : Heading) → LiveHeading g → Fits p (content.declaring_after outer here g b class.High)
  declaring_fits g l = subst (λ d. Fits p (content.declaring_by outer here d)) (sym (heading_high g b l h)) tt

  value_fits : (t : Tag) (a : RawAttribute) (quote : ℕ) → IsQuote quote → Fits p (tags.value_after outer here t a quote b class.High)
  value_fits t a quote q =
      subst (λ x. Fits p x) (sym (cond-false (b == quote) (in_tag outer here t a) (tags.value_more outer here t a quote b)
      (quote_apart b quote h q))) (inr tt)

  end_name_fits : (name : List ℕ) → ArePlain name → Fits p (tags.end_name_after outer here name b)
  end_name_fits [] n = tt
  end_name_fits (x ∷ []) n = subst (λ q. Fits p (tags.end_name_by outer here (cond q meeting.Whole meeting.Wrong))) (sym (other x n.0)) tt
    where
      other : (x : ℕ) → is_plain x ≡ true → (x == b) ≡ false
      other x e = by (plain_low x e)
        where
          by : x < 128 → (x == b) ≡ false
          by l = ne_eqb x b (λ e. omega (arith, e, h, l))
  end_name_fits (x ∷ y ∷ more) n =
      subst (λ q. Fits p (tags.end_name_by outer here (cond q (meeting.On (y ∷ more)) meeting.Wrong))) (sym (other x n.0)) tt
    where
      other : (x : ℕ) → is_plain x ≡ true → (x == b) ≡ false
      other x e = by (plain_low x e)
        where
          by : x < 128 → (x == b) ≡ false
          by l = ne_eqb x b (λ e. omega (arith, e, h, l))

outside_fits : (inner : List Content) (here : Level) (p : Octet) (seen : Seen) (b : ℕ)
    → Fits p (content.inside_at (place_outside inner) [] here seen b class.High)
outside_fits [] here p seen b = tt
outside_fits (c ∷ cs) here p seen b = tt

inside_fits : (outer : List Level) (here : Level) (p : Octet) (seen : Seen) (b : ℕ)
    → Fits p (content.inside_after outer here seen b class.High)
inside_fits [] here p seen b = outside_fits here.content here p seen b
inside_fits (parent ∷ above) here p seen b = inr tt

by_high : (outer : List Level) (here : Level) (m : Mode) (last : ℕ) (o p : Octet) (b : ℕ) → 128 ≤ b → LiveMode last outer m
    → FitsMode o outer m
    → octet_after o b ≡ decoding.At p → Fits p (act_by outer here m b class.High)
by_high outer here mode.Begin last o p b h l f g = begun_fits outer here p b h o f g
by_high outer here mode.MarkOne last o p b h l f g =
    wanted_fits outer here p b h 0xBB mode.MarkTwo (λ e. next_octet o AfterEF p One b 0xBB f e g after_BB)
by_high outer here mode.MarkTwo last o p b h l f g =
    wanted_fits outer here p b h 0xBF mode.First (λ e. inl (next_octet o One p Between b 0xBF f e g after_BF))
by_high outer here mode.First last o p b h l f g = tt
by_high outer here mode.FirstOpen last o p b h l f g = tt
by_high outer here (mode.Declaring d) last o p b h l f g = declaring_fits outer here p b h d l
by_high outer here (mode.Inside seen) last o p b h l f g = inside_fits outer here p seen b
by_high outer here mode.Open last o p b h l f g = tt
by_high outer here mode.Exclaimed last o p b h l f g = tt
by_high outer here mode.Hyphened last o p b h l f g = tt
by_high outer here (mode.Comment seen) last o p b h l f g = comment_fits outer here p b h seen
by_high outer here (mode.Bracketed count) last o p b h l f g = bracketed_fits outer here p b h count
by_high outer here (mode.Section body seen) last o p b h l f g = inr tt
by_high outer here (mode.Reference partial) last o p b h l f g = reference_fits outer here p b h partial
by_high outer here (mode.TagName name) last o p b h l f g = tt
by_high outer here (mode.InTag t spaced) last o p b h l f g = tt
by_high outer here (mode.AttributeName t name) last o p b h l f g = tt
by_high outer here (mode.Equals t name) last o p b h l f g = tt
by_high outer here (mode.Quote t name) last o p b h l f g = tt
by_high outer here (mode.Value t a quote) last o p b h l f g = value_fits outer here p b h t a quote l.1
by_high outer here (mode.ValueReference t a quote partial) last o p b h l f g = value_reference_fits outer here p b h t a quote partial
by_high outer here (mode.Slashed x) last o p b h l f g = tt
by_high outer here (mode.EndName name) last o p b h l f g = end_name_fits outer here p b h name l.1
by_high outer here mode.EndSpace last o p b h l f g = tt

pub high_fits : (s : State) (last : ℕ) (o p : Octet) (b : ℕ) → 128 ≤ b → Live last s → Fits o s → octet_after o b ≡ decoding.At p
    → Fits p (state_after s b)
unfolding state_after
high_fits (state.Refused r) last o p b h l f g = tt
high_fits (state.At outer here m) last o p b h l f g =
    subst (λ k. Fits p (act_by outer here m b k)) (sym (high_kind b h)) (by_high outer here m last o p b h l.1 f g)

-- a byte below 80 leads into no byte order mark
pub low_fits : (s : State) (b : ℕ) (p : Octet) → Live b s → b < 128 → p ≡ Between → Fits p s
low_fits (state.Refused r) b p l h e = tt
low_fits (state.At outer here mode.MarkOne) b p l h e = absurd (by l.1)
  where
    by : b ≡ 0xEF → ⊥
    by f = omega (arith, f, h)
low_fits (state.At outer here mode.MarkTwo) b p l h e = absurd (by l.1)
  where
    by : b ≡ 0xBB → ⊥
    by f = omega (arith, f, h)
low_fits (state.At outer here _) b p l h e = inl e

-- ---- the rest of a character

free_within : (outer : List Level) (here : Level) (seen : Seen) (b : ℕ) → IsWithin outer
    → IsFree (content.inside_after outer here seen b class.High)
free_within [] here seen b w = absurd w
free_within (parent ∷ above) here seen b w = tt

free_comment : (outer : List Level) (here : Level) (seen : Seen) → IsZero seen → IsFree (content.comment_after outer here seen class.High)
free_comment outer here marks.Zero z = tt
free_comment outer here marks.One z = absurd z
free_comment outer here marks.Two z = absurd z

by_free : (outer : List Level) (here : Level) (m : Mode) (last b : ℕ) → 128 ≤ b → LiveMode last outer m → IsFreeMode outer m
    → IsFree (act_by outer here m b class.High)
by_free outer here (mode.Inside seen) last b h l f = free_within outer here seen b f
by_free outer here (mode.Comment seen) last b h l f = free_comment outer here seen f
by_free outer here (mode.Section body seen) last b h l f = tt
by_free outer here (mode.Value t a quote) last b h l f =
    subst (λ x. IsFree x) (sym (cond-false (b == quote) (in_tag outer here t a) (tags.value_more outer here t a quote b)
    (quote_apart b quote h l.1))) tt
by_free outer here _ last b h l f = absurd f

pub free_after : (s : State) (last b : ℕ) → 128 ≤ b → Live last s → IsFree s → IsFree (state_after s b)
unfolding state_after
free_after (state.Refused r) last b h l f = f
free_after (state.At outer here m) last b h l f =
    subst (λ k. IsFree (act_by outer here m b k)) (sym (high_kind b h)) (by_free outer here m last b h l.1 f)

-- ---- where a byte below 80 stands, no character is begun

low_or : (o : Octet) (b : ℕ) → b < 0x80 → (o ≡ Between) ⊎ (octet_after o b ≡ decoding.Broken NotUtf8)
unfolding octet_after
low_or Between b h = inl refl
low_or One b h = inr (rw (lt-ltb b 0x80 h) refl)
low_or Two b h = inr (rw (lt-ltb b 0x80 h) refl)
low_or Three b h = inr (rw (lt-ltb b 0x80 h) refl)
low_or AfterE0 b h = inr (rw (lt-ltb b 0xA0 (omega (arith, h))) refl)
low_or AfterED b h = inr (rw (lt-ltb b 0x80 h) refl)
low_or AfterEF b h = inr (rw (ne_eqb b 0xBF (λ e. omega (arith, e, h)), lt-ltb b 0x80 h) refl)
low_or AfterEFBF b h = inr (rw (ne_eqb b 0xBE (λ e. omega (arith, e, h)), ne_eqb b 0xBF (λ e. omega (arith, e, h)), lt-ltb b 0x80 h) refl)
low_or AfterF0 b h = inr (rw (lt-ltb b 0x90 (omega (arith, h))) refl)
low_or AfterF4 b h = inr (rw (lt-ltb b 0x80 h) refl)

pub low_was : (o p : Octet) (b : ℕ) → b < 0x80 → octet_after o b ≡ decoding.At p → o ≡ Between
low_was o p b h e = by (low_or o b h)
  where
    clash : decoding.Broken NotUtf8 ≡ decoding.At p → ⊥
    clash f = cc

    by : (o ≡ Between) ⊎ (octet_after o b ≡ decoding.Broken NotUtf8) → o ≡ Between
    by (inl q) = q
    by (inr q) = absurd (clash (sym q ∙ e))

pub low_between : (o p : Octet) (b : ℕ) → b < 0x80 → octet_after o b ≡ decoding.At p → p ≡ Between
low_between o p b h e = same_octet p Between (sym e ∙ ap (λ x. octet_after x b) (low_was o p b h e) ∙ lead_one b h)
