-- What holds of each state that the machine comes to is kept by each byte.
use Rattle.std.proofs.Common.{◌≡◌, ℕ, ◌+◌, ◌*◌, ◌<◌, Bool, true, false, cond, ◌==◌, nat_lt, Option, Some}
use Rattle.std.proofs.Common.{None, List, [], ◌∷◌, ◌++◌}
use Rattle.std.proofs.Common.{length, codes, slice_index, refl, sym, subst, arith, inl, inr}
use Rattle.std.proofs.lemmas.Bool.{eqb-true, ltb-true, ltb-false, eqb-false}
use Rattle.std.proofs.lemmas.Bool.Decides.{nat_tests}
use Rattle.std.specs.Char.{digit_value}
use Rattle.ba_tree.specs.declared.trees.Content.{Content}
use Rattle.ba_xml_places.proofs.Live.{is_plain, ArePlain, PlainAround, LiveReferred, LiveHeading, LiveDeclared, LiveMode, Live}
use Rattle.ba_xml_reader.proofs.SoundKinds.{IsMark, mark_told}
use Rattle.ba_xml_reader.proofs.SoundNames.{Grows, grows}
use Rattle.ba_xml_words.specs.Classes.{class_of, is_first_letter}
use Rattle.ba_xml_words.specs.inside.Headings.{target_by, begun_by, item_begun, item_text, blank_after, later_item, next_item}
use Rattle.ba_xml_words.specs.inside.Headings.{behind_after}
use Rattle.ba_xml_words.specs.inside.Headings.{word_by, equals_after, quote_after, said_by, said_all_after}
use Rattle.ba_xml_words.specs.inside.Headings.{closed_after}
use Rattle.ba_xml_words.specs.inside.Headings.{heading_after, setting_text, setting_by, spelling}
use Rattle.ba_xml_words.specs.inside.Names.{spelled, joined, is_written, grown, one_letter}
use Rattle.ba_xml_words.specs.inside.References.{entity_text, base_of, started, lettered, named_by, with_digit, number_on, hashed}
use Rattle.ba_xml_words.specs.inside.References.{referred, is_legal}
use Rattle.ba_xml_words.specs.inside.Remaining.{met}
use Rattle.ba_xml_words.specs.inside.Words.{reached_at}
use Rattle.ba_xml_names.specs.Namespaces.{opening, scope}
use Rattle.ba_xml_names.specs.inside.Levels.{place_of, place_outside}
use Rattle.ba_xml_names.specs.inside.Tags.{with_attribute}
use Rattle.ba_xml_reader.specs.inside.Content as content
use Rattle.ba_xml_reader.specs.inside.Tags as tags
use Rattle.ba_xml_reader.specs.inside.Machine.{act, state_after}
use Rattle.ba_xml_grammar.specs.GrammarWords.{Each, IsName, IsPlainName, IsPrefix, is_name_letter, IsQuote}
use Rattle.ba_xml_words.specs.declared.classes.Class.{Class}
use Rattle.ba_xml_words.specs.declared.classes.Class.TheVariants as class
use Rattle.ba_xml_words.specs.declared.faults.Reason.TheVariants.{Syntax, Depth, Attributes}
use Rattle.ba_xml_words.specs.declared.headings.Declared.{Declared}
use Rattle.ba_xml_words.specs.declared.headings.Declared.TheVariants as declared'
use Rattle.ba_xml_words.specs.declared.headings.Heading.{Heading}
use Rattle.ba_xml_words.specs.declared.headings.Heading.TheVariants as heading'
use Rattle.ba_xml_words.specs.declared.headings.Item.{Item}
use Rattle.ba_xml_words.specs.declared.headings.Item.TheVariants as item
use Rattle.ba_xml_words.specs.declared.headings.Setting.{Setting}
use Rattle.ba_xml_names.specs.declared.levels.Level.{Level}
use Rattle.ba_xml_names.specs.declared.levels.Opening.{Opening}
use Rattle.ba_xml_names.specs.declared.levels.Place.{Place}
use Rattle.ba_xml_names.specs.declared.levels.Place.TheVariants.{Before, Within, Behind}
use Rattle.ba_xml_words.specs.declared.names.Naming.{Naming}
use Rattle.ba_xml_words.specs.declared.names.Naming.TheVariants as naming
use Rattle.ba_xml_words.specs.declared.names.RawAttribute.{RawAttribute}
use Rattle.ba_xml_words.specs.declared.names.RawName.{RawName}
use Rattle.ba_xml_words.specs.declared.references.Entity.{Entity}
use Rattle.ba_xml_words.specs.declared.references.Entity.TheVariants as entity
use Rattle.ba_xml_words.specs.declared.references.Partial.{Partial}
use Rattle.ba_xml_words.specs.declared.references.Partial.TheVariants.{Nothing, LetterA, Named, Hash, HashX, Number}
use Rattle.ba_xml_words.specs.declared.references.Radix.{Radix}
use Rattle.ba_xml_words.specs.declared.references.Radix.TheVariants.{Decimal, Hexadecimal}
use Rattle.ba_xml_words.specs.declared.references.Referred.{Referred}
use Rattle.ba_xml_words.specs.declared.references.Referred.TheVariants as referred'
use Rattle.ba_xml_words.specs.declared.remaining.Meeting.TheVariants as meeting
use Rattle.ba_xml_words.specs.declared.words.Progress.{Progress}
use Rattle.ba_xml_words.specs.declared.words.Progress.TheVariants as progress
use Rattle.ba_xml_reader.specs.declared.states.Mode.{Mode}
use Rattle.ba_xml_reader.specs.declared.states.Mode.TheVariants as mode
use Rattle.ba_xml_reader.specs.declared.states.Seen.{Seen}
use Rattle.ba_xml_reader.specs.declared.states.Seen.TheVariants.{Zero, One, Two}
use Rattle.ba_xml_reader.specs.declared.states.State.{State}
use Rattle.ba_xml_reader.specs.declared.states.State.TheVariants.{Refused, At}
use Rattle.ba_xml_names.specs.declared.tags.Tag.{Tag}

-- ---- names are plain

letter_plain : (b : ℕ) → is_name_letter b ≡ true → is_plain b ≡ true
letter_plain b h = grind (arith, nat_tests)

pub first_plain : (b : ℕ) → is_first_letter b ≡ true → is_plain b ≡ true
first_plain b h = grind (arith, nat_tests)

letters_plain : (bs : List ℕ) → Each is_name_letter bs → ArePlain bs
letters_plain [] e = tt
letters_plain (b ∷ bs) e = (letter_plain b e.0, letters_plain bs e.1)

local_plain : (bs : List ℕ) → IsPlainName bs → ArePlain bs
local_plain [] p = absurd p
local_plain (b ∷ bs) p = (first_plain b p.0, letters_plain bs p.1)

pub plain_joined : (xs ys : List ℕ) → ArePlain xs → ArePlain ys → ArePlain (xs ++ ys)
plain_joined [] ys p q = q
plain_joined (x ∷ xs) ys p q = (p.0, plain_joined xs ys p.1 q)

pub name_plain : (name : RawName) → IsName name → ArePlain (spelled name)
name_plain name n = by name.prefix n.0
  where
    by : (prefix : List ℕ) → IsPrefix prefix → ArePlain (joined prefix name.local)
    by [] p = local_plain name.local n.1
    by (x ∷ xs) p = plain_joined (x ∷ xs) (58 ∷ name.local) (local_plain (x ∷ xs) p) (refl, local_plain name.local n.1)

-- ---- references

-- a part of a word is shorter than the word
part_shorter : (word : List ℕ) (count b more : ℕ) → reached_at word count b ≡ progress.Part more → more < length word
part_shorter word count b more e =
    by (nat_lt count (length word)) (slice_index word count == b) (count + 1 == length word) refl refl e
  where
    same : (n m : ℕ) → progress.Part n ≡ progress.Part m → n ≡ m
    same n m e = cc

    shorter : count < length word → (count + 1 ≡ length word → ⊥) → count + 1 ≡ more → more < length word
    shorter l n s = omega (arith, l, n, s)

    by : (within equal last : Bool) → nat_lt count (length word) ≡ within → (count + 1 == length word) ≡ last
        → cond within (cond equal (cond last progress.Whole (progress.Part
        (count + 1))) progress.Nowhere) progress.Nowhere ≡ progress.Part more
        → more < length word
    by true true true w l e = absurd (clash e)
      where
        clash : progress.Whole ≡ progress.Part more → ⊥
        clash e = cc
    by true true false w l e = shorter (ltb-true count (length word) w) (eqb-false (count + 1) (length word) l) (same (count + 1) more e)
    by true false last w l e = absurd (clash e)
      where
        clash : progress.Nowhere ≡ progress.Part more → ⊥
        clash e = cc
    by false equal last w l e = absurd (clash e)
      where
        clash : progress.Nowhere ≡ progress.Part more → ⊥
        clash e = cc

named_live : (e : Entity) (p : Progress) → ((more : ℕ) → p ≡ progress.Part more → more < length (entity_text e))
    → LiveReferred (named_by e p)
named_live e progress.Nowhere f = tt
named_live e (progress.Part more) f = f more refl
named_live e progress.Whole f = tt

digit_live : (radix : Radix) (value b : ℕ) → LiveReferred (with_digit radix value b)
digit_live radix value b = by (nat_lt (digit_value b) (base_of radix)) (nat_lt 0x10_FFFF (value * base_of radix + digit_value b)) refl
  where
    by : (digit large : Bool) → nat_lt 0x10_FFFF (value * base_of radix + digit_value b) ≡ large
        → LiveReferred (cond digit (cond large referred'.Wrong
        (referred'.On (Number radix (value * base_of radix + digit_value b)))) referred'.Wrong)
    by true true l = tt
    by true false l = ltb-false 0x10_FFFF (value * base_of radix + digit_value b) l
    by false large l = tt

number_live : (radix : Radix) (value b : ℕ) → LiveReferred (number_on radix value b)
number_live radix value b = by (b == 59) (is_legal value)
  where
    by : (end legal : Bool) → LiveReferred (cond end (cond legal (referred'.Meant value) referred'.Wrong) (with_digit radix value b))
    by true true = tt
    by true false = tt
    by false legal = digit_live radix value b

one_of_three : 1 < 3
one_of_three = omega arith

one_of_five : 1 < 5
one_of_five = omega arith

started_live : (b : ℕ) → LiveReferred (started b)
started_live b = by (b == 108) (b == 103) (b == 113) (b == 97) (b == 35)
  where
    by : (l g q a h : Bool) → LiveReferred (cond l (referred'.On (Named entity.Less 1)) (cond g (referred'.On (Named entity.Greater 1))
        (cond q (referred'.On (Named entity.Quote 1)) (cond a (referred'.On LetterA) (cond h (referred'.On Hash) referred'.Wrong)))))
    by true g q a h = one_of_three
    by false true q a h = one_of_three
    by false false true a h = one_of_five
    by false false false true h = tt
    by false false false false true = tt
    by false false false false false = tt

two_of_four : 2 < 4
two_of_four = omega arith

two_of_five : 2 < 5
two_of_five = omega arith

lettered_live : (b : ℕ) → LiveReferred (lettered b)
lettered_live b = by (b == 109) (b == 112)
  where
    by : (x y : Bool) → LiveReferred (cond x (referred'.On (Named entity.Ampersand 2))
        (cond y (referred'.On (Named entity.Apostrophe 2)) referred'.Wrong))
    by true y = two_of_four
    by false true = two_of_five
    by false false = tt

hashed_live : (b : ℕ) → LiveReferred (hashed b)
hashed_live b = by (b == 120)
  where
    by : (x : Bool) → LiveReferred (cond x (referred'.On HashX) (with_digit Decimal 0 b))
    by true = tt
    by false = digit_live Decimal 0 b

referred_live : (partial : Partial) (b : ℕ) → LiveReferred (referred partial b)
unfolding referred
referred_live Nothing b = started_live b
referred_live LetterA b = lettered_live b
referred_live (Named e count) b = named_live e (reached_at (entity_text e) count b) (λ more p. part_shorter (entity_text e) count b more p)
referred_live Hash b = hashed_live b
referred_live HashX b = digit_live Hexadecimal 0 b
referred_live (Number radix value) b = number_live radix value b

-- ---- the declaration

target_live : (p : Progress) → LiveDeclared (target_by p)
target_live progress.Nowhere = tt
target_live (progress.Part more) = tt
target_live progress.Whole = tt

begun_live : (i : Item) (p : Progress) → LiveDeclared (begun_by i p)
begun_live i progress.Nowhere = tt
begun_live i (progress.Part more) = tt
begun_live i progress.Whole = tt

item_live : (i : Item) (b : ℕ) → LiveDeclared (item_begun i b)
item_live i b = begun_live i (reached_at (item_text i) 0 b)

blank_live : (spaced : Bool) (b : ℕ) (k : Class) → LiveDeclared (blank_after spaced b k)
blank_live spaced b class.Space = tt
blank_live true b _ = item_live item.Version b
blank_live false b _ = tt

over_live : (encoding : Bool) (b : ℕ) → LiveDeclared (cond encoding (item_begun item.Encoding b) (item_begun item.Standalone b))
over_live true b = item_live item.Encoding b
over_live false b = item_live item.Standalone b

later_live : (i : Item) (b : ℕ) → LiveDeclared (later_item i b)
later_live item.Version b = over_live (b == 101) b
later_live item.Encoding b = item_live item.Standalone b
later_live item.Standalone b = tt

next_live : (i : Item) (spaced : Bool) (b : ℕ) → LiveDeclared (next_item i spaced b)
next_live i true b = later_live i b
next_live i false b = tt

behind_live : (i : Item) (spaced : Bool) (b : ℕ) (k : Class) → LiveDeclared (behind_after i spaced b k)
behind_live i spaced b class.Space = tt
behind_live i spaced b class.Question = tt
behind_live i spaced b _ = next_live i spaced b

word_live : (i : Item) (p : Progress) → LiveDeclared (word_by i p)
word_live i progress.Nowhere = tt
word_live i (progress.Part more) = tt
word_live i progress.Whole = tt

equals_live : (i : Item) (k : Class) → LiveDeclared (equals_after i k)
equals_live i class.Space = tt
equals_live i class.EqualsSign = tt
equals_live i _ = tt

quote_live : (i : Item) (b : ℕ) (k : Class) → IsMark k b → LiveDeclared (quote_after i b k)
quote_live i b class.Space m = tt
quote_live i b class.Apostrophe m = inr m
quote_live i b class.DoubleQuote m = inl m
quote_live i b _ m = tt

said_live : (i : Item) (quote : ℕ) (s : Setting) (p : Progress) → IsQuote quote → LiveDeclared (said_by i quote s p)
said_live i quote s progress.Nowhere q = tt
said_live i quote s (progress.Part more) q = q
said_live i quote s progress.Whole q = q

all_live : (i : Item) (quote b : ℕ) → LiveDeclared (said_all_after i quote b)
all_live i quote b = by (b == quote)
  where
    by : (q : Bool) → LiveDeclared (cond q (declared'.On (heading'.Behind i false)) declared'.Wrong)
    by true = tt
    by false = tt

closed_live : (k : Class) → LiveDeclared (closed_after k)
closed_live class.Greater = tt
closed_live _ = tt

heading_live : (h : Heading) (b : ℕ) → LiveHeading h → LiveDeclared (heading_after h b (class_of b))
unfolding heading_after
heading_live (heading'.Target count) b l = target_live (reached_at (codes "xml") count b)
heading_live (heading'.Blank spaced) b l = blank_live spaced b (class_of b)
heading_live (heading'.Behind i spaced) b l = behind_live i spaced b (class_of b)
heading_live (heading'.Word i count) b l = word_live i (reached_at (item_text i) count b)
heading_live (heading'.Equals i) b l = equals_live i (class_of b)
heading_live (heading'.Quote i) b l = quote_live i b (class_of b) (mark_told b)
heading_live (heading'.Said i quote s count) b l =
    said_live i quote (setting_by s count b) (reached_at (setting_text (setting_by s count b)) count (spelling (setting_by s count b) b)) l
heading_live (heading'.SaidAll i quote) b l = all_live i quote b
heading_live heading'.Close b l = closed_live (class_of b)

-- ---- each state

module _ (outer : List Level) (here : Level) (b : ℕ) (p : PlainAround outer here) where
  wanted_live : (n : ℕ) (m : Mode) → (b ≡ n → LiveMode b outer m) → Live b (content.wanted_after outer here b n m)
  wanted_live n m f = by (b == n) refl
    where
      by : (q : Bool) → (b == n) ≡ q → Live b (cond q (At outer here m) (Refused Syntax))
      by true e = (p, f (eqb-true b n e))
      by false e = tt

  begin_live : (k : Class) → Live b (content.begin_after outer here b k)
  begin_live class.Less = (p, tt)
  begin_live class.Space = (p, tt)
  begin_live class.High = wanted_live 0xEF mode.MarkOne (λ e. e)
  begin_live _ = tt

  first_live : (k : Class) → Live b (content.first_after outer here k)
  first_live class.Less = (p, tt)
  first_live class.Space = (p, tt)
  first_live _ = tt

  below_live : is_first_letter b ≡ true → Live b (content.below outer here b)
  below_live m = by (nat_lt (length outer) 32)
    where
      by : (q : Bool) → Live b (cond q (At outer here (mode.TagName (one_letter b))) (Refused Depth))
      by true = (p, (tt, (m, tt)))
      by false = tt

  starting_live : (at : Place) → is_first_letter b ≡ true → Live b (content.starting_at at outer here b)
  starting_live Before m = below_live m
  starting_live Within m = below_live m
  starting_live Behind m = tt

  declaring_live : (d : Declared) → LiveDeclared d → Live b (content.declaring_by outer here d)
  declaring_live declared'.Wrong l = tt
  declaring_live (declared'.On h) l = (p, l)
  declaring_live declared'.Whole l = (p, tt)

  outside_live : (k : Class) → Live b (content.outside_after outer here k)
  outside_live class.Space = (p, tt)
  outside_live class.Less = (p, tt)
  outside_live _ = tt

  greater_live : (seen : Seen) → Live b (content.greater_after outer here seen b)
  greater_live Two = tt
  greater_live One = (p, tt)
  greater_live Zero = (p, tt)

  within_live : (seen : Seen) (k : Class) → Live b (content.within_after outer here seen b k)
  within_live seen class.Less = (p, tt)
  within_live seen class.Ampersand = (p, tt)
  within_live seen class.Control = tt
  within_live seen class.CloseBracket = (p, tt)
  within_live seen class.Greater = greater_live seen
  within_live seen _ = (p, tt)

  inside_live : (at : Place) (seen : Seen) (k : Class) → Live b (content.inside_at at outer here seen b k)
  inside_live Within seen k = within_live seen k
  inside_live Before seen k = outside_live k
  inside_live Behind seen k = outside_live k

  section_at_live : (at : Place) → Live b (content.section_at at outer here)
  section_at_live Within = (p, tt)
  section_at_live Before = tt
  section_at_live Behind = tt

  exclaimed_live : (k : Class) → Live b (content.exclaimed_after outer here k)
  exclaimed_live class.Hyphen = (p, tt)
  exclaimed_live class.OpenBracket = section_at_live (place_of outer here)
  exclaimed_live _ = tt

  hyphened_live : (k : Class) → Live b (content.hyphened_after outer here k)
  hyphened_live class.Hyphen = (p, tt)
  hyphened_live _ = tt

  comment_more_live : (seen : Seen) (k : Class) → Live b (content.comment_more outer here seen k)
  comment_more_live seen class.Control = tt
  comment_more_live seen class.Hyphen = (p, tt)
  comment_more_live seen _ = (p, tt)

  comment_end_live : (k : Class) → Live b (content.comment_end outer here k)
  comment_end_live class.Greater = (p, tt)
  comment_end_live _ = tt

  comment_live : (seen : Seen) (k : Class) → Live b (content.comment_after outer here seen k)
  comment_live Zero k = comment_more_live One k
  comment_live One k = comment_more_live Two k
  comment_live Two k = comment_end_live k

  bracketed_live : (q : Progress) → Live b (content.bracketed_by outer here q)
  bracketed_live progress.Nowhere = tt
  bracketed_live (progress.Part more) = (p, tt)
  bracketed_live progress.Whole = (p, tt)

  held_live : (body : List ℕ) (seen : Seen) → Live b (content.bracket_held outer here body seen b)
  held_live body Zero = (p, tt)
  held_live body One = (p, tt)
  held_live body Two = (p, tt)

  section_end_live : (body : List ℕ) (seen : Seen) → Live b (content.section_end outer here body seen b)
  section_end_live body Zero = (p, tt)
  section_end_live body One = (p, tt)
  section_end_live body Two = (p, tt)

  section_live : (body : List ℕ) (seen : Seen) (k : Class) → Live b (content.section_after outer here body seen b k)
  section_live body seen class.Control = tt
  section_live body seen class.CloseBracket = held_live body seen
  section_live body seen class.Greater = section_end_live body seen
  section_live body seen _ = (p, tt)

  reference_live : (r : Referred) → LiveReferred r → Live b (content.reference_by outer here r)
  reference_live referred'.Wrong l = tt
  reference_live (referred'.On more) l = (p, l)
  reference_live (referred'.Meant c) l = (p, tt)

  -- ---- in a tag

  slash_live : (o : Option Opening) → Live b (tags.slashed_at outer here o)
  slash_live None = tt
  slash_live (Some o) = (p, tt)

  opened_live : (name : RawName) (o : Option Opening) → IsName name → Live b (tags.opened_at outer here (spelled name) o)
  opened_live name None n = tt
  opened_live name (Some o) n = ((name_plain name n, p), tt)

  attribute_begins_live : (t : Tag) (spaced : Bool) → IsName t.name → is_first_letter b ≡ true
      → Live b (tags.begun_attribute outer here t spaced b)
  attribute_begins_live t false n m = tt
  attribute_begins_live t true n m = by (nat_lt (length t.attributes) 32)
    where
      by : (q : Bool) → Live b (cond q (At outer here (mode.AttributeName t (one_letter b))) (Refused Attributes))
      by true = (p, (n, (tt, (m, tt))))
      by false = tt

  in_tag_live : (t : Tag) (spaced : Bool) (k : Class) → IsName t.name → IsMark k b → Live b (tags.in_tag_after outer here t spaced b k)
  in_tag_live t spaced class.Space n m = (p, n)
  in_tag_live t spaced class.Slash n m = slash_live (opening (scope (here ∷ outer)) t)
  in_tag_live t spaced class.Greater n m = opened_live t.name (opening (scope (here ∷ outer)) t) n
  in_tag_live t spaced class.Letter n m = attribute_begins_live t spaced n m
  in_tag_live t spaced _ n m = tt

  tag_name_live : (name : RawName) (k : Class) (n : Naming) → IsMark k b → Grows name b n → Live b (tags.tag_name_by outer here b k n)
  tag_name_live name k naming.Wrong m w = tt
  tag_name_live name k (naming.On next) m w = (p, w.0)
  tag_name_live name k (naming.Whole full) m w =
      in_tag_live (record { name = full; attributes = [] }) false k (subst (λ x. IsName x) (sym w.0) w.1) m

  equals_sign_live : (t : Tag) (name : RawName) (k : Class) → IsName t.name → Live b (tags.equals_after outer here t name k)
  equals_sign_live t name class.Space n = (p, n)
  equals_sign_live t name class.EqualsSign n = (p, n)
  equals_sign_live t name _ n = tt

  name_ended_live : (t : Tag) (name : RawName) (k : Class) → IsName t.name → Live b (tags.name_ended outer here t name k)
  name_ended_live t name k n = by (is_written name t.attributes)
    where
      by : (q : Bool) → Live b (cond q (Refused Syntax) (tags.equals_after outer here t name k))
      by true = tt
      by false = equals_sign_live t name k n

  attribute_name_live : (t : Tag) (name : RawName) (k : Class) (n : Naming) → IsName t.name → Grows name b n
      → Live b (tags.attribute_name_by outer here t k n)
  attribute_name_live t name k naming.Wrong i w = tt
  attribute_name_live t name k (naming.On next) i w = (p, (i, w.0))
  attribute_name_live t name k (naming.Whole full) i w = name_ended_live t full k i

  value_quote_live : (t : Tag) (name : RawName) (k : Class) → IsName t.name → IsMark k b → Live b (tags.quote_after outer here t name b k)
  value_quote_live t name class.Space n m = (p, n)
  value_quote_live t name class.Apostrophe n m = (p, (n, inr m))
  value_quote_live t name class.DoubleQuote n m = (p, (n, inl m))
  value_quote_live t name _ n m = tt

  value_by_live : (t : Tag) (a : RawAttribute) (quote : ℕ) (k : Class) → IsName t.name → IsQuote quote
      → Live b (tags.value_by outer here t a quote b k)
  value_by_live t a quote class.Less n q = tt
  value_by_live t a quote class.Control n q = tt
  value_by_live t a quote class.Ampersand n q = (p, (n, q, tt))
  value_by_live t a quote class.Space n q = (p, (n, q))
  value_by_live t a quote _ n q = (p, (n, q))

  value_live : (t : Tag) (a : RawAttribute) (quote : ℕ) (k : Class) → IsName t.name → IsQuote quote
      → Live b (tags.value_after outer here t a quote b k)
  value_live t a quote k n q = by (b == quote)
    where
      by : (ends : Bool) → Live b (cond ends (At outer here (mode.InTag (with_attribute t a) false))
          (tags.value_by outer here t a quote b k))
      by true = (p, n)
      by false = value_by_live t a quote k n q

  value_reference_live : (t : Tag) (a : RawAttribute) (quote : ℕ) (r : Referred) → IsName t.name → IsQuote quote → LiveReferred r
      → Live b (tags.value_reference_by outer here t a quote r)
  value_reference_live t a quote referred'.Wrong n q l = tt
  value_reference_live t a quote (referred'.On more) n q l = (p, (n, q, l))
  value_reference_live t a quote (referred'.Meant c) n q l = (p, (n, q))

  slashed_live : (o : Opening) (k : Class) → Live b (tags.slashed_after outer here o k)
  slashed_live o class.Greater = (p, tt)
  slashed_live o _ = tt

no_end_live : (b : ℕ) (inner : List Content) (here : Level) → Live b (content.ending_at (place_outside inner) [] here)
no_end_live b [] here = tt
no_end_live b (c ∷ cs) here = tt

ending_live : (outer : List Level) (here : Level) (b : ℕ) → PlainAround outer here
    → Live b (content.ending_at (place_of outer here) outer here)
ending_live [] here b p = no_end_live b here.content here
ending_live (parent ∷ above) here b p = (p, (tt, p.0))

open_live : (outer : List Level) (here : Level) (b : ℕ) (k : Class) → PlainAround outer here → IsMark k b
    → Live b (content.open_after outer here b k)
open_live outer here b class.Exclamation p m = (p, tt)
open_live outer here b class.Slash p m = ending_live outer here b p
open_live outer here b class.Letter p m = starting_live outer here b p (place_of outer here) m
open_live outer here b _ p m = tt

first_open_live : (outer : List Level) (here : Level) (b : ℕ) (k : Class) → PlainAround outer here → IsMark k b
    → Live b (content.first_open_after outer here b k)
first_open_live outer here b class.Question p m = (p, tt)
first_open_live outer here b k p m = open_live outer here b k p m

end_name_live : (outer : List Level) (here : Level) (name : List ℕ) (b : ℕ) → PlainAround outer here → LiveMode 0 outer (mode.EndName name)
    → Live b (tags.end_name_by outer here (met name b))
end_name_live outer here [] b p l = tt
end_name_live outer here (x ∷ []) b p l = by (x == b)
  where
    by : (q : Bool) → Live b (tags.end_name_by outer here (cond q meeting.Whole meeting.Wrong))
    by true = (p, l.0)
    by false = tt
end_name_live outer here (x ∷ y ∷ more) b p l = by (x == b)
  where
    by : (q : Bool) → Live b (tags.end_name_by outer here (cond q (meeting.On (y ∷ more)) meeting.Wrong))
    by true = (p, (l.0, l.1.1))
    by false = tt

closed_tag_live : (outer : List Level) (here : Level) (b : ℕ) → PlainAround outer here → Live b (tags.closed outer here)
closed_tag_live [] here b p = tt
closed_tag_live (parent ∷ above) here b p = (p.1, tt)

end_space_live : (outer : List Level) (here : Level) (b : ℕ) (k : Class) → PlainAround outer here → LiveMode 0 outer mode.EndSpace
    → Live b (tags.end_space_after outer here k)
end_space_live outer here b class.Space p l = (p, l)
end_space_live outer here b class.Greater p l = closed_tag_live outer here b p
end_space_live outer here b _ p l = tt

act_live : (outer : List Level) (here : Level) (m : Mode) (last b : ℕ) → PlainAround outer here → LiveMode last outer m
    → Live b (act outer here m b)
act_live outer here mode.Begin last b p l = begin_live outer here b p (class_of b)
act_live outer here mode.MarkOne last b p l = wanted_live outer here b p 0xBB mode.MarkTwo (λ e. e)
act_live outer here mode.MarkTwo last b p l = wanted_live outer here b p 0xBF mode.First (λ e. tt)
act_live outer here mode.First last b p l = first_live outer here b p (class_of b)
act_live outer here mode.FirstOpen last b p l = first_open_live outer here b (class_of b) p (mark_told b)
act_live outer here (mode.Declaring h) last b p l = declaring_live outer here b p (heading_after h b (class_of b)) (heading_live h b l)
act_live outer here (mode.Inside seen) last b p l = inside_live outer here b p (place_of outer here) seen (class_of b)
act_live outer here mode.Open last b p l = open_live outer here b (class_of b) p (mark_told b)
act_live outer here mode.Exclaimed last b p l = exclaimed_live outer here b p (class_of b)
act_live outer here mode.Hyphened last b p l = hyphened_live outer here b p (class_of b)
act_live outer here (mode.Comment seen) last b p l = comment_live outer here b p seen (class_of b)
act_live outer here (mode.Bracketed count) last b p l = bracketed_live outer here b p (reached_at (codes "CDATA[") count b)
act_live outer here (mode.Section body seen) last b p l = section_live outer here b p body seen (class_of b)
act_live outer here (mode.Reference partial) last b p l = reference_live outer here b p (referred partial b) (referred_live partial b)
act_live outer here (mode.TagName name) last b p l =
    tag_name_live outer here b p name (class_of b) (grown name b (class_of b)) (mark_told b) (grows name b l)
act_live outer here (mode.InTag t spaced) last b p l = in_tag_live outer here b p t spaced (class_of b) l (mark_told b)
act_live outer here (mode.AttributeName t name) last b p l =
    attribute_name_live outer here b p t name (class_of b) (grown name b (class_of b)) l.0 (grows name b l.1)
act_live outer here (mode.Equals t name) last b p l = equals_sign_live outer here b p t name (class_of b) l
act_live outer here (mode.Quote t name) last b p l = value_quote_live outer here b p t name (class_of b) l (mark_told b)
act_live outer here (mode.Value t a quote) last b p l = value_live outer here b p t a quote (class_of b) l.0 l.1
act_live outer here (mode.ValueReference t a quote partial) last b p l =
    value_reference_live outer here b p t a quote (referred partial b) l.0 l.1 (referred_live partial b)
act_live outer here (mode.Slashed o) last b p l = slashed_live outer here b p o (class_of b)
act_live outer here (mode.EndName name) last b p l = end_name_live outer here name b p l
act_live outer here mode.EndSpace last b p l = end_space_live outer here b (class_of b) p l

pub live_after : (s : State) (last b : ℕ) → Live last s → Live b (state_after s b)
unfolding state_after
live_after (Refused r) last b l = l
live_after (At outer here m) last b l = act_live outer here m last b l.0 l.1
