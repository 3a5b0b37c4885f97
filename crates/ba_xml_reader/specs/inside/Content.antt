-- Inside: what a byte does between tags.
use Rattle.std.specs.Prelude.{ℕ, List, [], ◌∷◌, ◌++◌, length, cond, ◌==◌, nat_lt, codes, encode_utf8}
use Rattle.ba_xml_names.specs.inside.Levels.{put, put_all, place_of}
use Rattle.ba_xml_words.specs.inside.Names.{one_letter}
use Rattle.ba_xml_words.specs.inside.Headings.{heading_after}
use Rattle.ba_xml_words.specs.inside.References.{referred}
use Rattle.ba_xml_words.specs.inside.Words.{reached_at}
use Rattle.ba_xml_words.specs.declared.classes.Class.{Class}
use Rattle.ba_xml_words.specs.declared.classes.Class.TheVariants as class
use Rattle.ba_xml_words.specs.declared.faults.Reason.TheVariants.{Syntax, Depth}
use Rattle.ba_xml_words.specs.declared.headings.Declared.{Declared}
use Rattle.ba_xml_words.specs.declared.headings.Declared.TheVariants as declared'
use Rattle.ba_xml_names.specs.declared.levels.Level.{Level}
use Rattle.ba_xml_names.specs.declared.levels.Place.{Place}
use Rattle.ba_xml_names.specs.declared.levels.Place.TheVariants.{Before, Within, Behind}
use Rattle.ba_xml_words.specs.declared.references.Partial.{Partial}
use Rattle.ba_xml_words.specs.declared.references.Partial.TheVariants.{Nothing}
use Rattle.ba_xml_words.specs.declared.references.Referred.{Referred}
use Rattle.ba_xml_words.specs.declared.references.Referred.TheVariants as referred'
use Rattle.ba_xml_words.specs.declared.headings.Heading.{Heading}
use Rattle.ba_xml_words.specs.declared.headings.Heading.TheVariants.{Target}
use Rattle.ba_xml_reader.specs.declared.states.Seen.{Seen}
use Rattle.ba_xml_reader.specs.declared.states.Seen.TheVariants.{Zero, One, Two}
use Rattle.ba_xml_reader.specs.declared.states.Mode.{Mode}
use Rattle.ba_xml_reader.specs.declared.states.Mode.TheVariants as mode
use Rattle.ba_xml_reader.specs.declared.states.State.{State}
use Rattle.ba_xml_reader.specs.declared.states.State.TheVariants.{Refused, At}
use Rattle.ba_xml_words.specs.declared.words.Progress.{Progress}
use Rattle.ba_xml_words.specs.declared.words.Progress.TheVariants as progress

abbrev pub wanted_after : List Level → Level → ℕ → ℕ → Mode → State
wanted_after outer here b wanted m = cond (b == wanted) (At outer here m) (Refused Syntax)

abbrev pub begin_after : List Level → Level → ℕ → Class → State
begin_after outer here b class.Less = At outer here mode.FirstOpen
begin_after outer here b class.Space = At outer here (mode.Inside Zero)
begin_after outer here b class.High = wanted_after outer here b 0xEF mode.MarkOne
begin_after outer here b _ = Refused Syntax

abbrev pub mark_one_after : List Level → Level → ℕ → State
mark_one_after outer here b = wanted_after outer here b 0xBB mode.MarkTwo

abbrev pub mark_two_after : List Level → Level → ℕ → State
mark_two_after outer here b = wanted_after outer here b 0xBF mode.First

abbrev pub first_after : List Level → Level → Class → State
first_after outer here class.Less = At outer here mode.FirstOpen
first_after outer here class.Space = At outer here (mode.Inside Zero)
first_after outer here _ = Refused Syntax

abbrev pub ending_at : Place → List Level → Level → State
ending_at Within outer here = At outer here (mode.EndName here.spelled)
ending_at Before outer here = Refused Syntax
ending_at Behind outer here = Refused Syntax

abbrev pub below : List Level → Level → ℕ → State
below outer here b = cond (nat_lt (length outer) 32) (At outer here (mode.TagName (one_letter b))) (Refused Depth)

abbrev pub starting_at : Place → List Level → Level → ℕ → State
starting_at Behind outer here b = Refused Syntax
starting_at Before outer here b = below outer here b
starting_at Within outer here b = below outer here b

abbrev pub open_after : List Level → Level → ℕ → Class → State
open_after outer here b class.Exclamation = At outer here mode.Exclaimed
open_after outer here b class.Slash = ending_at (place_of outer here) outer here
open_after outer here b class.Letter = starting_at (place_of outer here) outer here b
open_after outer here b _ = Refused Syntax

abbrev pub first_open_after : List Level → Level → ℕ → Class → State
first_open_after outer here b class.Question = At outer here (mode.Declaring (Target 0))
first_open_after outer here b k = open_after outer here b k

abbrev pub declaring_by : List Level → Level → Declared → State
declaring_by outer here declared'.Wrong = Refused Syntax
declaring_by outer here (declared'.On more) = At outer here (mode.Declaring more)
declaring_by outer here declared'.Whole = At outer here (mode.Inside Zero)

abbrev pub declaring_after : List Level → Level → Heading → ℕ → Class → State
declaring_after outer here heading b k = declaring_by outer here (heading_after heading b k)

abbrev pub outside_after : List Level → Level → Class → State
outside_after outer here class.Space = At outer here (mode.Inside Zero)
outside_after outer here class.Less = At outer here mode.Open
outside_after outer here _ = Refused Syntax

-- one more of the marks; of more than two the last two count
abbrev pub one_more : Seen → Seen
one_more Zero = One
one_more One = Two
one_more Two = Two

abbrev pub greater_after : List Level → Level → Seen → ℕ → State
greater_after outer here Two b = Refused Syntax
greater_after outer here One b = At outer (put here b) (mode.Inside Zero)
greater_after outer here Zero b = At outer (put here b) (mode.Inside Zero)

abbrev pub within_after : List Level → Level → Seen → ℕ → Class → State
within_after outer here seen b class.Less = At outer here mode.Open
within_after outer here seen b class.Ampersand = At outer here (mode.Reference Nothing)
within_after outer here seen b class.Control = Refused Syntax
within_after outer here seen b class.CloseBracket = At outer (put here b) (mode.Inside (one_more seen))
within_after outer here seen b class.Greater = greater_after outer here seen b
within_after outer here seen b _ = At outer (put here b) (mode.Inside Zero)

abbrev pub inside_at : Place → List Level → Level → Seen → ℕ → Class → State
inside_at Within outer here seen b k = within_after outer here seen b k
inside_at Before outer here seen b k = outside_after outer here k
inside_at Behind outer here seen b k = outside_after outer here k

abbrev pub inside_after : List Level → Level → Seen → ℕ → Class → State
inside_after outer here seen b k = inside_at (place_of outer here) outer here seen b k

abbrev pub section_at : Place → List Level → Level → State
section_at Within outer here = At outer here (mode.Bracketed 0)
section_at Before outer here = Refused Syntax
section_at Behind outer here = Refused Syntax

abbrev pub exclaimed_after : List Level → Level → Class → State
exclaimed_after outer here class.Hyphen = At outer here mode.Hyphened
exclaimed_after outer here class.OpenBracket = section_at (place_of outer here) outer here
exclaimed_after outer here _ = Refused Syntax

abbrev pub hyphened_after : List Level → Level → Class → State
hyphened_after outer here class.Hyphen = At outer here (mode.Comment Zero)
hyphened_after outer here _ = Refused Syntax

abbrev pub comment_more : List Level → Level → Seen → Class → State
comment_more outer here hyphens class.Control = Refused Syntax
comment_more outer here hyphens class.Hyphen = At outer here (mode.Comment hyphens)
comment_more outer here hyphens _ = At outer here (mode.Comment Zero)

abbrev pub comment_end : List Level → Level → Class → State
comment_end outer here class.Greater = At outer here (mode.Inside Zero)
comment_end outer here _ = Refused Syntax

abbrev pub comment_after : List Level → Level → Seen → Class → State
comment_after outer here Zero k = comment_more outer here One k
comment_after outer here One k = comment_more outer here Two k
comment_after outer here Two k = comment_end outer here k

abbrev pub bracketed_by : List Level → Level → Progress → State
bracketed_by outer here progress.Nowhere = Refused Syntax
bracketed_by outer here (progress.Part more) = At outer here (mode.Bracketed more)
bracketed_by outer here progress.Whole = At outer here (mode.Section [] Zero)

abbrev pub bracketed_after : List Level → Level → ℕ → ℕ → State
bracketed_after outer here count b = bracketed_by outer here (reached_at (codes "CDATA[") count b)

-- the brackets that are held back
abbrev pub held : Seen → List ℕ
held Zero = []
held One = codes "]"
held Two = codes "]]"

abbrev pub section_more : List Level → Level → List ℕ → Seen → ℕ → State
section_more outer here body seen b = At outer here (mode.Section ((body ++ held seen) ++ b ∷ []) Zero)

abbrev pub bracket_held : List Level → Level → List ℕ → Seen → ℕ → State
bracket_held outer here body Zero b = At outer here (mode.Section body One)
bracket_held outer here body One b = At outer here (mode.Section body Two)
bracket_held outer here body Two b = At outer here (mode.Section (body ++ b ∷ []) Two)

abbrev pub section_end : List Level → Level → List ℕ → Seen → ℕ → State
section_end outer here body Two b = At outer (put_all here body) (mode.Inside Zero)
section_end outer here body One b = section_more outer here body One b
section_end outer here body Zero b = section_more outer here body Zero b

abbrev pub section_after : List Level → Level → List ℕ → Seen → ℕ → Class → State
section_after outer here body seen b class.Control = Refused Syntax
section_after outer here body seen b class.CloseBracket = bracket_held outer here body seen b
section_after outer here body seen b class.Greater = section_end outer here body seen b
section_after outer here body seen b _ = section_more outer here body seen b

abbrev pub reference_by : List Level → Level → Referred → State
reference_by outer here referred'.Wrong = Refused Syntax
reference_by outer here (referred'.On more) = At outer here (mode.Reference more)
reference_by outer here (referred'.Meant c) = At outer (put_all here (encode_utf8 c)) (mode.Inside Zero)

abbrev pub reference_after : List Level → Level → Partial → ℕ → State
reference_after outer here partial b = reference_by outer here (referred partial b)
