-- Inside: the answer to bytes by a machine that takes them one by one. The laws of `ba_xml_places` say which it is, without the machine.
use Rattle.std.specs.Prelude.{ℕ, ◌+◌, List, [], ◌∷◌, Bool, false, cond, ◌==◌, ◌&&◌, nat_lt, Option, Some, None, Result, Ok, Err}
use Rattle.ba_tree.specs.declared.trees.Content.{Content, out-Content}
use Rattle.ba_tree.specs.declared.trees.Content.TheOpen.{Content-F}
use Rattle.ba_tree.specs.declared.trees.Tree.{Tree}
use Rattle.ba_xml_words.specs.Classes.{class_of}
use Rattle.ba_xml_reader.specs.inside.Content.{begin_after, mark_one_after, mark_two_after, first_after, first_open_after, declaring_after}
use Rattle.ba_xml_reader.specs.inside.Content.{inside_after, open_after, exclaimed_after, hyphened_after, comment_after, bracketed_after}
use Rattle.ba_xml_reader.specs.inside.Content.{section_after, reference_after}
use Rattle.ba_xml_names.specs.Namespaces.{first_scope}
use Rattle.ba_xml_words.specs.inside.Octets.{octet_after}
use Rattle.ba_xml_reader.specs.inside.Tags.{tag_name_after, in_tag_after, attribute_name_after, equals_after, quote_after, value_after}
use Rattle.ba_xml_reader.specs.inside.Tags.{value_reference_after, slashed_after, end_name_after, end_space_after}
use Rattle.ba_xml_words.specs.declared.classes.Class.{Class}
use Rattle.ba_xml_words.specs.declared.faults.Reason.{Reason}
use Rattle.ba_xml_words.specs.declared.faults.Reason.TheVariants as reason
use Rattle.ba_xml_words.specs.declared.faults.XmlFault.{XmlFault}
use Rattle.ba_xml_words.specs.declared.faults.XmlFault.TheVariants as fault
use Rattle.ba_xml_names.specs.declared.levels.Level.{Level}
use Rattle.ba_xml_reader.specs.declared.machine.Refusal.{Refusal}
use Rattle.ba_xml_reader.specs.declared.machine.Scan.{Scan}
use Rattle.ba_xml_reader.specs.inside.Turns.{Turn}
use Rattle.ba_xml_reader.specs.inside.Turns as turn
use Rattle.ba_xml_reader.specs.inside.Readings.{Reading}
use Rattle.ba_xml_reader.specs.inside.Readings as reading
use Rattle.ba_xml_words.specs.declared.octets.Octet.{Octet}
use Rattle.ba_xml_words.specs.declared.octets.Octet.TheVariants.{Between}
use Rattle.ba_xml_words.specs.declared.octets.Decoding.{Decoding}
use Rattle.ba_xml_words.specs.declared.octets.Decoding.TheVariants as decoding
use Rattle.ba_xml_reader.specs.declared.states.Mode.{Mode}
use Rattle.ba_xml_reader.specs.declared.states.Mode.TheVariants as mode
use Rattle.ba_xml_reader.specs.declared.states.State.{State}
use Rattle.ba_xml_reader.specs.declared.states.State.TheVariants.{Refused, At}

-- the level outside of the root
abbrev pub document : Level
document = record {
  spelled = [];
  name = record { space = []; local = [] };
  attributes = [];
  declarations = first_scope;
  content = [];
  text = [];
}

abbrev pub start : Scan
start = record { state = At [] document mode.Begin; octet = Between; returned = false }

-- what a byte of this class does
abbrev pub act_by : List Level → Level → Mode → ℕ → Class → State
act_by outer here mode.Begin b k = begin_after outer here b k
act_by outer here mode.MarkOne b k = mark_one_after outer here b
act_by outer here mode.MarkTwo b k = mark_two_after outer here b
act_by outer here mode.First b k = first_after outer here k
act_by outer here mode.FirstOpen b k = first_open_after outer here b k
act_by outer here (mode.Declaring heading) b k = declaring_after outer here heading b k
act_by outer here (mode.Inside seen) b k = inside_after outer here seen b k
act_by outer here mode.Open b k = open_after outer here b k
act_by outer here mode.Exclaimed b k = exclaimed_after outer here k
act_by outer here mode.Hyphened b k = hyphened_after outer here k
act_by outer here (mode.Comment seen) b k = comment_after outer here seen k
act_by outer here (mode.Bracketed count) b k = bracketed_after outer here count b
act_by outer here (mode.Section body seen) b k = section_after outer here body seen b k
act_by outer here (mode.Reference partial) b k = reference_after outer here partial b
act_by outer here (mode.TagName name) b k = tag_name_after outer here name b k
act_by outer here (mode.InTag tag spaced) b k = in_tag_after outer here tag spaced b k
act_by outer here (mode.AttributeName tag name) b k = attribute_name_after outer here tag name b k
act_by outer here (mode.Equals tag name) b k = equals_after outer here tag name k
act_by outer here (mode.Quote tag name) b k = quote_after outer here tag name b k
act_by outer here (mode.Value tag a quote) b k = value_after outer here tag a quote b k
act_by outer here (mode.ValueReference tag a quote partial) b k = value_reference_after outer here tag a quote partial b
act_by outer here (mode.Slashed o) b k = slashed_after outer here o k
act_by outer here (mode.EndName rest) b k = end_name_after outer here rest b
act_by outer here mode.EndSpace b k = end_space_after outer here k

abbrev pub act : List Level → Level → Mode → ℕ → State
act outer here m b = act_by outer here m b (class_of b)

unfoldable pub state_after : State → ℕ → State
state_after (Refused r) b = Refused r
state_after (At outer here m) b = act outer here m b

-- the bytes one after another, where each end of a line is one line feed already
unfoldable pub states : State → List ℕ → State
states state [] = state
states state (b ∷ bs) = states (state_after state b) bs

-- a carriage return counts as a line feed, and a line feed behind one as nothing
abbrev pub line_end : ℕ → ℕ
line_end b = cond (b == 13) 10 b

abbrev pub unless_returned : State → Bool → ℕ → State
unless_returned state returned b = cond (returned && b == 10) state (state_after state (line_end b))

abbrev pub turned_by : State → Octet → ℕ → Turn
turned_by (Refused r) octet b = turn.Refused r
turned_by (At outer here m) octet b = turn.On (record { state = At outer here m; octet = octet; returned = b == 13 })

-- why the state goes on to no text, if it does not
abbrev pub refusal_in : State → Option Reason
refusal_in (Refused r) = Some r
refusal_in (At outer here m) = None

-- a turn: the scan behind the byte, or why no text goes on so
abbrev pub turned_as : Scan → Option Reason → Turn
turned_as scan None = turn.On scan
turned_as scan (Some r) = turn.Refused r

abbrev pub turned_from : Scan → ℕ → Decoding → Turn
turned_from scan b (decoding.Broken r) = turn.Refused r
turned_from scan b (decoding.At octet) = turned_by (unless_returned scan.state scan.returned b) octet b

abbrev pub turned : Scan → ℕ → Turn
turned scan b = turned_from scan b (octet_after scan.octet b)

-- at one place the reason with the lowest number is told
abbrev pub reason_past : Reason → Reason
reason_past reason.Attributes = reason.Size
reason_past r = r

abbrev pub reason_at : ℕ → Reason → Reason
reason_at taken r = cond (nat_lt taken 262144) r (reason_past r)

abbrev pub counted : ℕ → Turn → Reading
counted taken (turn.Refused r) = reading.Refused (reason_at taken r) taken
counted taken (turn.On scan) = cond (nat_lt taken 262144) (reading.Going scan (taken + 1)) (reading.Refused reason.Size taken)

-- a reading behind so many bytes, or its refusal
abbrev pub reading_at : Scan → ℕ → Option Refusal → Reading
reading_at scan taken None = reading.Going scan taken
reading_at scan taken (Some refusal) = reading.Refused refusal.reason refusal.place

unfoldable pub reading_after : Reading → ℕ → Reading
reading_after (reading.Refused r place) b = reading.Refused r place
reading_after (reading.Going scan taken) b = counted taken (turned scan b)

-- the bytes one after another
unfoldable pub run : Reading → List ℕ → Reading
run r [] = r
run r (b ∷ bs) = run (reading_after r b) bs

abbrev pub child_by : Content-F Content Tree → Option Tree
child_by (Content-F.Text bytes) = None
child_by (Content-F.Child tree) = Some tree

abbrev pub child_of : Content → Option Tree
child_of item = child_by (out-Content item)

abbrev pub root_of : List Content → Option Tree
root_of [] = None
root_of (item ∷ []) = child_of item
root_of (item ∷ other ∷ more) = None

-- the tree of a text that ends here
abbrev pub ended : List Level → Level → Mode → Option Tree
ended [] here (mode.Inside seen) = root_of here.content
ended outer here _ = None

abbrev pub ended_at : State → Option Tree
ended_at (Refused r) = None
ended_at (At outer here m) = ended outer here m

abbrev pub finished : Scan → Option Tree
finished scan = ended_at scan.state

abbrev pub answer_by : ℕ → Option Tree → Result Tree XmlFault
answer_by taken None = Err (fault.At reason.Truncated taken)
answer_by taken (Some tree) = Ok tree

abbrev pub answer_of : Reading → Result Tree XmlFault
answer_of (reading.Refused r place) = Err (fault.At r place)
answer_of (reading.Going scan taken) = answer_by taken (finished scan)

-- what these bytes are: a tree's text, or refused for a reason at a place
abbrev pub xml_answer : List ℕ → Result Tree XmlFault
xml_answer bytes = answer_of (run (reading.Going start 0) bytes)
