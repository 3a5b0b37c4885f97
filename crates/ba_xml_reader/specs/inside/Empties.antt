-- Inside: ends of the tags of empty elements that the reader takes at once. None of it is part of what the reader promises.
use Rattle.std.specs.Prelude.{ℕ, ◌+◌, Bool, true, false, cond, List, ◌∷◌, Option, Some, None}
use Rattle.ba_xml_names.specs.Namespaces.{opening, scope}
use Rattle.ba_xml_names.specs.inside.Levels.{settled, with_child, empty_tree}
use Rattle.ba_xml_names.specs.declared.levels.Level.{Level}
use Rattle.ba_xml_names.specs.declared.levels.Opening.{Opening}
use Rattle.ba_xml_words.specs.declared.faults.Reason.TheVariants.{Namespace}
use Rattle.ba_xml_words.specs.declared.octets.Octet.{Octet}
use Rattle.ba_xml_words.specs.declared.octets.Octet.TheVariants.{Between}
use Rattle.ba_xml_reader.specs.inside.Readings.{Reading}
use Rattle.ba_xml_reader.specs.inside.Readings as reading
use Rattle.ba_xml_reader.specs.declared.machine.Scan.{Scan}
use Rattle.ba_xml_reader.specs.declared.states.Mode.{Mode}
use Rattle.ba_xml_reader.specs.declared.states.Mode.TheVariants as mode
use Rattle.ba_xml_reader.specs.declared.states.Seen.TheVariants.{Zero}
use Rattle.ba_xml_reader.specs.declared.states.State.{State}
use Rattle.ba_xml_reader.specs.declared.states.State.TheVariants.{Refused, At}

-- the next byte stands behind a name or a value in a start tag
abbrev pub is_in_tag_in : Mode → Bool
is_in_tag_in (mode.InTag tag spaced) = true
is_in_tag_in m = false

abbrev pub is_in_tag_at : State → Bool
is_in_tag_at (Refused r) = false
is_in_tag_at (At outer here m) = is_in_tag_in m

abbrev pub is_in_tag_between : Octet → State → Bool
is_in_tag_between Between state = is_in_tag_at state
is_in_tag_between octet state = false

abbrev pub is_in_tag : Scan → Bool
is_in_tag scan = cond scan.returned false (is_in_tag_between scan.octet scan.state)

-- with an element that begins so and has no content
abbrev pub emptied : List Level → Level → Option Opening → State
emptied outer here None = Refused Namespace
emptied outer here (Some o) = At outer (with_child (settled here) (empty_tree o)) (mode.Inside Zero)

abbrev pub with_empty_in : List Level → Level → Mode → State
with_empty_in outer here (mode.InTag tag spaced) = emptied outer here (opening (scope (here ∷ outer)) tag)
with_empty_in outer here m = At outer here m

abbrev pub with_empty_at : State → State
with_empty_at (Refused r) = Refused r
with_empty_at (At outer here m) = with_empty_in outer here m

-- a reading that stands so two bytes on, or was refused at the first
abbrev pub two_on : State → Octet → Bool → ℕ → Reading
two_on (Refused r) octet returned taken = reading.Refused r taken
two_on (At outer here m) octet returned taken =
    reading.Going (record { state = At outer here m; octet = octet; returned = returned }) (taken + 2)

abbrev pub with_empty : Scan → ℕ → Reading
with_empty scan taken = two_on (with_empty_at scan.state) scan.octet scan.returned taken
