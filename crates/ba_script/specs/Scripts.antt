-- Believe: the texts that are scripts, the events that they mean, the first line that isn't one of a script, and how
-- much of a source is taken to read one.
use Rattle.std.specs.Prelude.{◌≡◌, ℕ, ◌+◌, ◌-◌, ◌*◌, ◌<◌, ◌≤◌, ◌⊎◌, Option, None, Some, List, [], ◌∷◌, length, take}
use Rattle.ba_core.specs.declared.protocols.Protocol.{Protocol}
use Rattle.ba_core.specs.declared.protocols.Protocol.TheVariants.{Pc}
use Rattle.ba_world_events.specs.Events.{NumberedEvent}
use Rattle.ba_script_forms.specs.Readings.{IsLine, bad_column}
use Rattle.ba_script_forms.specs.declared.readings.Form.{Form}
use Rattle.ba_script_forms.specs.declared.readings.Form.TheVariants as form
use Rattle.ba_script_forms.specs.declared.readings.Reading.{Reading}
use Rattle.ba_script_forms.specs.declared.readings.Reading.TheVariants as reading
use Rattle.ba_script_forms.specs.declared.readings.TheConstants.{MOST_BYTES}
use Rattle.ba_pair.specs.PairPlay.{Numbered}
use Rattle.ba_ports.specs.Lines.{lines_of, byte_count}
use Rattle.ba_script.specs.declared.lines.TheConstants.{BLOCK}
use Rattle.ba_script.specs.declared.scripts.TheConstants.{MOST_LINES}
use Rattle.ba_script.specs.declared.scripts.Script.{Script}
use Rattle.ba_script.specs.declared.scripts.Script.TheVariants.{Pair, World}
use Rattle.ba_script.specs.declared.scripts.ScriptFault.{ScriptFault}
use Rattle.ba_script.specs.declared.scripts.ScriptFault.TheVariants as fault

-- the form that stands after a line; a script that begins with an event is of a ParticipantCompletion pair
abbrev pub form_after : Option Form → Reading → Option Form
form_after (Some chosen) said = Some chosen
form_after None reading.Nothing = None
form_after None (reading.Opening chosen) = Some chosen
form_after None (reading.Pair e) = Some (form.Pair Pc)
form_after None (reading.World e) = None

-- a script of this form without events; without a form it is of such a pair too
abbrev pub empty_script : Option Form → Script
empty_script None = Pair Pc []
empty_script (Some (form.Pair protocol)) = Pair protocol []
empty_script (Some (form.World nodes)) = World nodes []

-- the event of a line with this number goes before those of a script
abbrev pub onto_script : Reading → ℕ → Script → Script
onto_script (reading.Pair e) number (Pair protocol later) = Pair protocol ((number, e) ∷ later)
onto_script (reading.World e) number (World nodes later) = World nodes ((number, e) ∷ later)
onto_script (reading.Pair e) number (World nodes later) = World nodes later
onto_script (reading.World e) number (Pair protocol later) = Pair protocol later
onto_script reading.Nothing number later = later
onto_script (reading.Opening chosen) number later = later

-- the lines, of which the first has this number, mean this script, where this form was chosen before
abbrev pub MeansScript : Option Form → ℕ → List (List ℕ) → Script → Type 0
MeansScript chosen number [] script = script ≡ empty_script chosen
MeansScript chosen number (line ∷ lines) script =
    (said : Reading) × (later : Script) × IsLine chosen said line
    × (script ≡ onto_script said number later) × MeansScript (form_after chosen said) (number + 1) lines later

-- the first bad line of the lines has this number, and it is bad at this column
abbrev pub IsFirstBadLine : Option Form → ℕ → List (List ℕ) → ℕ → ℕ → Type 0
IsFirstBadLine chosen number [] bad column = ⊥
IsFirstBadLine chosen number (line ∷ lines) bad column =
    ((bad_column chosen line ≡ Some column) × (bad ≡ number))
    ⊎ ((said : Reading) × IsLine chosen said line × IsFirstBadLine (form_after chosen said) (number + 1) lines bad column)

-- the text is this script
pub record IsScript (text : List ℕ) (script : Script) : Type 0 where
  pub few : length (lines_of text) ≤ MOST_LINES
  pub means : MeansScript None 1 (lines_of text) script

-- the text is a script of these events of a pair with this protocol
abbrev pub IsPairScript : List ℕ → Protocol → List Numbered → Type 0
IsPairScript text protocol events = IsScript text (Pair protocol events)

-- the text is a script of these events of a world with so many nodes
abbrev pub IsWorldScript : List ℕ → ℕ → List NumberedEvent → Type 0
IsWorldScript text nodes events = IsScript text (World nodes events)

-- the text is no script: its first bad line has this number, and is bad at this column
pub record IsBadScript (text : List ℕ) (bad column : ℕ) : Type 0 where
  pub early : bad ≤ MOST_LINES
  pub stops : IsFirstBadLine None 1 (lines_of text) bad column

-- the text has lines past the limit, and no line up to it is bad
pub record IsLongScript (text : List ℕ) : Type 0 where
  pub long : MOST_LINES < length (lines_of text)
  pub means : (script : Script) × MeansScript None 1 (take MOST_LINES (lines_of text)) script

-- what a fault says of a text; that a read failed or that memory ran out says nothing of it
abbrev pub ExplainsFault : List ℕ → ScriptFault → Type 0
ExplainsFault text (fault.BadLine number column) = IsBadScript text number column
ExplainsFault text fault.TooManyLines = IsLongScript text
ExplainsFault text fault.Read = Unit {0}
ExplainsFault text fault.Memory = Unit {0}

-- a read is made only where no whole line is at hand and none that is too long, so no more than a block and
-- the longest line are taken past the last line that was used
abbrev pub lookahead : ℕ
lookahead = BLOCK + MOST_BYTES

-- whatever the text, no more is taken: the most lines with their line feeds, and the look-ahead
abbrev pub most_of_script : ℕ
most_of_script = MOST_LINES * (MOST_BYTES + 1) + lookahead

-- no more of this text is taken until this fault is answered: the lines before what is wrong, and the look-ahead
abbrev pub most_until_fault : List ℕ → ScriptFault → ℕ
most_until_fault text (fault.BadLine number column) = byte_count (take (number - 1) (lines_of text)) + lookahead
most_until_fault text fault.TooManyLines = byte_count (take MOST_LINES (lines_of text)) + lookahead
most_until_fault text fault.Read = most_of_script
most_until_fault text fault.Memory = most_of_script
