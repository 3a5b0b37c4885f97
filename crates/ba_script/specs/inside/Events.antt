-- Inside: the events that were read so far.
use Rattle.std.specs.Prelude.{ℕ, Option, None, Some, List, [], ◌∷◌, ◌++◌}
use Rattle.ba_core.specs.declared.protocols.Protocol.TheVariants.{Pc}
use Rattle.ba_world_events.specs.Events.{NumberedEvent}
use Rattle.ba_script_forms.specs.declared.readings.Form.{Form}
use Rattle.ba_script_forms.specs.declared.readings.Form.TheVariants as form
use Rattle.ba_script_forms.specs.declared.readings.Reading.{Reading}
use Rattle.ba_script_forms.specs.declared.readings.Reading.TheVariants as reading
use Rattle.ba_pair.specs.PairPlay.{Numbered}
use Rattle.ba_script.specs.declared.scripts.Script.{Script}
use Rattle.ba_script.specs.declared.scripts.Script.TheVariants.{Pair, World}

-- the event of a pair that a line with this number tells, if it tells one
abbrev pub pair_event_of : Reading → ℕ → List Numbered
pair_event_of (reading.Pair e) number = (number, e) ∷ []
pair_event_of said number = []

-- the event of a world that it tells
abbrev pub world_event_of : Reading → ℕ → List NumberedEvent
world_event_of (reading.World e) number = (number, e) ∷ []
world_event_of said number = []

-- a script with these events before its own
abbrev pub with_events : List Numbered → List NumberedEvent → Script → Script
with_events pairs worlds (Pair protocol later) = Pair protocol (pairs ++ later)
with_events pairs worlds (World nodes later) = World nodes (worlds ++ later)

-- the script of this form that has these events
abbrev pub script_of : Option Form → List Numbered → List NumberedEvent → Script
script_of None pairs worlds = Pair Pc pairs
script_of (Some (form.Pair protocol)) pairs worlds = Pair protocol pairs
script_of (Some (form.World nodes)) pairs worlds = World nodes worlds
