-- Inside: where a reading stands once a byte is taken.
use Rattle.std.specs.Prelude.{◌≡◌, List, Option, Some, None}
use Rattle.ba_xml_names.specs.declared.levels.Level.{Level}
use Rattle.ba_xml_words.specs.declared.faults.Reason.{Reason}
use Rattle.ba_xml_reader.specs.declared.states.Mode.{Mode}
use Rattle.ba_xml_reader.specs.declared.states.State.{State}
use Rattle.ba_xml_reader.specs.declared.states.State.TheVariants.{Refused, At}

-- so much of a piece is read in these elements, unless no text begins so
abbrev pub stands : List Level → Level → Mode → Option Reason → State
stands outer here m None = At outer here m
stands outer here m (Some r) = Refused r

-- the byte leads there, whatever elements are open
abbrev pub LeadsTo : Mode → Option Reason → (List Level → Level → State) → Type 0
LeadsTo m refusal after = (outer : List Level) (here : Level) → stands outer here m refusal ≡ after outer here
