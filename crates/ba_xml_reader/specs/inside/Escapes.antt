-- Inside: references among characters that the reader takes at once. None of it is part of what the reader promises.
use Rattle.std.specs.Prelude.{ℕ, Bool, true, false, cond, List, ◌∷◌, codes}
use Rattle.ba_xml_names.specs.inside.Levels.{put}
use Rattle.ba_xml_names.specs.declared.levels.Level.{Level}
use Rattle.ba_xml_words.specs.declared.octets.Octet.{Octet}
use Rattle.ba_xml_words.specs.declared.octets.Octet.TheVariants.{Between}
use Rattle.ba_xml_reader.specs.declared.escapes.Escape.{Escape}
use Rattle.ba_xml_reader.specs.declared.escapes.Escape.TheVariants.{Less, Greater, Ampersand}
use Rattle.ba_xml_reader.specs.declared.machine.Scan.{Scan}
use Rattle.ba_xml_reader.specs.declared.states.Mode.{Mode}
use Rattle.ba_xml_reader.specs.declared.states.Mode.TheVariants as mode
use Rattle.ba_xml_reader.specs.declared.states.Seen.TheVariants.{Zero}
use Rattle.ba_xml_reader.specs.declared.states.State.{State}
use Rattle.ba_xml_reader.specs.declared.states.State.TheVariants.{Refused, At}

abbrev pub escape_text : Escape → List ℕ
escape_text Less = codes "&lt;"
escape_text Greater = codes "&gt;"
escape_text Ampersand = codes "&amp;"

-- the byte that it means
abbrev pub escaped : Escape → ℕ
escaped Less = 60
escaped Greater = 62
escaped Ampersand = 38

-- the next byte stands among characters of an element
abbrev pub is_in_text_in : List Level → Mode → Bool
is_in_text_in (parent ∷ outer) (mode.Inside seen) = true
is_in_text_in outer m = false

abbrev pub is_in_text_at : State → Bool
is_in_text_at (Refused r) = false
is_in_text_at (At outer here m) = is_in_text_in outer m

abbrev pub is_in_text_between : Octet → State → Bool
is_in_text_between Between state = is_in_text_at state
is_in_text_between octet state = false

abbrev pub is_in_text : Scan → Bool
is_in_text scan = cond scan.returned false (is_in_text_between scan.octet scan.state)

-- with the byte that the reference means
abbrev pub with_byte_in : List Level → Level → Mode → ℕ → State
with_byte_in outer here (mode.Inside seen) b = At outer (put here b) (mode.Inside Zero)
with_byte_in outer here m b = At outer here m

abbrev pub with_byte_at : State → ℕ → State
with_byte_at (Refused r) b = Refused r
with_byte_at (At outer here m) b = with_byte_in outer here m b

abbrev pub with_meant : Scan → ℕ → Scan
with_meant scan b = record { state = with_byte_at scan.state b; octet = scan.octet; returned = scan.returned }
