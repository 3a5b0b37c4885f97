-- Inside: runs of bytes that the reader takes at once. None of it is part of what the reader promises.
use Rattle.std.specs.Prelude.{ℕ, Bool, true, false, cond, ◌&&◌, ◌||◌, ◌==◌, not, nat_lt, List, [], ◌∷◌, drop, length}
use Rattle.std.specs.List.{list_all}
use Rattle.ba_xml_words.specs.Classes.{is_first_letter}
use Rattle.ba_xml_names.specs.inside.Levels.{put_all}
use Rattle.ba_xml_words.specs.inside.Names.{with_letters}
use Rattle.ba_xml_words.specs.inside.Remaining.{is_front}
use Rattle.ba_xml_names.specs.inside.Tags.{with_value}
use Rattle.ba_xml_names.specs.declared.levels.Level.{Level}
use Rattle.ba_xml_reader.specs.declared.machine.Scan.{Scan}
use Rattle.ba_xml_words.specs.declared.octets.Octet.{Octet}
use Rattle.ba_xml_words.specs.declared.octets.Octet.TheVariants.{Between}
use Rattle.ba_xml_reader.specs.declared.spans.Puts.{Puts}
use Rattle.ba_xml_reader.specs.declared.spans.Puts.TheVariants as puts'
use Rattle.ba_xml_reader.specs.declared.states.Mode.{Mode}
use Rattle.ba_xml_reader.specs.declared.states.Mode.TheVariants as mode
use Rattle.ba_xml_reader.specs.declared.states.Seen.{Seen}
use Rattle.ba_xml_reader.specs.declared.states.Seen.TheVariants.{Zero}
use Rattle.ba_xml_reader.specs.declared.states.State.{State}
use Rattle.ba_xml_reader.specs.declared.states.State.TheVariants.{Refused, At}

-- a character of ASCII, from the space on, other than "<", ">", "&", "]" and the quotes
abbrev pub is_plain : ℕ → Bool
is_plain b = (not (nat_lt b 32) && nat_lt b 128)
    && not ((b == 60 || b == 62) || ((b == 38 || b == 93) || (b == 34 || b == 39)))

-- a letter of ASCII or "_"
abbrev pub is_letter : ℕ → Bool
is_letter b = nat_lt b 128 && is_first_letter b

abbrev pub is_put : Puts → ℕ → Bool
is_put puts'.Nothing b = false
is_put puts'.Characters b = is_plain b
is_put puts'.Letters b = is_letter b

abbrev pub is_none : List ℕ → Bool
is_none [] = true
is_none (b ∷ bytes) = false

abbrev pub puts_inside : List Level → Seen → Puts
puts_inside (parent ∷ outer) Zero = puts'.Characters
puts_inside outer seen = puts'.Nothing

-- which bytes are put on as they stand: plain ones in an element or in a value, letters in a name
abbrev pub puts_in : List Level → Mode → Puts
puts_in outer (mode.Inside seen) = puts_inside outer seen
puts_in outer (mode.Value tag a quote) = cond (quote == 34 || quote == 39) puts'.Characters puts'.Nothing
puts_in outer (mode.TagName name) = puts'.Letters
puts_in outer (mode.AttributeName tag name) = puts'.Letters
puts_in outer m = puts'.Nothing

-- in an end tag the bytes that have to come are a run, else those that are put on as they stand
abbrev pub is_run_in : List Level → Mode → List ℕ → Bool
is_run_in outer (mode.EndName rest) bytes = list_all is_plain bytes && is_front bytes rest
is_run_in outer m bytes = list_all (is_put (puts_in outer m)) bytes

abbrev pub is_run_at : State → List ℕ → Bool
is_run_at (Refused r) bytes = is_none bytes
is_run_at (At outer here m) bytes = is_run_in outer m bytes

abbrev pub is_run_between : Octet → State → List ℕ → Bool
is_run_between Between state bytes = is_run_at state bytes
is_run_between octet state bytes = is_none bytes

-- there is none behind a carriage return or inside a character
abbrev pub is_run : Scan → List ℕ → Bool
is_run scan bytes = cond scan.returned (is_none bytes) (is_run_between scan.octet scan.state bytes)

-- behind so much of an end tag that these bytes of its name have to come
abbrev pub before_name : List ℕ → Mode
before_name [] = mode.EndSpace
before_name (x ∷ xs) = mode.EndName (x ∷ xs)

-- with these bytes put on
abbrev pub with_span_in : List Level → Level → Mode → List ℕ → State
with_span_in outer here (mode.Inside seen) bytes = At outer (put_all here bytes) (mode.Inside seen)
with_span_in outer here (mode.Value tag a quote) bytes = At outer here (mode.Value tag (with_value a bytes) quote)
with_span_in outer here (mode.TagName name) bytes = At outer here (mode.TagName (with_letters name bytes))
with_span_in outer here (mode.AttributeName tag name) bytes = At outer here (mode.AttributeName tag (with_letters name bytes))
with_span_in outer here (mode.EndName rest) bytes = At outer here (before_name (drop (length bytes) rest))
with_span_in outer here m bytes = At outer here m

abbrev pub with_span_at : State → List ℕ → State
with_span_at (Refused r) bytes = Refused r
with_span_at (At outer here m) bytes = with_span_in outer here m bytes

abbrev pub with_span : Scan → List ℕ → Scan
with_span scan bytes = record { state = with_span_at scan.state bytes; octet = scan.octet; returned = scan.returned }
