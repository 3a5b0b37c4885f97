-- Inside: attributes that the reader takes at once. None of it is part of what the reader promises.
use Rattle.std.specs.Prelude.{◌≡◌, ℕ, ◌+◌, ◌<◌, Bool, true, false, cond, ◌&&◌, ◌||◌, ◌==◌, not, nat_lt, List, [], Option, Some, None}
use Rattle.std.specs.Prelude.{length, take, drop, slice_index}
use Rattle.std.specs.List.{list_all}
use Rattle.ba_xml_names.specs.inside.Tags.{with_attribute}
use Rattle.ba_xml_names.specs.declared.tags.Tag.{Tag}
use Rattle.ba_xml_words.specs.inside.Names.{is_written}
use Rattle.ba_xml_words.specs.declared.names.RawName.{RawName}
use Rattle.ba_xml_words.specs.declared.names.RawAttribute.{RawAttribute}
use Rattle.ba_xml_words.specs.declared.octets.Octet.{Octet}
use Rattle.ba_xml_words.specs.declared.octets.Octet.TheVariants.{Between}
use Rattle.ba_xml_reader.specs.inside.Spans.{is_plain, is_letter}
use Rattle.ba_xml_reader.specs.declared.machine.Scan.{Scan}
use Rattle.ba_xml_reader.specs.declared.pairs.Pair.{Pair}
use Rattle.ba_xml_reader.specs.declared.states.Mode.{Mode}
use Rattle.ba_xml_reader.specs.declared.states.Mode.TheVariants as mode
use Rattle.ba_xml_reader.specs.declared.states.State.{State}
use Rattle.ba_xml_reader.specs.declared.states.State.TheVariants.{Refused, At}

abbrev pub plain_name : List ℕ → RawName
plain_name local = record { prefix = []; local = local }

abbrev pub plain_attribute : List ℕ → List ℕ → RawAttribute
plain_attribute name value = record { name = plain_name name; value = value }

-- the bytes begin with a name of letters, "=", and plain characters in quotes
pub record IsPair (bytes : List ℕ) (pair : Pair) : Type 0 where
  pub some : 0 < pair.name
  pub letters : list_all is_letter (take pair.name bytes) ≡ true
  pub equals : slice_index bytes pair.name ≡ 61
  pub quote : (pair.quote == 34 || pair.quote == 39) ≡ true
  pub opens : slice_index bytes (pair.name + 1) ≡ pair.quote
  pub plain : list_all is_plain (take pair.value (drop (pair.name + 2) bytes)) ≡ true
  pub closes : slice_index bytes (pair.name + 2 + pair.value) ≡ pair.quote
  pub within : pair.name + 2 + pair.value < length bytes

-- the start tag in which an attribute may begin with the next byte
abbrev pub waiting_in : Mode → Option Tag
waiting_in (mode.InTag tag true) = Some tag
waiting_in m = None

abbrev pub waiting_at : State → Option Tag
waiting_at (Refused r) = None
waiting_at (At outer here m) = waiting_in m

abbrev pub waiting_between : Octet → State → Option Tag
waiting_between Between state = waiting_at state
waiting_between octet state = None

abbrev pub waiting : Scan → Option Tag
waiting scan = cond scan.returned None (waiting_between scan.octet scan.state)

-- there is room for an attribute of this name
abbrev pub has_room : Option Tag → List ℕ → Bool
has_room None name = false
has_room (Some tag) name = nat_lt (length tag.attributes) 32 && not (is_written (plain_name name) tag.attributes)

-- with this attribute
abbrev pub with_pair_in : Mode → List ℕ → List ℕ → Mode
with_pair_in (mode.InTag tag spaced) name value = mode.InTag (with_attribute tag (plain_attribute name value)) false
with_pair_in m name value = m

abbrev pub with_pair_at : State → List ℕ → List ℕ → State
with_pair_at (Refused r) name value = Refused r
with_pair_at (At outer here m) name value = At outer here (with_pair_in m name value)

abbrev pub with_pair : Scan → List ℕ → List ℕ → Scan
with_pair scan name value = record { state = with_pair_at scan.state name value; octet = scan.octet; returned = scan.returned }
