-- Inside: beginnings of start tags that the reader takes at once. None of it is part of what the reader promises.
use Rattle.std.specs.Prelude.{◌≡◌, ℕ, ◌+◌, ◌<◌, Bool, true, false, nat_lt, List, [], length, take, drop, slice_index}
use Rattle.std.specs.List.{list_all}
use Rattle.ba_xml_names.specs.declared.tags.Tag.{Tag}
use Rattle.ba_xml_reader.specs.inside.Pairs.{plain_name}
use Rattle.ba_xml_reader.specs.inside.Spans.{is_letter}
use Rattle.ba_xml_reader.specs.declared.machine.Scan.{Scan}
use Rattle.ba_xml_reader.specs.declared.states.Mode.TheVariants as mode
use Rattle.ba_xml_reader.specs.declared.states.State.{State}
use Rattle.ba_xml_reader.specs.declared.states.State.TheVariants.{Refused, At}

-- the bytes begin with "<", a name of so many letters, and a space
pub record IsBeginning (bytes : List ℕ) (name : ℕ) : Type 0 where
  pub some : 0 < name
  pub opens : slice_index bytes 0 ≡ 60
  pub letters : list_all is_letter (take name (drop 1 bytes)) ≡ true
  pub ends : slice_index bytes (name + 1) ≡ 32
  pub within : name + 1 < length bytes

-- one more element may be open
abbrev pub has_level_at : State → Bool
has_level_at (Refused r) = false
has_level_at (At outer here m) = nat_lt (length outer) 32

abbrev pub plain_tag : List ℕ → Tag
plain_tag name = record { name = plain_name name; attributes = [] }

-- in a start tag with this name
abbrev pub with_beginning_at : State → List ℕ → State
with_beginning_at (Refused r) name = Refused r
with_beginning_at (At outer here m) name = At outer here (mode.InTag (plain_tag name) true)

abbrev pub with_beginning : Scan → List ℕ → Scan
with_beginning scan name = record { state = with_beginning_at scan.state name; octet = scan.octet; returned = scan.returned }
