-- Inside: end tags that the reader takes at once. None of it is part of what the reader promises.
use Rattle.std.specs.Prelude.{◌≡◌, ℕ, ◌+◌, ◌<◌, true, List, [], length, take, drop, slice_index}
use Rattle.std.specs.List.{list_all}
use Rattle.ba_xml_words.specs.inside.Remaining.{is_front}
use Rattle.ba_xml_reader.specs.inside.Spans.{is_plain}
use Rattle.ba_xml_reader.specs.inside.Tags.{closed}
use Rattle.ba_xml_reader.specs.declared.machine.Scan.{Scan}
use Rattle.ba_xml_reader.specs.declared.states.State.{State}
use Rattle.ba_xml_reader.specs.declared.states.State.TheVariants.{Refused, At}

-- the bytes begin with "</", this name, which has so many bytes, and ">"
pub record IsEnding (bytes name : List ℕ) (count : ℕ) : Type 0 where
  pub some : 0 < count
  pub long : count ≡ length name
  pub opens : slice_index bytes 0 ≡ 60
  pub slash : slice_index bytes 1 ≡ 47
  pub plain : list_all is_plain (take count (drop 2 bytes)) ≡ true
  pub same : is_front (take count (drop 2 bytes)) name ≡ true
  pub ends : slice_index bytes (count + 2) ≡ 62
  pub within : count + 2 < length bytes

-- the name of the innermost element
abbrev pub spelled_at : State → List ℕ
spelled_at (Refused r) = []
spelled_at (At outer here m) = here.spelled

-- behind the end of the innermost element
abbrev pub with_ending_at : State → State
with_ending_at (Refused r) = Refused r
with_ending_at (At outer here m) = closed outer here

abbrev pub with_ending : Scan → Scan
with_ending scan = record { state = with_ending_at scan.state; octet = scan.octet; returned = scan.returned }
