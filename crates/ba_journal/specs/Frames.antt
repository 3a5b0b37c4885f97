-- Believe: the file of a journal, version 1: a header of 16 bytes, frames one after another, and a last gate.
use Rattle.std.specs.Prelude.{◌≡◌, ℕ, ◌-◌, ◌+◌, ◌<◌, ◌≢◌, ◌⊎◌, Bool, true, false, not, ◌&&◌, ◌||◌, if◌then◌else◌, nat_eq, nat_lt, List, []}
use Rattle.std.specs.Prelude.{◌∷◌, ◌++◌, length, take, drop, slice_index, map, Option, None, Some, Ok, Err, codes}
use Rattle.std.specs.Int.{w32, from_le_bytes}
use Rattle.ba_record.specs.Reading.{reading}
use Rattle.ba_record.specs.declared.records.Record.{Record}
use Rattle.ba_record.specs.declared.records.RecordFault.{RecordFault}
use Rattle.ba_record.specs.declared.records.RecordFault.TheVariants as fault

-- a byte that is set last when a journal is made, the name, the version in two bytes with the lowest first, and
-- four bytes that are 0
abbrev pub header : List ℕ
header = 1 ∷ (codes "BAJOURNAL" ++ 1 ∷ 0 ∷ 0 ∷ 0 ∷ 0 ∷ 0 ∷ [])

-- a file that no journal was made in, or whose making broke off: it doesn't reach its first gate, or ends with it
-- and has another first byte
abbrev pub is_fresh : List ℕ → Bool
is_fresh file = nat_lt (length file) 17 || (nat_eq (length file) 17 && not (nat_eq (slice_index file 0) 1))

-- a payload of this size, and the bytes behind it, of which the next gate is the first
abbrev pub payload_of : ℕ → List ℕ → Option (List ℕ × List ℕ)
payload_of size bytes = if nat_lt size (length bytes) then Some (take size bytes, drop size bytes) else None

-- A frame is a gate, the payload's size in four bytes with the lowest first, and the payload. It counts where its
-- gate is 1 and it lies in the file with the next gate: its payload, and the bytes from the next gate on.
abbrev pub frame_of : List ℕ → Option (List ℕ × List ℕ)
frame_of [] = None
frame_of (gate ∷ bytes) = if nat_eq gate 1 then payload_of (from_le_bytes w32 (take 4 bytes)) (drop 4 bytes) else None

-- from this gate on stand frames that count, with these payloads, and then these bytes
abbrev pub Leads : List ℕ → List (List ℕ) → List ℕ → Type 0
Leads bytes [] rest = rest ≡ bytes
Leads bytes (payload ∷ payloads) rest = (next : List ℕ) × (frame_of bytes ≡ Some (payload, next)) × Leads next payloads rest

-- the payloads are read as these records
abbrev pub AreRecords : List (List ℕ) → List Record → Type 0
AreRecords payloads records = map reading payloads ≡ map Ok records

-- a journal was made in the file, and it holds these records, up to a gate whose frame doesn't count; from that
-- gate on it has these bytes
pub record Holds (file : List ℕ) (records : List Record) (rest : List ℕ) : Type 0 where
  pub made : is_fresh file ≡ false
  pub headed : take 16 file ≡ header
  pub payloads : List (List ℕ)
  pub frames : Leads (drop 16 file) payloads rest
  pub stops : frame_of rest ≡ None
  pub read : AreRecords payloads records

-- the file stands for these records
abbrev pub StandsFor : List ℕ → List Record → Type 0
StandsFor file records = ((is_fresh file ≡ true) × (records ≡ [])) ⊎ ((rest : List ℕ) × Holds file records rest)

-- the header's byte at this place is the first that is another
pub record IsForeign (file : List ℕ) (place : ℕ) : Type 0 where
  pub within : place < 16
  pub before : take place file ≡ take place header
  pub other : slice_index file place ≢ slice_index header place

-- where in a payload the fault is
abbrev pub fault_place : RecordFault → ℕ
fault_place fault.BadKind = 0
fault_place (fault.BadField place) = place
fault_place (fault.Short place) = place
fault_place fault.Memory = 0

-- the first payload of a frame that counts that is no record goes wrong at this place
pub record IsSpoilt (file : List ℕ) (place : ℕ) : Type 0 where
  pub headed : take 16 file ≡ header
  -- the frames before it, and the bytes from its own gate on
  pub payloads : List (List ℕ)
  pub records : List Record
  pub read : AreRecords payloads records
  pub bytes : List ℕ
  pub frames : Leads (drop 16 file) payloads bytes
  -- its payload, and the bytes behind its frame
  pub payload : List ℕ
  pub next : List ℕ
  pub frame : frame_of bytes ≡ Some (payload, next)
  pub why : RecordFault
  pub no_record : reading payload ≡ Err why
  pub is_there : place ≡ length file - length bytes + 5 + fault_place why

-- the file is no journal's, and this is the place where that shows
abbrev pub IsNoJournal : List ℕ → ℕ → Type 0
IsNoJournal file place = (is_fresh file ≡ false) × (IsForeign file place ⊎ IsSpoilt file place)
