-- Believe: what a load finds in a journal's file, and that this is a function of its bytes.
use Rattle.std.specs.Prelude.{◌≡◌, ◌≢◌, ℕ, suc, zero, ◌+◌, ◌-◌, ◌<◌, ◌^◌, true, if◌then◌else◌, nat_eq, List, [], ◌∷◌, length}
use Rattle.std.specs.Prelude.{drop, Option, None, Some, Result, Ok, Err}
use Rattle.std.specs.List.{AllByRecursion}
use Rattle.ba_record.specs.Coding.{InRange, coding}
use Rattle.ba_record.specs.Reading.{reading}
use Rattle.ba_record.specs.declared.records.Record.{Record}
use Rattle.ba_record.specs.declared.records.RecordFault.{RecordFault}
use Rattle.ba_journal.specs.Frames.{is_fresh, frame_of, Holds}
use Rattle.ba_journal.specs.declared.loads.TheConstants.{FIRST_GATE}
use Rattle.ba_journal.specs.declared.readings.Reading.{Reading}
use Rattle.ba_journal.specs.declared.readings.Reading.TheVariants.{Fresh, Found}
use Rattle.ba_journal.specs.declared.readings.Tail.{Tail}
use Rattle.ba_journal.specs.declared.readings.Tail.TheVariants.{AtRest, Open, Closed}

-- these bytes, from a gate on, are such a tail
abbrev pub IsTail : Tail → List ℕ → Type 0
IsTail AtRest rest = rest ≡ 0 ∷ []
IsTail Open rest = (gate : ℕ) × (behind : List ℕ) × (rest ≡ gate ∷ behind) × (gate ≢ 0)
IsTail Closed rest = (behind : List ℕ) × (rest ≡ 0 ∷ behind) × (0 < length behind)

-- the journal in the file holds these records; its last gate is at this place, and this stands from there on
abbrev pub Finds : List ℕ → List Record → ℕ → Tail → Type 0
Finds file records gate tail = (rest : List ℕ) × Holds file records rest × (gate ≡ length file - length rest) × IsTail tail rest

-- the file holds this
abbrev pub ReadsAs : List ℕ → Reading → Type 0
ReadsAs file Fresh = is_fresh file ≡ true
ReadsAs file (Found records gate tail) = Finds file records gate tail

-- the place behind the last gate is below 2^64
abbrev pub IsWithin : Reading → Type 0
IsWithin Fresh = Unit {0}
IsWithin (Found records gate tail) = gate + 1 < 2 ^ 64

-- how many bytes the frames of these records have: of each a gate, the size in four, and the coding
abbrev pub frames_length : List Record → ℕ
frames_length [] = 0
frames_length (r ∷ records) = (5 + length (coding r)) + frames_length records

-- the place of the gate after them
abbrev pub last_gate : List Record → ℕ
last_gate records = FIRST_GATE + frames_length records

-- each record is in its ranges, and the gate stands after their frames
abbrev pub AreBefore : List Record → ℕ → Type 0
AreBefore records gate = AllByRecursion InRange records × (gate ≡ last_gate records)

-- so much holds of what was read, whatever the disk
abbrev pub IsAfterRecords : Reading → Type 0
IsAfterRecords Fresh = Unit {0}
IsAfterRecords (Found records gate tail) = AreBefore records gate

-- What is found in a file, computed from its bytes

-- the frames' payloads and the bytes after them, with the frame before them
abbrev pub with_frame : Option (List ℕ × List ℕ) → List ℕ → (List ℕ → List (List ℕ) × List ℕ) → List (List ℕ) × List ℕ
with_frame None bytes others = ([], bytes)
with_frame (Some frame) bytes others = (frame.0 ∷ (others frame.1).0, (others frame.1).1)

-- the payloads of the frames that count from this gate on, at most so many, and the bytes from the gate after them
abbrev pub frames_from : ℕ → List ℕ → List (List ℕ) × List ℕ
frames_from zero bytes = ([], bytes)
frames_from (suc most) bytes = with_frame (frame_of bytes) bytes (frames_from most)

-- the records that these payloads are, up to the first that is none
abbrev pub if_record : Result Record RecordFault → List Record → List Record
if_record (Ok record_read) others = record_read ∷ others
if_record (Err why) others = []

abbrev pub records_from : List (List ℕ) → List Record
records_from [] = []
records_from (payload ∷ payloads) = if_record (reading payload) (records_from payloads)

-- what stands from a gate on
abbrev pub tail_from : List ℕ → Tail
tail_from [] = Open
tail_from (gate ∷ []) = if nat_eq gate 0 then AtRest else Open
tail_from (gate ∷ next ∷ bytes) = if nat_eq gate 0 then Closed else Open

abbrev pub found_in : List ℕ → List (List ℕ) × List ℕ → Reading
found_in file frames = Found (records_from frames.0) (length file - length frames.1) (tail_from frames.1)

-- what a load finds in a file that is a journal's
abbrev pub reading_of : List ℕ → Reading
reading_of file = if is_fresh file then Fresh else found_in file (frames_from (length file) (drop 16 file))

-- the records of a reading
abbrev pub records_found : Reading → List Record
records_found Fresh = []
records_found (Found records gate tail) = records
