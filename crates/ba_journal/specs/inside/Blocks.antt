-- Inside: bytes of a file that were read and not used yet, and the frame that begins with them.
use Rattle.std.specs.Prelude.{◌≡◌, ℕ, ◌+◌, ◌-◌, ◌≤◌, false, List, length, take, drop, Some, Err}
use Rattle.ba_record.specs.declared.records.RecordFault.{RecordFault}
use Rattle.ba_record.specs.Reading.{reading}
use Rattle.ba_journal.specs.Frames.{header, is_fresh, frame_of, fault_place, IsNoJournal}
use Rattle.ba_journal.specs.declared.blocks.TheConstants.{DECIDING, ROOM}
use Rattle.ba_journal.specs.declared.faults.JournalFault.{JournalFault}
use Rattle.ba_journal.specs.declared.faults.JournalFault.TheVariants as fault

-- so many bytes of a payload decide whether it is a record: one more than the longest record has
abbrev pub deciding : ℕ
deciding = DECIDING

-- a gate, the size, and the payload's bytes that decide
abbrev pub frame_front : ℕ
frame_front = 5 + deciding

-- the bytes at hand, the place of the first of them in the file, and the file's length
pub record AtHand : Type 0 where
  pub place : ℕ
  pub bytes : List ℕ
  pub len : ℕ

-- bytes at hand lie at these places of a room, which is large enough, and in the file
pub record LieWithin (at end size place len : ℕ) : Type 0 where
  pub ordered : at ≤ end
  pub within : end ≤ size
  pub whole : size ≡ ROOM
  pub in_file : place + (end - at) ≤ len

-- these bytes begin a list that is so long
pub record Begins (bytes : List ℕ) (long : ℕ) (all : List ℕ) : Type 0 where
  pub length_is : long ≡ length all
  pub front : bytes ≡ take (length bytes) all

-- the bytes at hand are the file's at their place
pub record IsOf (file : List ℕ) (hand : AtHand) : Type 0 where
  pub len_is : hand.len ≡ length file
  pub within : hand.place ≤ length file
  pub bytes_are : hand.bytes ≡ take (length hand.bytes) (drop hand.place file)

-- a frame that counts begins here, whose payload shows these bytes: all of it, or as many as decide it
abbrev pub Counts : List ℕ → List ℕ → Type 0
Counts bytes shown = (payload : List ℕ) × (next : List ℕ) × (frame_of bytes ≡ Some (payload, next)) × (shown ≡ take deciding payload)

-- a journal was made in the file, and its frames begin with the bytes at hand
pub record BeginsFrames (file : List ℕ) (hand : AtHand) : Type 0 where
  pub bytes : IsOf file hand
  pub place : hand.place ≡ 16
  pub made : is_fresh file ≡ false
  pub headed : take 16 file ≡ header

-- why what a payload at this place shows is no record; want of memory says nothing of it
abbrev pub RefusesShown : ℕ → List ℕ → JournalFault → Type 0
RefusesShown place shown fault.Memory = Unit {0}
RefusesShown place shown (fault.NotAJournal at) = (why : RecordFault) × (reading shown ≡ Err why) × (at ≡ place + fault_place why)
RefusesShown place shown fault.Disk = ⊥
RefusesShown place shown fault.Full = ⊥
RefusesShown place shown (fault.Closed count) = ⊥

-- what such a fault says of a file; a disk that failed and want of memory say nothing of it
abbrev pub RefusesFile : List ℕ → JournalFault → Type 0
RefusesFile file (fault.NotAJournal place) = IsNoJournal file place
RefusesFile file why = Unit {0}

-- a read of a file answers no such fault
abbrev pub IsOfReading : JournalFault → Type 0
IsOfReading fault.Full = ⊥
IsOfReading (fault.Closed count) = ⊥
IsOfReading why = Unit {0}
