-- Believe: what a load of a journal finds, which calls it makes, and what a crash during it may leave.
use Rattle.std.specs.Prelude.{◌≡◌, ◌⊎◌, ℕ, ◌+◌, Bool, true, false, List, [], ◌∷◌, ◌++◌, drop, Result, Ok, Err}
use Rattle.ba_ports.specs.Disk.{InTurn, counted}
use Rattle.ba_ports.specs.declared.requests.Call.{Call}
use Rattle.ba_ports.specs.declared.requests.Request.{Request}
use Rattle.ba_ports.specs.declared.requests.Request.TheVariants.{WriteAt, Cut, Sync}
use Rattle.ba_record.specs.declared.records.Record.{Record}
use Rattle.ba_journal.specs.Frames.{header, StandsFor}
use Rattle.ba_journal.specs.Journals.{JournalValue}
use Rattle.ba_journal.specs.declared.faults.JournalFault.{JournalFault}
use Rattle.ba_journal.specs.declared.faults.JournalFault.TheVariants as fault
use Rattle.ba_journal.specs.declared.loads.TheConstants.{FIRST_GATE}
use Rattle.ba_journal.specs.declared.readings.Reading.{Reading}
use Rattle.ba_journal.specs.declared.readings.Reading.TheVariants.{Fresh, Found}
use Rattle.ba_journal.specs.declared.readings.Tail.{Tail}
use Rattle.ba_journal.specs.declared.readings.Tail.TheVariants as tail

-- The calls of a making and of a repair

-- what is asked of the disk, one after another, when a journal is made: the first byte is 0 until all others stand
abbrev pub making : List Request
making =
    Cut 0 ∷ Sync ∷ WriteAt 0 (0 ∷ []) ∷ Sync
    ∷ WriteAt 1 (drop 1 header ++ 0 ∷ []) ∷ Sync ∷ WriteAt 0 (1 ∷ []) ∷ Sync ∷ []

-- what is asked of the disk, one after another, when a file's end from this last gate on is repaired: what stands
-- behind the gate is gone before the gate is written
abbrev pub repairing : ℕ → Tail → List Request
repairing gate tail.AtRest = []
repairing gate tail.Closed = Cut (gate + 1) ∷ Sync ∷ []
repairing gate tail.Open = Cut (gate + 1) ∷ Sync ∷ WriteAt gate (0 ∷ []) ∷ Sync ∷ []

-- A load

-- the last of these calls failed
abbrev pub EndsFailed : List Call → Type 0
EndsFailed calls = (before : List Call) × (request : Request) × (calls ≡ before ++ record { request = request; failed = true } ∷ [])

-- both files stand for the same records
abbrev pub StandAlike : List ℕ → List ℕ → Type 0
StandAlike file left = (records : List Record) × StandsFor file records × StandsFor left records

-- what a crash may leave during a loading: what it might have left before, or a file that stands for the same
-- records as one of those
abbrev pub MayStandSince : (List ℕ → Type 0) → List ℕ → Type 0
MayStandSince before left = before left ⊎ ((c : List ℕ) × before c × StandAlike c left)

-- what is asked of the disk, one after another, when the file was read as this: a journal is made, or its end
-- repaired
abbrev pub settling : Reading → List Request
settling Fresh = making
settling (Found records gate end) = repairing gate end

-- the disk, after a loading
abbrev pub disk_of : {D : Type 0} → Result (JournalValue D × List Record) (D × JournalFault) → D
disk_of (Ok loaded) = loaded.0.disk
disk_of (Err refused) = refused.0

-- what was read is what is answered: the place of the last gate, and the records
abbrev pub IsOpenedAs : ℕ → List Record → Reading → Type 0
IsOpenedAs gate records Fresh = (gate ≡ FIRST_GATE) × (records ≡ [])
IsOpenedAs gate records (Found read last tail) = (gate ≡ last) × (records ≡ read)

-- The calls of a loading by its answer. The counted ones are a sync, and then those of a making or a repair, given
-- what the file was read as, which is what is answered. At Disk the last call failed: they break off at the counted
-- one that failed, or after the sync where it was a reading that failed.
abbrev pub Loaded : {T : Type 0} → (Reading → Type 0) → (T → Reading → Type 0) → Result T JournalFault → List Call → Type 0
Loaded IsRead IsOpened (Ok loaded) calls = (found : Reading) × IsRead found × IsOpened loaded found
    × InTurn (Sync ∷ settling found) false (counted calls)
Loaded IsRead IsOpened (Err fault.Disk) calls = EndsFailed calls
    × (((failed : Bool) × InTurn (Sync ∷ []) failed (counted calls))
    ⊎ ((found : Reading) × IsRead found × InTurn (Sync ∷ settling found) true (counted calls)))
Loaded IsRead IsOpened (Err fault.Memory) calls = InTurn (Sync ∷ []) false (counted calls)
Loaded IsRead IsOpened (Err (fault.NotAJournal place)) calls = InTurn (Sync ∷ []) false (counted calls)
Loaded IsRead IsOpened (Err fault.Full) calls = ⊥
Loaded IsRead IsOpened (Err (fault.Closed count)) calls = ⊥

-- the answer of a loading without the disk
abbrev pub answer_of : {T D : Type 0} → Result T (D × JournalFault) → Result T JournalFault
answer_of (Ok loaded) = Ok loaded
answer_of (Err refused) = Err refused.1
