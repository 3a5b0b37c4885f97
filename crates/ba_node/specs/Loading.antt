-- Believe: what a loading of a node finds, which calls of the disk it makes, and what a crash during it may leave.
use Rattle.std.specs.Prelude.{◌≡◌, ◌≢◌, ◌⊎◌, ℕ, Bool, true, false, List, [], ◌∷◌, ◌++◌, None, Some, Result, Ok, Err, slice_get, take}
use Rattle.std.specs.List.{AllByRecursion}
use Rattle.ba_journal.specs.Frames.{IsNoJournal, StandsFor}
use Rattle.ba_journal.specs.Journals.{appending, behind_gate}
use Rattle.ba_journal.specs.Loads.{EndsFailed, settling}
use Rattle.ba_journal.specs.Readings.{records_found}
use Rattle.ba_journal.specs.declared.faults.JournalFault.{JournalFault}
use Rattle.ba_journal.specs.declared.faults.JournalFault.TheVariants as journal_fault
use Rattle.ba_journal.specs.declared.loads.TheConstants.{FIRST_GATE}
use Rattle.ba_journal.specs.declared.readings.Reading.{Reading}
use Rattle.ba_journal.specs.declared.readings.Reading.TheVariants.{Fresh, Found}
use Rattle.ba_node.specs.Nodes.{NodeOnJournal}
use Rattle.ba_node.specs.declared.faults.LoadFault.{LoadFault}
use Rattle.ba_node.specs.declared.faults.LoadFault.TheVariants as fault
use Rattle.ba_ports.specs.Disk.{InTurn, counted}
use Rattle.ba_ports.specs.declared.requests.Call.{Call}
use Rattle.ba_ports.specs.declared.requests.Request.{Request}
use Rattle.ba_ports.specs.declared.requests.Request.TheVariants.{Sync}
use Rattle.ba_record.specs.Coding.{InRange, coding}
use Rattle.ba_record.specs.declared.records.Record.{Record}
use Rattle.ba_record.specs.declared.records.Record.TheVariants as journal
use Rattle.ba_node_steps.specs.Lawful.{AreFew, Replays, after_record, first_records}
use Rattle.ba_node_steps.specs.Node.{NodeState}

-- ---- the node's own record

-- the first record of a journal names its node; one without records gets it
abbrev pub begun : ℕ → List ℕ → List Record → List Record
begun number base [] = first_records number base
begun number base (r ∷ more) = r ∷ more

-- ---- why a list isn't this node's

-- there is a first record, and it is no node's
abbrev pub BeginsOtherwise : List Record → Type 0
BeginsOtherwise [] = ⊥
BeginsOtherwise (journal.Node number base ∷ more) = ⊥
BeginsOtherwise (r ∷ more) = Unit {0}

-- Those before this place have a replay, at which no step keeps the record at this place. All are in their ranges and few enough
-- that counters don't run out, so that there is one such place at most.
pub record BreaksAt (records : List Record) (place : ℕ) : Type 0 where
  pub in_range : AllByRecursion InRange records
  pub few : AreFew records
  pub before : NodeState
  pub replays : Replays (take place records) before
  pub next : Record
  pub stands : slice_get records place ≡ Some next
  pub no_step : after_record before next ≡ None

-- The records aren't those of the node with this number and base. The place of a bad history is a number of a record,
-- from 0. Want of memory, and a disk that failed, say nothing.
abbrev pub RefusesLoad : ℕ → List ℕ → List Record → LoadFault → Type 0
RefusesLoad number base records fault.Memory = Unit {0}
RefusesLoad number base records fault.Disk = Unit {0}
RefusesLoad number base records (fault.NotAJournal place) = ⊥
RefusesLoad number base records (fault.OtherNode other) =
    (name : List ℕ) × (more : List Record) × (records ≡ journal.Node other name ∷ more) × (other ≢ number)
RefusesLoad number base records fault.OtherBase =
    (name : List ℕ) × (more : List Record) × (records ≡ journal.Node number name ∷ more) × (name ≢ base)
RefusesLoad number base records (fault.BadHistory place) = ((place ≡ 0) × BeginsOtherwise records)
    ⊎ ((more : List Record) × (records ≡ journal.Node number base ∷ more) × BreaksAt records place)

-- The file gives the ground of each answer: it is no journal's at this place, or it stands for records that aren't this node's. Want
-- of memory, and a disk that failed, say nothing of it.
abbrev pub RefusesFile : ℕ → List ℕ → List ℕ → LoadFault → Type 0
RefusesFile number base file fault.Memory = Unit {0}
RefusesFile number base file fault.Disk = Unit {0}
RefusesFile number base file (fault.NotAJournal place) = IsNoJournal file place
RefusesFile number base file why = (records : List Record) × StandsFor file records × RefusesLoad number base records why

-- what a fault of the journal's loading is of the node's; two of them don't come
abbrev pub load_fault_of : JournalFault → LoadFault
load_fault_of journal_fault.Disk = fault.Disk
load_fault_of (journal_fault.NotAJournal place) = fault.NotAJournal place
load_fault_of journal_fault.Memory = fault.Memory
load_fault_of journal_fault.Full = fault.Memory
load_fault_of (journal_fault.Closed count) = fault.Memory

-- ---- the calls of the disk

abbrev pub gate_read : Reading → ℕ
gate_read Fresh = FIRST_GATE
gate_read (Found records gate tail) = gate

-- the node's own record is appended where there is none
abbrev pub beginning : ℕ → ℕ → List ℕ → List Record → List Request
beginning gate number base [] = appending gate (behind_gate (coding (journal.Node number base)))
beginning gate number base (r ∷ more) = []

-- what is asked of the disk, one after another, when the file was read as this
abbrev pub opening : ℕ → List ℕ → Reading → List Request
opening number base found = (Sync ∷ settling found) ++ beginning (gate_read found) number base (records_found found)

-- The counted calls of a loading by its answer. At Disk the last call failed. A file that is no journal's is left as it was; the
-- records were read, and the journal made or its end repaired, before the node finds that they aren't its own.
abbrev pub Opened : {T : Type 0} → (Reading → Type 0) → ℕ → List ℕ → Result T LoadFault → List Call → Type 0
Opened IsRead number base (Ok done) calls = (found : Reading) × IsRead found × InTurn (opening number base found) false (counted calls)
Opened IsRead number base (Err fault.Disk) calls = EndsFailed calls
    × (((failed : Bool) × InTurn (Sync ∷ []) failed (counted calls))
    ⊎ ((found : Reading) × IsRead found × InTurn (opening number base found) true (counted calls)))
Opened IsRead number base (Err fault.Memory) calls = InTurn (Sync ∷ []) false (counted calls)
    ⊎ ((found : Reading) × IsRead found × InTurn (Sync ∷ settling found) false (counted calls))
Opened IsRead number base (Err (fault.NotAJournal place)) calls = InTurn (Sync ∷ []) false (counted calls)
Opened IsRead number base (Err why) calls = (found : Reading) × IsRead found × InTurn (Sync ∷ settling found) false (counted calls)

-- the disk, after a loading, and its answer without the disk
abbrev pub disk_after_load : {D : Type 0} → Result (NodeOnJournal D) (D × LoadFault) → D
disk_after_load (Ok node) = node.disk
disk_after_load (Err refused) = refused.0

abbrev pub load_answer : {T D : Type 0} → Result T (D × LoadFault) → Result T LoadFault
load_answer (Ok node) = Ok node
load_answer (Err refused) = Err refused.1

-- ---- what a crash may leave

-- what it might have left before, or, where that stands for some records, a file that stands for them, or for them begun
abbrev pub MayBeginSince : ℕ → List ℕ → (List ℕ → Type 0) → List ℕ → Type 0
MayBeginSince number base before left =
    before left ⊎ ((c : List ℕ) × before c × (records : List Record) × StandsFor c records
    × (StandsFor left records ⊎ StandsFor left (begun number base records)))
