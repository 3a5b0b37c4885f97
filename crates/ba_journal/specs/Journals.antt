-- Believe: a journal on its disk, the calls by which it grows, and what a crash during them may leave.
use Rattle.std.specs.Prelude.{◌≡◌, ◌⊎◌, ℕ, ◌+◌, ◌-◌, ◌<◌, true, false, List, [], ◌∷◌, ◌++◌, length, take, Option, Result, Ok, Err, refl}
use Rattle.std.specs.Coded.{Coded, code_by, coded×, coded_ℕ, coded_option}
use Rattle.std.specs.Int.{w32, to_le_bytes}
use Rattle.ba_ports.specs.Disk.{InTurn, Only}
use Rattle.ba_ports.specs.declared.requests.Call.{Call}
use Rattle.ba_ports.specs.declared.requests.Request.{Request}
use Rattle.ba_ports.specs.declared.requests.Request.TheVariants.{WriteAt, Sync}
use Rattle.ba_record.specs.declared.records.Record.{Record}
use Rattle.ba_journal.specs.Frames.{Holds, StandsFor}
use Rattle.ba_journal.specs.declared.faults.JournalFault.{JournalFault}
use Rattle.ba_journal.specs.declared.faults.JournalFault.TheVariants as fault
use Rattle.ba_journal.specs.declared.journals.TheConstants.{GREATEST_LENGTH}

-- What a contract sees

-- a journal on its disk
pub record JournalValue (D : Type 0) : Type 0 where
  pub disk : D
  -- the place of the last gate, in bytes
  pub gate : ℕ
  -- the disk's count of failures when an append answered Disk; since then each is refused
  pub closed : Option ℕ
  -- how many bytes a record's coding may have for which an append takes no memory
  pub spare : ℕ

-- a journal's value is stored as its parts
abbrev pub journal_code : {D : Type 0} → Coded D → Coded (JournalValue D)
journal_code {D} code =
    code_by (D × (ℕ × (Option ℕ × ℕ))) (coded× code (coded× coded_ℕ (coded× (coded_option coded_ℕ) coded_ℕ)))
    (λ j. (j.disk, (j.gate, (j.closed, j.spare)))) (λ p. record { disk = p.0; gate = p.1.0; closed = p.1.1.0; spare = p.1.1.1 }) (λ _. refl)

-- What it holds

-- the journal in the file holds these records, and its last byte is a gate that is 0
abbrev pub AtRest : List ℕ → List Record → Type 0
AtRest file records = Holds file records (0 ∷ [])

-- the bytes before the last
abbrev pub before_last : List ℕ → List ℕ
before_last file = take (length file - 1) file

-- what is put behind a gate: the payload's size in four bytes with the lowest first, the payload, and the next
-- gate, which is 0
abbrev pub behind_gate : List ℕ → List ℕ
behind_gate payload = to_le_bytes w32 (length payload) ++ payload ++ 0 ∷ []

-- what is asked of the disk, one after another, when a frame is put at this gate, given what stands behind the
-- gate: the frame counts only when the gate is written
abbrev pub appending : ℕ → List ℕ → List Request
appending gate behind = WriteAt (gate + 1) behind ∷ Sync ∷ WriteAt gate (1 ∷ []) ∷ Sync ∷ []

-- the file stands for these records, or for these and one more
abbrev pub StandsWithOrWithout : List Record → Record → List ℕ → Type 0
StandsWithOrWithout records last file = StandsFor file records ⊎ StandsFor file (records ++ last ∷ [])

-- The disk holds a journal of these records whose last gate, at this place, is 0 and the last byte, and a crash
-- leaves the file as it is read.
pub record IsSettled {D : Type 0} (seen : D → List ℕ) (may_leave : D → List ℕ
    → Type 0) (disk : D) (gate : ℕ) (records : List Record) : Type 0 where
  pub at_rest : AtRest (seen disk) records
  pub place : gate + 1 ≡ length (seen disk)
  pub durable : Only (seen disk) (may_leave disk)

-- What an append answers

-- with a payload of this size behind this gate, the frame and the next gate would end past the greatest length
abbrev pub GoesPast : ℕ → ℕ → Type 0
GoesPast gate size = GREATEST_LENGTH < gate + size + 6

-- The calls that were made: the requests of an append in turn, up to the first that failed, and then the answer
-- is that of the disk; or none at all.
abbrev pub Asked : {T : Type 0} → ℕ → List ℕ → Result T JournalFault → List Call → Type 0
Asked gate behind (Ok done) calls = InTurn (appending gate behind) false calls
Asked gate behind (Err fault.Disk) calls = InTurn (appending gate behind) true calls
Asked gate behind (Err fault.Memory) calls = calls ≡ []
Asked gate behind (Err (fault.NotAJournal place)) calls = calls ≡ []
Asked gate behind (Err fault.Full) calls = calls ≡ []
Asked gate behind (Err (fault.Closed count)) calls = calls ≡ []
