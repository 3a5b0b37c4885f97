-- Believe: the record of a change in the journal, and the calls of the disk by which it gets there.
use Rattle.std.specs.Prelude.{◌≡◌, ◌⊎◌, ℕ, ◌+◌, true, false, List, [], ◌∷◌, ◌++◌, length, Option, None, Some, Result, Ok, Err}
use Rattle.ba_journal.specs.Frames.{StandsFor}
use Rattle.ba_journal.specs.Journals.{GoesPast, appending, behind_gate}
use Rattle.ba_node.specs.declared.faults.NodeFault.{NodeFault}
use Rattle.ba_node.specs.declared.faults.NodeFault.TheVariants as fault
use Rattle.ba_ports.specs.Disk.{InTurn}
use Rattle.ba_ports.specs.declared.requests.Call.{Call}
use Rattle.ba_record.specs.Coding.{coding}
use Rattle.ba_record.specs.declared.records.Record.{Record}

-- ---- the record of a change in the journal

-- the records with that of the change, where it has one
abbrev pub with_record : List Record → Option Record → List Record
with_record records None = records
with_record records (Some r) = records ++ r ∷ []

-- where the last gate stands afterwards
abbrev pub end_after : ℕ → Option Record → ℕ
end_after end None = end
end_after end (Some r) = end + (length (coding r) + 5)

-- the record's frame would make the file too long
abbrev pub IsPast : ℕ → Option Record → Type 0
IsPast end None = ⊥
IsPast end (Some r) = GoesPast end (length (coding r))

-- the file stands for the records, or for these with that of the change
abbrev pub StandsWith : List Record → Option Record → List ℕ → Type 0
StandsWith records written file = StandsFor file records ⊎ StandsFor file (with_record records written)

-- ---- the calls of the disk

-- those of a call of the node by its answer: of the append of its record, in turn up to the first that failed; or none
abbrev pub Stepped : {T : Type 0} → ℕ → Option Record → Result T NodeFault → List Call → Type 0
Stepped end None (Ok done) calls = calls ≡ []
Stepped end (Some r) (Ok done) calls = InTurn (appending end (behind_gate (coding r))) false calls
Stepped end None (Err fault.Disk) calls = ⊥
Stepped end (Some r) (Err fault.Disk) calls = InTurn (appending end (behind_gate (coding r))) true calls
Stepped end written (Err fault.Memory) calls = calls ≡ []
Stepped end written (Err fault.Full) calls = calls ≡ []
Stepped end written (Err (fault.Closed count)) calls = calls ≡ []
