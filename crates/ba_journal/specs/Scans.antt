-- Believe: what a scan of a file answers.
use Rattle.std.specs.Prelude.{◌≡◌, ℕ, ◌+◌, ◌-◌, true, List, length, Err}
use Rattle.ba_record.specs.declared.records.RecordFault.{RecordFault}
use Rattle.ba_record.specs.Reading.{reading}
use Rattle.ba_journal.specs.Frames.{is_fresh, Holds, IsNoJournal, fault_place}
use Rattle.ba_journal.specs.declared.scans.Scan.{Scan}
use Rattle.ba_journal.specs.declared.scans.Scan.TheVariants.{Fresh, Found}
use Rattle.ba_journal.specs.declared.scans.ScanFault.{ScanFault}
use Rattle.ba_journal.specs.declared.scans.ScanFault.TheVariants as fault

-- the file holds this
abbrev pub Scans : List ℕ → Scan → Type 0
Scans file Fresh = is_fresh file ≡ true
Scans file (Found records end tail) =
    (rest : List ℕ) × Holds file records rest × (end ≡ length file - length rest) × (tail ≡ length rest - 1)

-- why it is no journal's; want of memory says nothing of it
abbrev pub Refuses : List ℕ → ScanFault → Type 0
Refuses file fault.Memory = Unit {0}
Refuses file (fault.NotAJournal place) = IsNoJournal file place

-- why a payload at this place is no record; want of memory says nothing of it
abbrev pub RefusesPayload : ℕ → List ℕ → ScanFault → Type 0
RefusesPayload place payload fault.Memory = Unit {0}
RefusesPayload place payload (fault.NotAJournal at) = (why : RecordFault) × (reading payload ≡ Err why) × (at ≡ place + fault_place why)
