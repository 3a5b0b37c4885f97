-- Inside: what the keeping of a step's record makes of a journal.
use Rattle.std.specs.Prelude.{◌≡◌, ◌≢◌, ℕ, ◌+◌, ◌≤◌, Bool, List, length, Option, None, Some, Result, Err, IfErr, OnErr, OnOk, IsTrue}
use Rattle.ba_journal.specs.Journals.{IsSettled, JournalValue}
use Rattle.ba_node.specs.Keeping.{IsPast, StandsWith, Stepped, end_after, with_record}
use Rattle.ba_node.specs.declared.faults.NodeFault.{NodeFault}
use Rattle.ba_node.specs.declared.faults.NodeFault.TheVariants as fault
use Rattle.ba_ports.specs.Causes.{Rose}
use Rattle.ba_ports.specs.Disk.{LeavesOnly}
use Rattle.ba_ports.specs.declared.requests.Call.{Call}
use Rattle.ba_record.specs.declared.records.Record.{Record}

-- a journal that was open, after the record was kept, where there is one, or after a fault
pub record IsKept {D T : Type 0} (follows : D → Bool) (seen : D → List ℕ) (may_leave : D → List ℕ → Type 0)
    (later : D → D → Type 0) (left_between : D → D → List ℕ → Type 0) (driven : D → List Call → D → Type 0) (faults : D → ℕ)
    (old new : JournalValue D) (written : Option Record) (result : Result T NodeFault) : Type 0 where
  pub durable : OnOk result (IsTrue (follows old.disk) → (records : List Record) → IsSettled seen may_leave old.disk old.gate records
      → IsSettled seen may_leave new.disk new.gate (with_record records written))
  pub any_moment : IsTrue (follows old.disk) → (records : List Record) → IsSettled seen may_leave old.disk old.gate records
      → LeavesOnly later left_between old.disk new.disk (StandsWith records written)
  pub calls : (calls : List Call) × driven old.disk calls new.disk × Stepped old.gate written result calls
  pub follows_same : follows new.disk ≡ follows old.disk
  pub cause : (result ≡ Err fault.Disk) → Rose (faults old.disk) (faults new.disk)
  pub faults_later : faults old.disk ≤ faults new.disk
  pub grows : OnOk result (new.gate ≡ end_after old.gate written)
  pub stays_open : OnOk result (new.closed ≡ None)
  pub place : OnOk result (IsTrue (follows old.disk) → new.gate + 1 ≡ length (seen new.disk))
  pub within : OnOk result (IsPast old.gate written → ⊥)
  pub full : (result ≡ Err fault.Full) → IsPast old.gate written
  pub not_closed : (count : ℕ) → result ≢ Err (fault.Closed count)
  pub broke : (result ≡ Err fault.Disk) → (written ≢ None) × (IsPast old.gate written → ⊥)
  pub closes : (result ≡ Err fault.Disk) → new.closed ≡ Some (faults new.disk)
  pub stays : OnErr result (new.gate ≡ old.gate)
  pub unchanged : IfErr result (λ why. why ≢ fault.Disk → (new.disk ≡ old.disk) × (new.closed ≡ old.closed))
