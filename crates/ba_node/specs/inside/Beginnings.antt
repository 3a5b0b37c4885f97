-- Inside: what a journal's records lead to, and the calls by which one without records is begun.
use Rattle.std.specs.Prelude.{◌≡◌, ◌⊎◌, ℕ, ◌+◌, ◌<◌, ◌≤◌, ◌^◌, Bool, true, false, List, [], length, None, Result, Ok, Err, IsTrue, OnOk}
use Rattle.ba_journal.specs.Frames.{StandsFor}
use Rattle.ba_journal.specs.Journals.{IsSettled, JournalValue}
use Rattle.ba_journal.specs.Readings.{last_gate}
use Rattle.ba_node.specs.Loading.{beginning, begun}
use Rattle.ba_node.specs.declared.faults.LoadFault.{LoadFault}
use Rattle.ba_node.specs.declared.faults.LoadFault.TheVariants as fault
use Rattle.ba_node.specs.declared.faults.NodeFault.{NodeFault}
use Rattle.ba_node.specs.declared.faults.NodeFault.TheVariants as node_fault
use Rattle.ba_ports.specs.Causes.{Rose}
use Rattle.ba_ports.specs.Disk.{InTurn, LeavesOnly}
use Rattle.ba_ports.specs.declared.requests.Call.{Call}
use Rattle.ba_record.specs.declared.records.Record.{Record}
use Rattle.ba_node_steps.specs.Endpoints.{AllReachable}
use Rattle.ba_node_steps.specs.Lawful.{Replays}
use Rattle.ba_node_steps.specs.Node.{NodeState}

-- the node with this number and base is the replay of the records, and keeps only endpoints that can be written to
pub record IsReplay (number : ℕ) (base : List ℕ) (records : List Record) (n : NodeState) : Type 0 where
  pub replays : Replays records n
  pub reachable : AllReachable n
  pub number_is : n.number ≡ number
  pub base_is : n.base ≡ base

-- what a fault of the own record's keeping is of the loading's; two of them don't come
abbrev pub begin_fault_of : NodeFault → LoadFault
begin_fault_of node_fault.Disk = fault.Disk
begin_fault_of node_fault.Memory = fault.Memory
begin_fault_of node_fault.Full = fault.Memory
begin_fault_of (node_fault.Closed count) = fault.Memory

-- the calls of a beginning, by its answer
abbrev pub Begun : {T : Type 0} → ℕ → ℕ → List ℕ → List Record → Result T LoadFault → List Call → Type 0
Begun gate number base records (Ok done) calls = InTurn (beginning gate number base records) false calls
Begun gate number base records (Err fault.Disk) calls = InTurn (beginning gate number base records) true calls
Begun gate number base records (Err why) calls = calls ≡ []

-- an open journal of these records, after the node's own record was appended, where there were none
pub record Begins {D T : Type 0} (follows : D → Bool) (seen : D → List ℕ) (may_leave : D → List ℕ → Type 0)
    (later : D → D → Type 0) (left_between : D → D → List ℕ → Type 0) (driven : D → List Call → D → Type 0) (faults : D → ℕ)
    (number : ℕ) (base : List ℕ) (records : List Record) (old new : JournalValue D) (result : Result T LoadFault) : Type 0 where
  pub settled : OnOk result (IsTrue (follows old.disk) → IsSettled seen may_leave old.disk old.gate records
      → IsSettled seen may_leave new.disk new.gate (begun number base records))
  pub any_moment : IsTrue (follows old.disk) → IsSettled seen may_leave old.disk old.gate records
      → LeavesOnly later left_between old.disk new.disk (λ left. StandsFor left records ⊎ StandsFor left (begun number base records))
  pub calls : (calls : List Call) × driven old.disk calls new.disk × Begun old.gate number base records result calls
  pub follows_same : follows new.disk ≡ follows old.disk
  pub cause : (result ≡ Err fault.Disk) → Rose (faults old.disk) (faults new.disk)
  pub faults_later : faults old.disk ≤ faults new.disk
  pub stays_open : OnOk result (new.closed ≡ None)
  pub place : OnOk result (IsTrue (follows old.disk) → new.gate + 1 ≡ length (seen new.disk))
  pub grows : OnOk result ((old.gate ≤ new.gate) × (new.gate < 2 ^ 64))
  pub end : OnOk result (old.gate ≡ last_gate records → new.gate ≡ last_gate (begun number base records))
