-- Inside: what a change that is due makes of a node on its journal.
use Rattle.std.specs.Prelude.{◌≡◌, ℕ, ◌≤◌, Bool, List, Result, Err, OnOk, IsTrue}
use Rattle.ba_journal.specs.Journals.{IsSettled}
use Rattle.ba_node.specs.Answers.{IsAnswered}
use Rattle.ba_node.specs.Keeping.{StandsWith, Stepped, with_record}
use Rattle.ba_node.specs.Nodes.{NodeOnJournal}
use Rattle.ba_node.specs.declared.faults.NodeFault.{NodeFault}
use Rattle.ba_node.specs.declared.faults.NodeFault.TheVariants as fault
use Rattle.ba_ports.specs.Causes.{Rose}
use Rattle.ba_ports.specs.Disk.{LeavesOnly}
use Rattle.ba_ports.specs.declared.requests.Call.{Call}
use Rattle.ba_record.specs.declared.records.Record.{Record}
use Rattle.ba_node_steps.specs.Endpoints.{GivesFit}
use Rattle.ba_node_steps.specs.Lawful.{Change, Event, change}
use Rattle.ba_node_steps.specs.Node.{NodeState}
use Rattle.ba_node_steps.specs.Steps.{NodeStep}
use Rattle.ba_node_steps.specs.Ticks.{TickStep}

-- the change that is due by a step, and by a tick
abbrev pub due_by_step : NodeStep → Change
due_by_step step = record { after = step.after; written = step.written }

abbrev pub due_by_tick : TickStep → Change
due_by_tick step = record { after = step.after; written = step.written }

-- something that happened, of which what it gave fits, leads to this change of the node
pub record IsDue (n : NodeState) (due : Change) : Type 0 where
  pub event : Event
  pub gives : GivesFit event
  pub is : change n event ≡ due

-- a node after a change that was due, or after a fault
pub record Commits {D T : Type 0} (follows : D → Bool) (seen : D → List ℕ) (may_leave : D → List ℕ → Type 0)
    (later : D → D → Type 0) (left_between : D → D → List ℕ → Type 0) (driven : D → List Call → D → Type 0) (faults : D → ℕ)
    (due : Change) (old new : NodeOnJournal D) (result : Result T NodeFault) : Type 0 where
  pub answered : IsAnswered faults due old new result
  pub durable : OnOk result (IsTrue (follows old.disk) → (records : List Record) → IsSettled seen may_leave old.disk old.end records
      → IsSettled seen may_leave new.disk new.end (with_record records due.written))
  pub any_moment : IsTrue (follows old.disk) → (records : List Record) → IsSettled seen may_leave old.disk old.end records
      → LeavesOnly later left_between old.disk new.disk (StandsWith records due.written)
  pub calls : (calls : List Call) × driven old.disk calls new.disk × Stepped old.end due.written result calls
  pub follows_same : follows new.disk ≡ follows old.disk
  pub cause : (result ≡ Err fault.Disk) → Rose (faults old.disk) (faults new.disk)
  pub faults_later : faults old.disk ≤ faults new.disk
