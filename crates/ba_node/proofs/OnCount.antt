-- What is answered over a disk is what is answered where only the disk's count of failures is known; for the law of that name.
use Rattle.std.proofs.Common.{ℕ, Result, Ok, Err, ap}
use Rattle.ba_node.specs.Answers.{IsAnswered}
use Rattle.ba_node.specs.Counts.{on_count}
use Rattle.ba_node.specs.Nodes.{NodeOnJournal}
use Rattle.ba_node.specs.declared.faults.NodeFault.{NodeFault}
use Rattle.ba_node_steps.specs.Lawful.{Change}

pub answered_on_count : {D T : Type 0} (faults : D → ℕ) (due : Change) (old new : NodeOnJournal D) (result : Result T NodeFault)
    → IsAnswered faults due old new result → IsAnswered (λ (n : ℕ). n) due (on_count faults old) (on_count faults new) result
answered_on_count faults due old new (Ok x) h = record {
  done = (h.done.0, ap (on_count faults) h.done.1);
  within = h.within;
  closed = h.closed;
  full = h.full;
  broke = h.broke;
  closes = λ e. ap (on_count faults) (h.closes e);
  unchanged = h.unchanged;
}
answered_on_count faults due old new (Err why) h = record {
  done = h.done;
  within = h.within;
  closed = h.closed;
  full = h.full;
  broke = h.broke;
  closes = λ e. ap (on_count faults) (h.closes e);
  unchanged = λ other. ap (on_count faults) (h.unchanged other);
}
