-- Believe: what a call of a node answers, and what it makes of the node, given the change that is due.
use Rattle.std.specs.Prelude.{◌≡◌, ◌≢◌, ◌↔◌, ℕ, None, Some, Result, Err, IfErr, OnOk}
use Rattle.ba_node.specs.Keeping.{IsPast, end_after}
use Rattle.ba_node.specs.Nodes.{NodeOnJournal}
use Rattle.ba_node.specs.declared.faults.NodeFault.{NodeFault}
use Rattle.ba_node.specs.declared.faults.NodeFault.TheVariants as fault
use Rattle.ba_node_steps.specs.Lawful.{Change}
use Rattle.ba_node_steps.specs.Steps.{NodeStep}
use Rattle.ba_node_steps.specs.Ticks.{TickStep}
use Rattle.ba_node_steps.specs.declared.answers.Done.{Done}
use Rattle.ba_node_steps.specs.declared.answers.Ticked.{Ticked}

-- the node after the change, whose record is in the journal
abbrev pub changed_on_journal : {D : Type 0} → NodeOnJournal D → D → Change → NodeOnJournal D
changed_on_journal n disk due = record n { disk = disk; node = due.after; end = end_after n.end due.written }

-- the node as it was, which is refused from now on
abbrev pub closed_node : {D : Type 0} → NodeOnJournal D → D → ℕ → NodeOnJournal D
closed_node n disk count = record n { disk = disk; closed = Some count }

-- What a call answers, and the node after it. Ok: the change was made. Closed: exactly where an earlier call answered
-- Disk. Full: the change is one whose record would go past the journal's end. Disk: its record was asked of the disk.
-- After all but Ok and Disk the node is as it was.
pub record IsAnswered {D T : Type 0} (faults : D → ℕ) (due : Change) (old new : NodeOnJournal D)
    (result : Result T NodeFault) : Type 0 where
  pub done : OnOk result ((old.closed ≡ None) × (new ≡ changed_on_journal old new.disk due))
  pub within : OnOk result (IsPast old.end due.written → ⊥)
  pub closed : (count : ℕ) → (result ≡ Err (fault.Closed count)) ↔ (old.closed ≡ Some count)
  pub full : (result ≡ Err fault.Full) → (old.closed ≡ None) × IsPast old.end due.written
  pub broke : (result ≡ Err fault.Disk) → (old.closed ≡ None) × (due.written ≢ None) × (IsPast old.end due.written → ⊥)
  pub closes : (result ≡ Err fault.Disk) → new ≡ closed_node old new.disk (faults new.disk)
  pub unchanged : IfErr result (λ why. why ≢ fault.Disk → new ≡ old)

-- the reply and the wake of a step, and the letter and the wake of a tick
pub record IsReplyOf (step : NodeStep) (done : Done) : Type 0 where
  pub reply : done.reply ≡ step.reply
  pub wake : done.wake ≡ step.wake

pub record IsLetterAtTick (step : TickStep) (ticked : Ticked) : Type 0 where
  pub letter : ticked.letter ≡ step.letter
  pub wake : ticked.wake ≡ step.wake
