-- Believe: what the disk of each node of a play holds, whenever its machine stops: the node's records, or these with the one that is
-- pending. And that the nodes that are up have counters left.
use Rattle.std.specs.Prelude.{◌≡◌, ◌⊎◌, ◌≤◌, ℕ, List, [], ◌++◌, Option, None}
use Rattle.std.specs.Option.{option_and_then, option_to_list}
use Rattle.ba_journal.specs.Frames.{StandsFor}
use Rattle.ba_journal.specs.Journals.{AtRest}
use Rattle.ba_ports_memory.specs.DiskValue.{MediumValue, MayBeLeft}
use Rattle.ba_world_play.specs.Plays.{WorldOnDisks}
use Rattle.ba_record.specs.declared.records.Record.{Record}
use Rattle.ba_world_runs.specs.World.{WorldNode, is_up}
use Rattle.ba_world_runs.specs.WorldSteps.{effect}
use Rattle.ba_node_steps.specs.Fits.{HasSpareCounters}

-- the record of the step that is pending
abbrev pub pending_record : WorldNode → Option Record
pending_record n = option_and_then (λ o. (effect n.state o).written) n.pending

-- the file stands for the node's records, or for these with the pending one
abbrev pub StandsForNode : WorldNode → List ℕ → Type 0
StandsForNode n file = StandsFor file n.records ⊎ StandsFor file (n.records ++ option_to_list (pending_record n))

-- so does whatever a stop of the machine may leave of the disk now
abbrev pub HoldsNode : WorldNode → MediumValue → Type 0
HoldsNode n disk = (left : List ℕ) → MayBeLeft disk left → StandsForNode n left

-- the machine runs, nothing is pending on the disk, and its journal holds these records and ends with its last gate, which is 0
pub record IsAtRest (disk : MediumValue) (records : List Record) : Type 0 where
  pub runs : disk.stopped ≡ None
  pub settled : disk.pending ≡ []
  pub journal : AtRest disk.synced records

-- the disk holds its node whenever the machine stops; and while the node is up the disk is at rest, and no step is pending
pub record DiskFits (n : WorldNode) (disk : MediumValue) : Type 0 where
  pub holds : HoldsNode n disk
  pub rests : n.mode ≡ is_up → IsAtRest disk n.records × (n.pending ≡ None)

-- each node that is played and up has counters left for one more step
abbrev pub HaveSpare : WorldOnDisks → Type 0
HaveSpare p = (k : ℕ) → 1 ≤ k → k ≤ p.count → (p.world.nodes k).mode ≡ is_up → HasSpareCounters (p.world.nodes k).state
