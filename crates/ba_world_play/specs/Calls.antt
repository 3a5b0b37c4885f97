-- Believe: what becomes of a node and its disk in a call or an opening that nothing hinders.
use Rattle.std.specs.Prelude.{◌≡◌, None, Some}
use Rattle.ba_world_events.specs.declared.outcomes.Outcome.TheVariants as outcome
use Rattle.ba_ports_memory.specs.DiskValue.{IsUntroubled}
use Rattle.ba_world_play.specs.Nodes.{NodeCall, node_taken}
use Rattle.ba_world_runs.specs.World.{Occasion, WorldNode, is_up}

-- the step is taken, and says itself what it shows; and the disk stays untroubled
pub record IsTaken (n : WorldNode) (o : Occasion) (call : NodeCall) : Type 0 where
  pub shown : call.shown ≡ None
  pub node : call.after.node ≡ node_taken n o
  pub disk : IsUntroubled call.after.disk

-- the node is up again, nothing of it is pending, and its disk is untroubled
pub record IsUpAgain (call : NodeCall) : Type 0 where
  pub shown : call.shown ≡ Some outcome.Done
  pub mode : call.after.node.mode ≡ is_up
  pub pending : call.after.node.pending ≡ None
  pub disk : IsUntroubled call.after.disk
