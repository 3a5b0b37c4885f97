-- Inside: where a message of a world goes, whose nodes have the bases of their numbers.
use Rattle.std.specs.Prelude.{◌≡◌, ℕ}
use Rattle.ba_world_play.specs.Arrivals.{arrival}
use Rattle.ba_world_play.specs.Plays.{node_base}
use Rattle.ba_world_runs.specs.World.{Mail, Net, node_at}
use Rattle.ba_world.specs.declared.messages.Delivery.{Delivery}
use Rattle.ba_world.specs.inside.Stages.{number_answered}

abbrev pub HasBases : Net → Type 0
HasBases w = (k : ℕ) → (node_at w k).base ≡ node_base k

-- it goes to this node, and leads to this input
pub record IsDeliveryOf (w : Net) (m : Mail) (to : Delivery) : Type 0 where
  pub node : to.node ≡ (arrival w m).node
  pub input : to.input ≡ (arrival w m).input
  pub answers : to.answers ≡ number_answered m
