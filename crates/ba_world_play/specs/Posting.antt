-- Believe: what is in the bag of a play can be written as an envelope that is read back; and what happens to a node, as its occasion.
use Rattle.std.specs.Prelude.{◌≡◌, ℕ}
use Rattle.ba_message.specs.Letters.{IsPostable, IsReply}
use Rattle.ba_world_play.specs.Plays.{node_base}
use Rattle.ba_world_runs.specs.World.{formats, Mail, Occasion, World, answer, delivers, letter, own, ticks}
use Rattle.ba_node_steps.specs.Endpoints.{AllReachable}
use Rattle.ba_node_steps.specs.Lawful.{Event, formatted, given, ticked}
use Rattle.ba_node_steps.specs.Node.{Among}

-- a letter, or an answer to one
abbrev pub CanBePosted : Mail → Type 0
CanBePosted (letter l) = IsPostable l
CanBePosted (answer number m) = IsReply m

-- Each node has the base of its number, and keeps endpoints that can be written to; and all that was ever sent can be posted.
pub record CanPost (w : World) : Type 0 where
  pub bases : (k : ℕ) → (w.nodes k).state.base ≡ node_base k
  pub reachable : (k : ℕ) → AllReachable (w.nodes k).state
  pub posted : (m : Mail) → Among w.bag m → CanBePosted m

-- an occasion, as what happens to the node
abbrev pub occasion_event : Occasion → Event
occasion_event (own now i) = given now i
occasion_event (delivers now m i) = given now i
occasion_event (ticks now id) = ticked now id
occasion_event formats = formatted
