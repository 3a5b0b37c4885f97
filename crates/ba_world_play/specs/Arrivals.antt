-- Believe: where a message of a world goes: to which node, and to which input it leads there.
use Rattle.std.specs.Prelude.{◌≡◌, ℕ, Option, None, Some}
use Rattle.ba_core.specs.Numbers.{node_of}
use Rattle.ba_core.specs.declared.identifiers.Id.{Id}
use Rattle.ba_message.specs.declared.messages.Letter.{Letter}
use Rattle.ba_world_runs.specs.World.{Mail, Net, answer, letter, node_at}
use Rattle.ba_world_runs.specs.WorldSteps.{BringsInput}
use Rattle.ba_node_steps.specs.Addresses.{sender_of}
use Rattle.ba_node_steps.specs.Routing.{answer_input, identifier_in, letter_input}
use Rattle.ba_node_steps.specs.declared.inputs.Input.{Input}

-- the number of the node to which a message goes, and the input to which it leads there, if it leads to one
pub record Arrival : Type 0 where
  pub node : ℕ
  pub input : Option Input

-- to an address that ends with no identifier's text it goes nowhere: no node has the number 0
abbrev pub letter_arrival : Net → Option Id → Letter → Arrival
letter_arrival w None l = record { node = 0; input = None }
letter_arrival w (Some id) l = record { node = node_of id.0; input = letter_input (node_at w (node_of id.0)) id l }

-- a letter goes to the node of its address, an answer to that of the object whose letter it answers
abbrev pub arrival : Net → Mail → Arrival
arrival w (letter l) = letter_arrival w (identifier_in l.to.address) l
arrival w (answer number m) = record { node = node_of (sender_of number); input = answer_input number m }

-- it leads to an input at the node to which it goes
abbrev pub Leads : Net → Mail → Type 0
Leads w m = (k : ℕ) × (i : Input) × (arrival w m ≡ record { node = k; input = Some i }) × BringsInput (node_at w k) m i
