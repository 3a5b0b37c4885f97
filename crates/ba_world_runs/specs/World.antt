-- Believe: a world of nodes: what each node is, which records its disk keeps, and all that was ever sent.
use Rattle.std.specs.Prelude.{ℕ, List, Option}
use Rattle.ba_core.specs.declared.identifiers.Id.{Id}
use Rattle.ba_message.specs.declared.endpoints.Epr.{Epr}
use Rattle.ba_message.specs.declared.messages.Letter.{Letter}
use Rattle.ba_message.specs.declared.messages.Message.{Message}
use Rattle.ba_record.specs.declared.records.Record.{Record}
use Rattle.ba_scope.specs.Scope.{ScopeState}
use Rattle.ba_scope_ends.specs.declared.parts.Part.{Part}
use Rattle.ba_node_steps.specs.Addresses.{coordinator_of, participant_of, registration_of}
use Rattle.ba_node_steps.specs.Node.{Among, HasPart, NodeState}
use Rattle.ba_node_steps.specs.declared.inputs.Input.{Input}

-- a message that was sent: a letter, or the answer to the letter with this number
pub data Mail : Type 0 where
  letter : Letter → Mail
  answer : Id → Message → Mail

-- What happens at a node, at a moment: an input of the node's own, a message that is delivered there and the input to
-- which it leads, a tick of the object with this identifier; or the format of its journal is set. A moment is any number:
-- past the greatest u64 each deadline is past, as at it.
pub data Occasion : Type 0 where
  own : ℕ → Input → Occasion
  delivers : ℕ → Mail → Input → Occasion
  ticks : ℕ → Id → Occasion
  formats : Occasion

-- the node works; its disk has failed; its machine has stopped
pub data Mode : Type 0 where
  is_up is_closed is_down : Mode

-- A node in a world: its state; the records that its disk keeps, of which the state is the replay; what happened
-- last, where it is pending whether its record was kept; and its mode.
pub record WorldNode : Type 0 where
  pub state : NodeState
  pub records : List Record
  pub pending : Option Occasion
  pub mode : Mode

-- A world: its clock, all that was ever sent, and the node that has each number.
pub record World : Type 0 where
  pub clock : ℕ
  pub bag : List Mail
  pub nodes : ℕ → WorldNode

-- What safety speaks of: all that was ever sent, and the states of all nodes. Clocks, records, modes and what is
-- pending are no part of it.
pub record Net : Type 0 where
  pub bag : List Mail
  pub states : ℕ → NodeState

abbrev pub net_of : World → Net
net_of w = record { bag = w.bag; states = λ k. (w.nodes k).state }

abbrev pub node_at : Net → ℕ → NodeState
node_at w k = w.states k

-- ---- the objects of a node, and where they are found

abbrev pub ScopeAt : Net → ℕ → ScopeState → Type 0
ScopeAt w k s = Among (node_at w k).scopes s

-- a participant, lone or upward
abbrev pub PartAt : Net → ℕ → Part → Type 0
PartAt w k p = HasPart (node_at w k) p

abbrev pub registration_at : Net → ℕ → Id → Epr
registration_at w k id = registration_of (node_at w k).base id

abbrev pub coordinator_at : Net → ℕ → Id → Epr
coordinator_at w k id = coordinator_of (node_at w k).base id

abbrev pub participant_at : Net → ℕ → Id → Epr
participant_at w k id = participant_of (node_at w k).base id
