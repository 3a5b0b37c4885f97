-- Believe: what a letter of a node says, and who sends it.
use Rattle.std.specs.Prelude.{◌≡◌, ℕ, Bool, true, false, Some, IsTrue}
use Rattle.ba_core.specs.Messages.{notice_code}
use Rattle.ba_core.specs.declared.identifiers.Id.{Id}
use Rattle.ba_core.specs.declared.notices.Notice.{Notice}
use Rattle.ba_core.specs.declared.notices.Notice.TheVariants as notice
use Rattle.ba_core.specs.declared.states.StateName.TheVariants as shown
use Rattle.ba_message.specs.declared.messages.Letter.{Letter}
use Rattle.ba_message.specs.declared.messages.Message.{Message}
use Rattle.ba_message.specs.declared.messages.Message.TheVariants as message
use Rattle.ba_node_steps.specs.Addresses.{message_number, participant_of, register_code}
use Rattle.ba_node_steps.specs.Endpoints.{IsReachable}
use Rattle.ba_node_steps.specs.Node.{NodeState}

-- a Status names a state that is known
abbrev pub is_known_notice : Notice → Bool
is_known_notice (notice.Status shown.Other) = false
is_known_notice m = true

-- the code in the number of the message; of others than notices and Registers a node sends none by itself
abbrev pub message_code : Message → ℕ
message_code (message.Notice m) = notice_code m
message_code (message.Register protocol participant) = register_code
message_code m = 0

-- a notice, or the Register of this participant
abbrev pub IsOwnMessage : NodeState → Id → Message → Type 0
IsOwnMessage n id (message.Notice m) = IsTrue (is_known_notice m)
IsOwnMessage n id (message.Register (Some protocol) participant) = participant ≡ participant_of n.base id
IsOwnMessage n id m = ⊥

-- a letter that the object with this identifier sends
pub record IsLetterOf (n : NodeState) (id : Id) (l : Letter) : Type 0 where
  pub reachable : IsReachable l.to
  pub message : IsOwnMessage n id l.message
  pub number : l.number ≡ message_number (message_code l.message) id
