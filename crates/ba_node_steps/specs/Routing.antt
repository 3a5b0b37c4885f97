-- Believe: where a message goes: whose text an address ends with, the input to which the message leads there, and what answers it.
use Rattle.std.specs.Prelude.{ℕ, ◌-◌, List, length, drop, nat_eq, Option, None, Some, if◌then◌else◌}
use Rattle.std.specs.Int.{from_be_bytes, w128}
use Rattle.std.specs.Str.{bytes_eq}
use Rattle.ba_core.specs.Numbers.{code_part}
use Rattle.ba_core.specs.declared.identifiers.Id.{Id}
use Rattle.ba_core.specs.declared.protocols.Side.{Side}
use Rattle.ba_core.specs.declared.protocols.Side.TheVariants.{Coordinator, Participant}
use Rattle.ba_message.specs.Endpoints.{same_epr}
use Rattle.ba_message.specs.declared.messages.Letter.{Letter}
use Rattle.ba_message.specs.declared.messages.Message.{Message}
use Rattle.ba_message.specs.declared.messages.Message.TheVariants as message
use Rattle.ba_node_steps.specs.Addresses.{coordinator_of, hyphenated, participant_of, register_code, registration_of, sender_of}
use Rattle.ba_node_steps.specs.Node.{NodeState}
use Rattle.ba_node_steps.specs.declared.answers.Reply.{Reply}
use Rattle.ba_node_steps.specs.declared.answers.Reply.TheVariants as reply
use Rattle.ba_node_steps.specs.declared.inputs.Input.{Input}
use Rattle.ba_node_steps.specs.declared.inputs.Input.TheVariants as input
use Rattle.uuid.specs.Text.{parsed}

-- ---- the object to whose endpoint a letter was sent

-- the identifier with this number, if this is its text
abbrev pub if_its_text : List ℕ → ℕ → Option Id
if_its_text text n = if bytes_eq text (hyphenated n) then Some (record { 0 = n }) else None

-- a UUID's number: any of its texts may have been read, and this one alone is an identifier's
abbrev pub identifier_of_bytes : List ℕ → Option (List ℕ) → Option Id
identifier_of_bytes text None = None
identifier_of_bytes text (Some bytes) = if_its_text text (from_be_bytes w128 bytes)

-- the identifier whose text this is
abbrev pub identifier_of_text : List ℕ → Option Id
identifier_of_text text = identifier_of_bytes text (parsed text)

-- the identifier whose text stands at the end of an address
abbrev pub identifier_in : List ℕ → Option Id
identifier_in address = identifier_of_text (drop (length address - 36) address)

-- ---- the input to which a message leads

abbrev pub register_input : Id → Message → Option Input
register_input scope (message.Register protocol participant) = Some (input.Register scope protocol participant)
register_input scope m = None

abbrev pub notice_input : Side → Id → Message → Option Input
notice_input side id (message.Notice n) = Some (input.Notice side id n)
notice_input side id m = None

-- a letter at the object with this identifier, if it was sent to one of the endpoints of that
abbrev pub input_by_address : NodeState → Id → Letter → Option Input
input_by_address n id l =
    if same_epr l.to (registration_of n.base id) then register_input id l.message
    else if same_epr l.to (coordinator_of n.base id) then notice_input Coordinator id l.message
    else if same_epr l.to (participant_of n.base id) then notice_input Participant id l.message
    else None

-- the identifier of an object is no message's number
abbrev pub letter_input : NodeState → Id → Letter → Option Input
letter_input n id l = if nat_eq (code_part id.0) 0 then input_by_address n id l else None

-- ---- answers: a RegisterResponse, or a fault (WS-Coordination 1.2, section 3)

-- the answer to a letter, by the reply to its input; another reply is no answer
abbrev pub answer_of_reply : Reply → Option Message
answer_of_reply (reply.Enrolment coordinator) = Some (message.Registered coordinator)
answer_of_reply (reply.SoapFault c) = Some (message.Fault c)
answer_of_reply r = None

-- what the participant that registered is told
abbrev pub told_input : Id → Message → Option Input
told_input id (message.Registered coordinator) = Some (input.Enrolled id coordinator)
told_input id (message.Fault c) = Some (input.RefusedBy id c)
told_input id m = None

-- the answer to the letter with this number, if that was a Register; the answer to a notice leads nowhere
abbrev pub answer_input : Id → Message → Option Input
answer_input number m = if nat_eq (code_part number.0) register_code then told_input (record { 0 = sender_of number }) m else None
