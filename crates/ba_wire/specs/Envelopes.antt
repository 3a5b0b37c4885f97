-- Believe: this is the envelope that is written of a route and a message, and the letter that a node sends of them; and
-- these have one that is read back.
use Rattle.std.specs.Prelude.{ℕ, Bool, true, false, not, ◌&&◌, ◌||◌, List, ◌++◌, Option, Some, None, IsTrue, is_some, codes}
use Rattle.ba_core.specs.declared.codes.Code.{Code}
use Rattle.ba_core.specs.declared.codes.Code.TheVariants as code
use Rattle.ba_core.specs.declared.notices.Notice.{Notice}
use Rattle.ba_core.specs.declared.notices.Notice.TheVariants as notice
use Rattle.ba_core.specs.declared.states.StateName.{StateName}
use Rattle.ba_core.specs.declared.states.StateName.TheVariants as state
use Rattle.ba_message.specs.Endpoints.{Fits, are_unmarked}
use Rattle.ba_message.specs.declared.endpoints.Epr.{Epr}
use Rattle.ba_message.specs.declared.messages.Context.{Context}
use Rattle.ba_message.specs.declared.messages.Message.{Message}
use Rattle.ba_message.specs.declared.messages.Message.TheVariants as message
use Rattle.ba_soap.specs.declared.headers.Envelope.{Envelope}
use Rattle.ba_soap.specs.declared.headers.ReplyTo.TheVariants as reply
use Rattle.ba_soap.specs.Elements.{envelope_element, is_bare_text, is_none_or_bare, notification_element}
use Rattle.ba_soap.specs.Envelopes.{soap11}
use Rattle.ba_tree.specs.declared.trees.Tree.{Tree}
use Rattle.ba_tree.specs.Namespaces.{wsa_space, wscoor_space}
use Rattle.ba_wire.specs.declared.bodies.Body.TheVariants as body
use Rattle.ba_wire.specs.declared.elements.Family.{Family}
use Rattle.ba_wire.specs.declared.elements.Family.TheVariants as family
use Rattle.ba_wire.specs.declared.routes.Route.{Route}
use Rattle.ba_wire.specs.Actions.{element_uri}
use Rattle.ba_wire.specs.Contexts.{TimeFits}
use Rattle.ba_wire.specs.Elements.{body_element, body_of_message, family_of}
use Rattle.ba_wire.specs.Meaning.{asks_for_reply}
use Rattle.ba_xml_writer.specs.OneText.{one_text}
use Rattle.ba_xml_writer.specs.Writable.{IsWritable}

-- ---- the envelope

-- the action of a fault, by whose code it is
abbrev pub fault_action : Family → List ℕ
fault_action family.Soap = wsa_space ++ codes "/soap/fault"
fault_action family.Coordination = wscoor_space ++ codes "/fault"
fault_action family.Addressing = wsa_space ++ codes "/fault"

abbrev pub action_for : Message → List ℕ
action_for (message.Fault code) = fault_action (family_of code)
action_for m = element_uri (body_of_message m)

-- no ReplyTo is written: a reply comes on the way back
abbrev pub envelope_of : Route → Message → Envelope
envelope_of r m = record {
  to = r.to;
  action = action_for m;
  message_id = r.message_id;
  relates_to = r.relates_to;
  reply = reply.Absent;
  parameters = r.parameters;
  body = body_element m;
}

abbrev pub envelope_tree : Route → Message → Tree
envelope_tree r m = envelope_element soap11 (envelope_of r m)

-- the canonical text of an envelope
abbrev pub envelope_text : Route → Message → List ℕ
envelope_text r m = one_text (envelope_tree r m)

-- ---- letters

-- the envelope of a notice says whose it is, and that it has no reply (WS-BusinessActivity 1.2, on the use of
-- WS-Addressing headers)
abbrev pub notice_tree : Epr → Route → Message → Tree
notice_tree source r m = notification_element soap11 source (envelope_of r m)

-- what a node sends of itself: a notice, or a Register, which wants a reply and is written as any other envelope
abbrev pub letter_tree : Epr → Route → Message → Tree
letter_tree source r (message.Notice n) = notice_tree source r (message.Notice n)
letter_tree source r m = envelope_tree r m

-- the canonical text of a letter from this endpoint
abbrev pub letter_text : Epr → Route → Message → List ℕ
letter_text source r m = one_text (letter_tree source r m)

-- ---- which messages name what this project knows

abbrev pub is_known_state : StateName → Bool
is_known_state state.Other = false
is_known_state s = true

abbrev pub has_known_state : Notice → Bool
has_known_state (notice.Status s) = is_known_state s
has_known_state n = true

abbrev pub is_known_code : Code → Bool
is_known_code code.Other = false
is_known_code c = true

abbrev pub is_known_context : Option Context → Bool
is_known_context None = true
is_known_context (Some c) = is_some c.kind

-- it names no protocol, no coordination type, no state and no code that this project doesn't know
abbrev pub is_known : Message → Bool
is_known (message.Create expires current kind up) = is_known_context current && is_some kind
is_known (message.Created context) = is_some context.kind
is_known (message.Register protocol participant) = is_some protocol
is_known (message.Registered coordinator) = true
is_known (message.Notice n) = has_known_state n
is_known (message.Fault c) = is_known_code c

-- ---- which can be written so that they are read back

abbrev pub ContextFits : Option Context → Type 0
ContextFits None = Unit {0}
ContextFits (Some c) = Fits c.registration

abbrev pub EndpointsFit : Message → Type 0
EndpointsFit (message.Create expires current kind up) = ContextFits current
EndpointsFit (message.Created context) = Fits context.registration
EndpointsFit (message.Register protocol participant) = Fits participant
EndpointsFit (message.Registered coordinator) = Fits coordinator
EndpointsFit m = Unit {0}

abbrev pub is_bare_context : Option Context → Bool
is_bare_context None = true
is_bare_context (Some c) = is_bare_text c.identifier

-- no identifier of a context is empty or has white space at its ends
abbrev pub has_bare_identifiers : Message → Bool
has_bare_identifiers (message.Create expires current kind up) = is_bare_context current
has_bare_identifiers (message.Created context) = is_bare_text context.identifier
has_bare_identifiers m = true

-- a route and a message that have an envelope
pub record HasEnvelope (r : Route) (m : Message) : Type 0 where
  pub known : IsTrue (is_known m)
  pub fit : EndpointsFit m
  pub identifiers : IsTrue (has_bare_identifiers m)
  pub to : IsTrue (is_none_or_bare r.to)
  pub message_id : IsTrue (is_none_or_bare r.message_id)
  pub relates_to : IsTrue (is_none_or_bare r.relates_to)
  -- no parameter is marked as one already
  pub unmarked : IsTrue (are_unmarked r.parameters)

-- and whose envelope keeps the rules and limits of texts
pub record CanEncode (r : Route) (m : Message) : Type 0 where
  pub envelope : HasEnvelope r m
  pub writable : IsWritable (envelope_tree r m)

-- and whose letter from this endpoint keeps them
pub record CanEncodeLetter (source : Epr) (r : Route) (m : Message) : Type 0 where
  pub envelope : HasEnvelope r m
  pub writable : IsWritable (letter_tree source r m)

-- who asks for a reply gives a MessageID
abbrev pub is_numbered : Route → Message → Bool
is_numbered r m = not (asks_for_reply (body_of_message m)) || is_some r.message_id

abbrev pub ContextTimeFits : Option Context → Type 0
ContextTimeFits None = Unit {0}
ContextTimeFits (Some c) = TimeFits c.expires

-- each Expires is a number of 32 bits, as the type has it
abbrev pub TimesFit : Message → Type 0
TimesFit (message.Create expires current kind up) = TimeFits expires × ContextTimeFits current
TimesFit (message.Created context) = TimeFits context.expires
TimesFit m = Unit {0}
