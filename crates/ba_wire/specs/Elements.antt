-- Believe: this is how messages are written: the body element of each, its children in their order
-- (WS-Coordination 1.2, sections 2 and 3; WS-BusinessActivity 1.2, section 3; SOAP 1.1, section 4.4).
use Rattle.std.specs.Prelude.{ℕ, List, [], ◌∷◌, ◌++◌, Option, Some, None, map, codes}
use Rattle.std.specs.Fmt.{decimal}
use Rattle.ba_core.specs.Texts.{code_text, state_text}
use Rattle.ba_core.specs.declared.codes.Code.{Code}
use Rattle.ba_core.specs.declared.codes.Code.TheVariants as code
use Rattle.ba_core.specs.declared.notices.Notice.{Notice}
use Rattle.ba_core.specs.declared.notices.Notice.TheVariants as notice
use Rattle.ba_core.specs.declared.protocols.Kind.{Kind}
use Rattle.ba_core.specs.declared.protocols.Kind.TheVariants.{Atomic, Mixed}
use Rattle.ba_core.specs.declared.protocols.Protocol.{Protocol}
use Rattle.ba_core.specs.declared.protocols.Protocol.TheVariants.{Pc, Cc}
use Rattle.ba_message.specs.declared.messages.Context.{Context}
use Rattle.ba_message.specs.declared.messages.Message.{Message}
use Rattle.ba_message.specs.declared.messages.Message.TheVariants as message
use Rattle.ba_tree.specs.declared.trees.Name.{Name}
use Rattle.ba_tree.specs.declared.trees.Tree.{Tree}
use Rattle.ba_tree.specs.declared.trees.Content.TheVariants.{Child, Text}
use Rattle.ba_tree.specs.Namespaces.{own_space, wsba_space, wscoor_space}
use Rattle.ba_soap_shapes.specs.Endpoints.{bare_element, endpoint_element}
use Rattle.ba_wire.specs.Actions.{body_name, body_space}
use Rattle.ba_wire.specs.Bodies.{atomic_outcome, coordinator_completion, mixed_outcome, participant_completion}
use Rattle.ba_wire.specs.declared.bodies.Body.{Body}
use Rattle.ba_wire.specs.declared.bodies.Body.TheVariants as body
use Rattle.ba_wire.specs.declared.elements.Family.{Family}
use Rattle.ba_wire.specs.declared.elements.Family.TheVariants as family

-- ---- texts

-- the URI of a coordination type; none where it isn't known
abbrev pub kind_uri : Option Kind → List ℕ
kind_uri None = []
kind_uri (Some Atomic) = atomic_outcome
kind_uri (Some Mixed) = mixed_outcome

abbrev pub protocol_uri : Option Protocol → List ℕ
protocol_uri None = []
protocol_uri (Some Pc) = participant_completion
protocol_uri (Some Cc) = coordinator_completion

-- whose code it is
abbrev pub family_of : Code → Family
family_of code.InvalidState = family.Coordination
family_of code.InvalidProtocol = family.Coordination
family_of code.InvalidParameters = family.Coordination
family_of code.CannotCreateContext = family.Coordination
family_of code.CannotRegisterParticipant = family.Coordination
family_of code.InvalidAddressingHeader = family.Addressing
family_of code.MessageAddressingHeaderRequired = family.Addressing
family_of code.DestinationUnreachable = family.Addressing
family_of code.ActionNotSupported = family.Addressing
family_of code.EndpointUnavailable = family.Addressing
family_of c = family.Soap

-- the prefix that a canonical text declares for their namespace
abbrev pub prefix_of_family : Family → List ℕ
prefix_of_family family.Soap = codes "soap:"
prefix_of_family family.Coordination = codes "wscoor:"
prefix_of_family family.Addressing = codes "wsa:"

-- ---- elements

abbrev pub wscoor_name : List ℕ → Name
wscoor_name local = record { space = wscoor_space; local = local }

abbrev pub wsba_name : List ℕ → Name
wsba_name local = record { space = wsba_space; local = local }

abbrev pub own_name : List ℕ → Name
own_name local = record { space = own_space; local = local }

abbrev pub bare_name : List ℕ → Name
bare_name local = record { space = []; local = local }

-- an element that holds a text alone
abbrev pub text_in_element : Name → List ℕ → Tree
text_in_element n text = bare_element n (Text text ∷ [])

-- an element that holds these
abbrev pub element_of_parts : Name → List Tree → Tree
element_of_parts n parts = bare_element n (map Child parts)

abbrev pub expires_part : Option ℕ → List Tree
expires_part None = []
expires_part (Some n) = text_in_element (wscoor_name (codes "Expires")) (decimal n) ∷ []

abbrev pub type_part : Option Kind → Tree
type_part kind = text_in_element (wscoor_name (codes "CoordinationType")) (kind_uri kind)

-- ---- a context

abbrev pub context_parts : Context → List Tree
context_parts c =
    text_in_element (wscoor_name (codes "Identifier")) c.identifier
    ∷ (expires_part c.expires ++ (type_part c.kind ∷ endpoint_element (wscoor_name (codes "RegistrationService")) c.registration ∷ []))

abbrev pub context_element : List ℕ → Context → Tree
context_element local c = element_of_parts (wscoor_name local) (context_parts c)

abbrev pub current_part : Option Context → List Tree
current_part None = []
current_part (Some c) = context_element (codes "CurrentContext") c ∷ []

-- ---- bodies

-- written for CoordinatorCompletion alone
abbrev pub upward_part : Protocol → List Tree
upward_part Pc = []
upward_part Cc = text_in_element (own_name (codes "Upward")) (codes "cc") ∷ []

-- what stands in the element of a notice
abbrev pub notice_parts : Notice → List Tree
notice_parts (notice.Status state) = text_in_element (wsba_name (codes "State")) (codes "wsba:" ++ state_text state) ∷ []
notice_parts notice.Fail = text_in_element (wsba_name (codes "ExceptionIdentifier")) (codes "wsba:Fail") ∷ []
notice_parts n = []

abbrev pub fault_parts : Code → List Tree
fault_parts code =
    text_in_element (bare_name (codes "faultcode")) (prefix_of_family (family_of code) ++ code_text code)
    ∷ text_in_element (bare_name (codes "faultstring")) (code_text code) ∷ []

abbrev pub body_parts : Message → List Tree
body_parts (message.Create expires current kind up) = expires_part expires ++ (current_part current ++ (type_part kind ∷ upward_part up))
body_parts (message.Created context) = context_element (codes "CoordinationContext") context ∷ []
body_parts (message.Register protocol participant) =
    text_in_element (wscoor_name (codes "ProtocolIdentifier")) (protocol_uri protocol)
    ∷ endpoint_element (wscoor_name (codes "ParticipantProtocolService")) participant ∷ []
body_parts (message.Registered coordinator) = endpoint_element (wscoor_name (codes "CoordinatorProtocolService")) coordinator ∷ []
body_parts (message.Notice n) = notice_parts n
body_parts (message.Fault code) = fault_parts code

abbrev pub body_of_notice : Notice → Body
body_of_notice (notice.Status state) = body.Status
body_of_notice n = body.Notice n

abbrev pub body_of_message : Message → Body
body_of_message (message.Create expires current kind up) = body.Create
body_of_message (message.Created context) = body.Created
body_of_message (message.Register protocol participant) = body.Register
body_of_message (message.Registered coordinator) = body.Registered
body_of_message (message.Notice n) = body_of_notice n
body_of_message (message.Fault code) = body.Fault

abbrev pub name_of_body : Body → Name
name_of_body b = record { space = body_space b; local = body_name b }

-- the body element of a message
abbrev pub body_element : Message → Tree
body_element m = element_of_parts (name_of_body (body_of_message m)) (body_parts m)
