-- Believe: these are the shapes of body elements, a sheet for each, and what the elements mean
-- (WS-Coordination 1.2, sections 2 and 3; WS-BusinessActivity 1.2, section 3; SOAP 1.1, section 4.4).
use Rattle.std.specs.Prelude.{bytes_eq, ℕ, Bool, true, false, ◌||◌, List, [], ◌∷◌, ◌++◌, Option, Some, None, if◌then◌else◌, find, codes}
use Rattle.std.specs.Str.Parse.{digits_value}
use Rattle.ba_core.specs.Texts.{code_text, state_text}
use Rattle.ba_core.specs.declared.codes.Code.{Code}
use Rattle.ba_core.specs.declared.codes.Code.TheVariants as code
use Rattle.ba_core.specs.declared.notices.Notice.TheVariants as notice
use Rattle.ba_core.specs.declared.protocols.Kind.{Kind}
use Rattle.ba_core.specs.declared.protocols.Kind.TheVariants.{Atomic, Mixed}
use Rattle.ba_core.specs.declared.protocols.Protocol.{Protocol}
use Rattle.ba_core.specs.declared.protocols.Protocol.TheVariants.{Pc, Cc}
use Rattle.ba_core.specs.declared.states.StateName.{StateName}
use Rattle.ba_core.specs.declared.states.StateName.TheVariants as state
use Rattle.ba_message.specs.declared.messages.Context.{Context}
use Rattle.ba_message.specs.declared.endpoints.Epr.{Epr}
use Rattle.ba_message.specs.declared.messages.Message.{Message}
use Rattle.ba_message.specs.declared.messages.Message.TheVariants as message
use Rattle.ba_tree.specs.declared.trees.Tree.{Tree}
use Rattle.ba_tree.specs.Namespaces.{wsba_space}
use Rattle.ba_soap_shapes.specs.declared.forms.Plain.TheVariants as plain
use Rattle.ba_soap_shapes.specs.declared.shapes.Space.TheVariants as space
use Rattle.ba_soap_shapes.specs.Elements.{own_texts, text_of}
use Rattle.ba_soap_shapes.specs.Endpoints.{child_at, endpoint_look, endpoint_of, text_at}
use Rattle.ba_soap_shapes.specs.Forms.{is_number, local_part, plain_look, mismatch_unless}
use Rattle.ba_soap_shapes.specs.Shapes.{Line, Look, optional_child, required_child, rows_misfit}
use Rattle.ba_wire.specs.declared.forms.Part.{Part}
use Rattle.ba_wire.specs.declared.forms.Part.TheVariants as part
use Rattle.ba_wire.specs.declared.forms.Whole.{Whole}
use Rattle.ba_wire.specs.declared.forms.Whole.TheVariants as whole
use Rattle.ba_wire.specs.declared.bodies.Body.{Body}
use Rattle.ba_wire.specs.declared.bodies.Body.TheVariants as body

-- ---- forms

-- `pc` or `cc`, as it stands
abbrev pub is_upward : List ℕ → Bool
is_upward text = bytes_eq text (codes "pc") || bytes_eq text (codes "cc")

abbrev pub part_look : Part → Look
part_look (part.Plain form) = plain_look form
part_look part.Upward = λ n t. mismatch_unless (is_upward (own_texts t.content)) n
part_look part.Endpoint = endpoint_look

-- ---- a context

abbrev pub text_form : Part
text_form = part.Plain plain.Text

abbrev pub identifier_line : Line Part
identifier_line = required_child space.Parent (codes "Identifier") text_form

abbrev pub expires_line : Line Part
expires_line = optional_child space.Parent (codes "Expires") (part.Plain plain.Number)

abbrev pub coordination_type_line : Line Part
coordination_type_line = required_child space.Parent (codes "CoordinationType") text_form

abbrev pub registration_service_line : Line Part
registration_service_line = required_child space.Parent (codes "RegistrationService") part.Endpoint

abbrev pub context_lines : List (Line Part)
context_lines = identifier_line ∷ expires_line ∷ coordination_type_line ∷ registration_service_line ∷ []

abbrev pub whole_look : Whole → Look
whole_look (whole.Part form) = part_look form
whole_look whole.Context = rows_misfit part_look context_lines

-- ---- bodies

abbrev pub in_whole : Line Part → Line Whole
in_whole row = record { space = row.space; local = row.local; need = row.need; form = whole.Part row.form }

abbrev pub current_context_line : Line Whole
current_context_line = optional_child space.Parent (codes "CurrentContext") whole.Context

abbrev pub upward_line : Line Whole
upward_line = optional_child space.Own (codes "Upward") (whole.Part part.Upward)

abbrev pub coordination_context_line : Line Whole
coordination_context_line = required_child space.Parent (codes "CoordinationContext") whole.Context

abbrev pub protocol_identifier_line : Line Whole
protocol_identifier_line = required_child space.Parent (codes "ProtocolIdentifier") (whole.Part text_form)

abbrev pub participant_service_line : Line Whole
participant_service_line = required_child space.Parent (codes "ParticipantProtocolService") (whole.Part part.Endpoint)

abbrev pub coordinator_service_line : Line Whole
coordinator_service_line = required_child space.Parent (codes "CoordinatorProtocolService") (whole.Part part.Endpoint)

abbrev pub state_line : Line Whole
state_line = required_child space.Parent (codes "State") (whole.Part (part.Plain plain.Qname))

abbrev pub fault_code_line : Line Whole
fault_code_line = required_child space.Bare (codes "faultcode") (whole.Part (part.Plain plain.Qname))

abbrev pub skipped_line : List ℕ → Line Whole
skipped_line local = optional_child space.Bare local (whole.Part (part.Plain plain.Skipped))

abbrev pub lines_of_body : Body → List (Line Whole)
lines_of_body body.Create = in_whole expires_line ∷ current_context_line ∷ in_whole coordination_type_line ∷ upward_line ∷ []
lines_of_body body.Created = coordination_context_line ∷ []
lines_of_body body.Register = protocol_identifier_line ∷ participant_service_line ∷ []
lines_of_body body.Registered = coordinator_service_line ∷ []
lines_of_body body.Status = state_line ∷ []
lines_of_body (body.Notice n) = []
lines_of_body body.Fault = fault_code_line ∷ skipped_line (codes "faultstring") ∷ skipped_line (codes "faultactor")
    ∷ skipped_line (codes "detail") ∷ []

abbrev pub body_look : Body → Look
body_look b = rows_misfit whole_look (lines_of_body b)

-- ---- what they mean

abbrev pub atomic_outcome : List ℕ
atomic_outcome = wsba_space ++ codes "/AtomicOutcome"

abbrev pub mixed_outcome : List ℕ
mixed_outcome = wsba_space ++ codes "/MixedOutcome"

abbrev pub kind_of : List ℕ → Option Kind
kind_of uri = if bytes_eq uri atomic_outcome then Some Atomic else (if bytes_eq uri mixed_outcome then Some Mixed else None)

abbrev pub participant_completion : List ℕ
participant_completion = wsba_space ++ codes "/ParticipantCompletion"

abbrev pub coordinator_completion : List ℕ
coordinator_completion = wsba_space ++ codes "/CoordinatorCompletion"

abbrev pub protocol_of : List ℕ → Option Protocol
protocol_of uri = if bytes_eq uri participant_completion then Some Pc else (if bytes_eq uri coordinator_completion then Some Cc else None)

abbrev pub states : List StateName
states =
    state.Active ∷ state.Completing ∷ state.Canceling ∷ state.CancelingActive ∷ state.CancelingCompleting ∷ state.Completed ∷ state.Closing
    ∷ state.Compensating ∷ state.FailingActive ∷ state.FailingCompleting ∷ state.FailingCanceling ∷ state.FailingCompensating
    ∷ state.NotCompleting ∷ state.Exiting ∷ state.Ended ∷ []

abbrev pub value_or : {X : Type 0} → X → Option X → X
value_or other None = other
value_or other (Some x) = x

abbrev pub state_of : List ℕ → StateName
state_of text = value_or state.Other (find (λ s. bytes_eq text (state_text s)) states)

abbrev pub all_codes : List Code
all_codes =
    code.VersionMismatch ∷ code.MustUnderstand ∷ code.Client ∷ code.Server ∷ code.InvalidState ∷ code.InvalidProtocol
    ∷ code.InvalidParameters ∷ code.CannotCreateContext ∷ code.CannotRegisterParticipant ∷ code.InvalidAddressingHeader
    ∷ code.MessageAddressingHeaderRequired ∷ code.DestinationUnreachable ∷ code.ActionNotSupported ∷ code.EndpointUnavailable ∷ []

abbrev pub code_of : List ℕ → Code
code_of text = value_or code.Other (find (λ c. bytes_eq text (code_text c)) all_codes)

abbrev pub number_by : Bool → List ℕ → Option ℕ
number_by true text = Some (digits_value 10 text)
number_by false text = None

abbrev pub number_in : Option Tree → Option ℕ
number_in None = None
number_in (Some t) = number_by (is_number (text_of t)) (text_of t)

abbrev pub number_at : {F : Type 0} → Line F → Tree → Option ℕ
number_at row t = number_in (child_at row t)

abbrev pub endpoint_in : Option Tree → Epr
endpoint_in None = record { address = []; parameters = [] }
endpoint_in (Some t) = endpoint_of t

abbrev pub endpoint_at : {F : Type 0} → Line F → Tree → Epr
endpoint_at row t = endpoint_in (child_at row t)

abbrev pub context_of : Tree → Context
context_of t = record {
  identifier = text_at identifier_line t;
  expires = number_at expires_line t;
  kind = kind_of (text_at coordination_type_line t);
  registration = endpoint_at registration_service_line t;
}

abbrev pub context_in : Option Tree → Option Context
context_in None = None
context_in (Some t) = Some (context_of t)

abbrev pub empty_context : Context
empty_context = record { identifier = []; expires = None; kind = None; registration = record { address = []; parameters = [] } }

abbrev pub up_in : Option Tree → Protocol
up_in None = Pc
up_in (Some t) = if bytes_eq (own_texts t.content) (codes "cc") then Cc else Pc

abbrev pub message_of : Body → Tree → Message
message_of body.Create t = message.Create (number_at (in_whole expires_line) t) (context_in (child_at current_context_line t))
    (kind_of (text_at (in_whole coordination_type_line) t)) (up_in (child_at upward_line t))
message_of body.Created t = message.Created (value_or empty_context (context_in (child_at coordination_context_line t)))
message_of body.Register t = message.Register (protocol_of (text_at protocol_identifier_line t)) (endpoint_at participant_service_line t)
message_of body.Registered t = message.Registered (endpoint_at coordinator_service_line t)
message_of body.Status t = message.Notice (notice.Status (state_of (local_part (text_at state_line t))))
message_of (body.Notice n) t = message.Notice n
message_of body.Fault t = message.Fault (code_of (local_part (text_at fault_code_line t)))
