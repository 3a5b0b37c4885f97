-- Believe: these are the envelopes of SOAP 1.1 (section 4) with the headers of WS-Addressing 1.0 (Core, section 3): which
-- refusal comes first, and what an envelope says.
-- What differs between versions of SOAP is a sheet.
use Rattle.std.specs.Prelude.{bytes_eq, ◌≡◌, ℕ, Bool, true, false, not, ◌&&◌, ◌||◌, List, [], ◌∷◌, ◌++◌, Option, Some, None, Result, Ok}
use Rattle.std.specs.Prelude.{Err, if◌then◌else◌, filter, find, map, codes}
use Rattle.std.specs.List.{list_any, position}
use Rattle.ba_tree.specs.declared.trees.Tree.{Tree}
use Rattle.ba_tree.specs.declared.trees.Name.{Name}
use Rattle.ba_tree.specs.declared.trees.Attribute.{Attribute}
use Rattle.ba_tree.specs.Namespaces.{soap_space, wsa_space}
use Rattle.ba_soap.specs.declared.headers.Header.{Header}
use Rattle.ba_soap.specs.declared.headers.Header.TheVariants as header
use Rattle.ba_soap.specs.declared.headers.ReplyTo.{ReplyTo}
use Rattle.ba_soap.specs.declared.headers.ReplyTo.TheVariants as reply
use Rattle.ba_soap.specs.declared.headers.SoapFault.{SoapFault}
use Rattle.ba_soap.specs.declared.headers.SoapFault.TheVariants as fault
use Rattle.ba_soap.specs.declared.headers.Envelope.{Envelope}
use Rattle.ba_soap.specs.declared.version.Version.{Version}
use Rattle.ba_soap.specs.declared.version.Version.TheVariants as version
use Rattle.ba_soap_shapes.specs.Elements.{children, in_u32, text_of}
use Rattle.ba_soap_shapes.specs.Endpoints.{address_line, child_at, text_in, unmarked_tree}
use Rattle.ba_soap_shapes.specs.Forms.{is_there}

-- ---- what differs between versions of SOAP

pub record Dialect : Type 0 where
  -- the namespace of its elements and attributes
  pub space : List ℕ
  -- the values of mustUnderstand by which a block has to be understood, and by which it needn't be
  pub must : List (List ℕ)
  pub may : List (List ℕ)
  -- the attribute that says for whom a block is, and its values for this node
  pub role : List ℕ
  pub ours : List (List ℕ)

-- SOAP 1.1, section 4.2
abbrev pub soap11 : Dialect
soap11 = record {
  space = soap_space;
  must = codes "1" ∷ [];
  may = codes "0" ∷ [];
  role = codes "actor";
  ours = [] ∷ codes "http://schemas.xmlsoap.org/soap/actor/next" ∷ [];
}

-- the sheet of each version
abbrev pub dialect_of : Version → Dialect
dialect_of version.Soap11 = soap11

-- ---- attributes

abbrev pub is_called : List ℕ → List ℕ → Name → Bool
is_called space local n = bytes_eq n.space space && bytes_eq n.local local

-- the value of the first attribute of this name
abbrev pub value_at : List ℕ → List ℕ → List Attribute → Option (List ℕ)
value_at space local [] = None
value_at space local (a ∷ more) = if is_called space local a.name then Some a.value else value_at space local more

abbrev pub one_of : List (List ℕ) → List ℕ → Bool
one_of values value = list_any (bytes_eq value) values

abbrev pub option_is_one_of : List (List ℕ) → Option (List ℕ) → Bool
option_is_one_of values None = false
option_is_one_of values (Some value) = one_of values value

abbrev pub is_left_out_or_one_of : List (List ℕ) → Option (List ℕ) → Bool
is_left_out_or_one_of values None = true
is_left_out_or_one_of values (Some value) = one_of values value

-- ---- header blocks

-- a block that is a reference parameter (WS-Addressing 1.0 SOAP Binding, section 3.2)
abbrev pub is_parameter : Tree → Bool
is_parameter b = option_is_one_of (codes "true" ∷ codes "1" ∷ []) (value_at wsa_space (codes "IsReferenceParameter") b.attributes)

-- a block for this node that is no parameter: the only ones that are looked at
abbrev pub is_looked_at : Dialect → Tree → Bool
is_looked_at d b = not (is_parameter b) && is_left_out_or_one_of d.ours (value_at d.space d.role b.attributes)

abbrev pub flag_of : Dialect → Tree → Option (List ℕ)
flag_of d b = value_at d.space (codes "mustUnderstand") b.attributes

-- the headers of WS-Addressing
abbrev pub header_name : Header → List ℕ
header_name header.To = codes "To"
header_name header.From = codes "From"
header_name header.ReplyTo = codes "ReplyTo"
header_name header.FaultTo = codes "FaultTo"
header_name header.Action = codes "Action"
header_name header.MessageID = codes "MessageID"
header_name header.RelatesTo = codes "RelatesTo"

abbrev pub headers : List Header
headers = header.To ∷ header.From ∷ header.ReplyTo ∷ header.FaultTo ∷ header.Action ∷ header.MessageID ∷ header.RelatesTo ∷ []

abbrev pub is_header : Header → Tree → Bool
is_header h b = is_called wsa_space (header_name h) b.name

abbrev pub header_of : Tree → Option Header
header_of b = find (λ h. is_header h b) headers

-- ---- the rules, each with its refusal

-- a flag that is none
abbrev pub has_bad_flag : Dialect → Tree → Bool
has_bad_flag d b = is_looked_at d b && not (is_left_out_or_one_of (d.must ++ d.may) (flag_of d b))

-- a block that has to be understood and isn't
abbrev pub is_unknown : Option Header → Bool
is_unknown None = true
is_unknown (Some h) = false

abbrev pub is_not_understood : Dialect → Tree → Bool
is_not_understood d b = is_looked_at d b && (option_is_one_of d.must (flag_of d b) && is_unknown (header_of b))

abbrev pub block_fault : Option ℕ → Option SoapFault
block_fault None = None
block_fault (Some n) = Some (fault.MustUnderstand (in_u32 n))

-- each but RelatesTo stands once
abbrev pub stands_once : Header → Bool
stands_once header.RelatesTo = false
stands_once h = true

abbrev pub has_text : Header → Bool
has_text header.From = false
has_text header.ReplyTo = false
has_text header.FaultTo = false
has_text h = true

abbrev pub is_none : Option Tree → Bool
is_none None = true
is_none (Some t) = false

abbrev pub lacks_address : Header → Tree → Bool
lacks_address header.ReplyTo b = is_none (child_at address_line b)
lacks_address h b = false

-- a header that stands a second time, is empty, or is a ReplyTo without Address
abbrev pub is_invalid : Header → List Tree → Tree → Bool
is_invalid h before b = (stands_once h && list_any (is_header h) before)
    || ((has_text h && not (is_there (text_of b))) || lacks_address h b)

abbrev pub invalid_header : Option Header → List Tree → Tree → Option SoapFault
invalid_header None before b = None
invalid_header (Some h) before b = if is_invalid h before b then Some (fault.InvalidHeader h) else None

abbrev pub first_fault : Option SoapFault → Option SoapFault → Option SoapFault
first_fault None b = b
first_fault (Some a) b = Some a

-- the first in the order of the document, where these stand before
abbrev pub first_invalid_header : List Tree → List Tree → Option SoapFault
first_invalid_header before [] = None
first_invalid_header before (b ∷ more) = first_fault (invalid_header (header_of b) before b) (first_invalid_header (before ++ b ∷ []) more)

-- ---- what an envelope says

abbrev pub option_text : Option Tree → Option (List ℕ)
option_text None = None
option_text (Some b) = Some (text_of b)

abbrev pub header_text : Header → List Tree → Option (List ℕ)
header_text h mine = option_text (find (is_header h) mine)

-- a RelatesTo that says to which message this is a reply
abbrev pub is_reply_relation : Tree → Bool
is_reply_relation b = is_header header.RelatesTo b && is_left_out_or_one_of (codes "http://www.w3.org/2005/08/addressing/reply" ∷ [])
    (value_at [] (codes "RelationshipType") b.attributes)

abbrev pub reply_of : Option Tree → ReplyTo
reply_of None = reply.Absent
reply_of (Some b) = if bytes_eq (text_in (child_at address_line b)) (codes "http://www.w3.org/2005/08/addressing/anonymous") then
    reply.Anonymous else reply.Elsewhere

abbrev pub text_or_none : Option (List ℕ) → List ℕ
text_or_none None = []
text_or_none (Some text) = text

abbrev pub envelope_said : List Tree → List Tree → Tree → Envelope
envelope_said blocks mine body = record {
  to = header_text header.To mine;
  action = text_or_none (header_text header.Action mine);
  message_id = header_text header.MessageID mine;
  relates_to = option_text (find is_reply_relation mine);
  reply = reply_of (find (is_header header.ReplyTo) mine);
  parameters = map unmarked_tree (filter is_parameter blocks);
  body = body;
}

abbrev pub envelope_by_blocks : Dialect → List Tree → Tree → Envelope
envelope_by_blocks d blocks body = envelope_said blocks (filter (is_looked_at d) blocks) body

-- ---- the answer

abbrev pub first_refusal : List (Option SoapFault) → Option SoapFault
first_refusal [] = None
first_refusal (rule ∷ rules) = first_fault rule (first_refusal rules)

abbrev pub action_fault : Option (List ℕ) → Option SoapFault
action_fault None = Some (fault.HeaderRequired header.Action)
action_fault (Some text) = None

-- the first refusal of the header blocks, of which these are looked at
abbrev pub refusal_by : Dialect → List Tree → List Tree → Option SoapFault
refusal_by d blocks mine =
    first_refusal (
    (if list_any (has_bad_flag d) blocks then Some fault.Shape else None)
    ∷ block_fault (position (is_not_understood d) blocks)
    ∷ first_invalid_header [] mine
    ∷ action_fault (header_text header.Action mine)
    ∷ []
    )

abbrev pub blocks_refusal : Dialect → List Tree → Option SoapFault
blocks_refusal d blocks = refusal_by d blocks (filter (is_looked_at d) blocks)

abbrev pub answer_unless_refused : Option SoapFault → Envelope → Result Envelope SoapFault
answer_unless_refused None e = Ok e
answer_unless_refused (Some f) e = Err f

-- the body holds one element
abbrev pub answer_by_body : Dialect → List Tree → List Tree → Result Envelope SoapFault
answer_by_body d blocks (body ∷ []) = answer_unless_refused (blocks_refusal d blocks) (envelope_by_blocks d blocks body)
answer_by_body d blocks elements = Err fault.Shape

abbrev pub is_part : Dialect → List ℕ → Tree → Bool
is_part d local t = is_called d.space local t.name

-- the envelope holds nothing, a Header, a Body, or a Header and a Body
abbrev pub answer_by_parts : Dialect → List Tree → Result Envelope SoapFault
answer_by_parts d [] = Err fault.NoBody
answer_by_parts d (x ∷ []) =
    if is_part d (codes "Body") x then answer_by_body d [] (children x.content)
    else (if is_part d (codes "Header") x then Err fault.NoBody else Err fault.Shape)
answer_by_parts d (x ∷ y ∷ []) =
    if is_part d (codes "Header") x && is_part d (codes "Body") y then answer_by_body d (children x.content) (children y.content) else
    Err fault.Shape
answer_by_parts d (x ∷ y ∷ z ∷ more) = Err fault.Shape

abbrev pub envelope_answer : Dialect → Tree → Result Envelope SoapFault
envelope_answer d t =
    if bytes_eq t.name.local (codes "Envelope")
    then (if bytes_eq t.name.space d.space then answer_by_parts d (children t.content) else Err fault.VersionMismatch)
    else Err fault.Shape

-- this answer, or want of memory
abbrev pub IsSoapAnswer : {X : Type 0} → Result X SoapFault → Result X SoapFault → Type 0
IsSoapAnswer expected (Err fault.Memory) = Unit {0}
IsSoapAnswer expected answer = answer ≡ expected
