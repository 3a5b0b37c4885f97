-- Believe: this is how an envelope is written: its headers in their order, and the marks of its parameters
-- (SOAP 1.1, section 4; WS-Addressing 1.0 SOAP Binding, section 3.3).
-- A notification says besides whose it is, and that no reply is wanted (WS-Addressing 1.0 Core, sections 2.1 and 3).
use Rattle.std.specs.Prelude.{◌≡◌, ℕ, Bool, true, ◌&&◌, List, [], ◌∷◌, ◌++◌, Option, Some, None, if◌then◌else◌, map, IsTrue, codes}
use Rattle.std.specs.Ordering.{is_lt}
use Rattle.ba_tree.specs.declared.trees.Tree.{Tree}
use Rattle.ba_tree.specs.declared.trees.Attribute.{Attribute}
use Rattle.ba_tree.specs.declared.trees.Content.TheVariants.{Child, Text}
use Rattle.ba_tree.specs.Characters.{has_bare_ends}
use Rattle.ba_tree.specs.Trees.{name_cmp}
use Rattle.ba_message.specs.Endpoints.{are_unmarked}
use Rattle.ba_message.specs.declared.endpoints.Epr.{Epr}
use Rattle.ba_message.specs.declared.endpoints.TheConstants.{PARAMETER_MARK}
use Rattle.ba_soap_shapes.specs.Endpoints.{bare_element, endpoint_element, wsa_name}
use Rattle.ba_soap_shapes.specs.Forms.{is_there}
use Rattle.ba_soap.specs.declared.headers.Envelope.{Envelope}
use Rattle.ba_soap.specs.declared.headers.Header.{Header}
use Rattle.ba_soap.specs.declared.headers.Header.TheVariants as header
use Rattle.ba_soap.specs.declared.headers.ReplyTo.TheVariants as reply
use Rattle.ba_soap.specs.Envelopes.{Dialect, header_name}

-- ---- parameters

-- the attribute by which a header block is marked as a parameter
abbrev pub parameter_mark : Attribute
parameter_mark = record { name = wsa_name PARAMETER_MARK.now; value = codes "true" }

-- an attribute among others, before the first whose name is above its own
abbrev pub with_attribute : Attribute → List Attribute → List Attribute
with_attribute a [] = a ∷ []
with_attribute a (b ∷ more) = if is_lt (name_cmp a.name b.name) then a ∷ b ∷ more else b ∷ with_attribute a more

-- a parameter as a header block
abbrev pub marked_tree : Tree → Tree
marked_tree t = record { name = t.name; attributes = with_attribute parameter_mark t.attributes; content = t.content }

-- ---- header blocks

abbrev pub text_block : Header → List ℕ → Tree
text_block h text = bare_element (wsa_name (header_name h)) (Text text ∷ [])

-- a header that may be left out
abbrev pub optional_block : Header → Option (List ℕ) → List Tree
optional_block h None = []
optional_block h (Some text) = text_block h text ∷ []

-- To, Action, MessageID, RelatesTo
abbrev pub text_blocks : Envelope → List Tree
text_blocks e =
    optional_block header.To e.to
    ++ (text_block header.Action e.action ∷ (optional_block header.MessageID e.message_id ++ optional_block header.RelatesTo e.relates_to))

-- and the parameters after them
abbrev pub header_blocks : Envelope → List Tree
header_blocks e = text_blocks e ++ map marked_tree e.parameters

-- ---- the header blocks of a notification

-- the endpoint at which nothing is wanted
abbrev pub none_endpoint : Epr
none_endpoint = record { address = codes "http://www.w3.org/2005/08/addressing/none"; parameters = [] }

abbrev pub endpoint_block : Header → Epr → Tree
endpoint_block h e = endpoint_element (wsa_name (header_name h)) e

-- From whom it is, and ReplyTo none
abbrev pub source_blocks : Epr → List Tree
source_blocks source = endpoint_block header.From source ∷ endpoint_block header.ReplyTo none_endpoint ∷ []

-- To, Action, MessageID, From, ReplyTo, RelatesTo
abbrev pub one_way_blocks : Epr → Envelope → List Tree
one_way_blocks source e =
    optional_block header.To e.to
    ++ (text_block header.Action e.action
    ∷ (optional_block header.MessageID e.message_id ++ (source_blocks source ++ optional_block header.RelatesTo e.relates_to)))

-- and the parameters after them
abbrev pub notification_blocks : Epr → Envelope → List Tree
notification_blocks source e = one_way_blocks source e ++ map marked_tree e.parameters

-- ---- the envelope

-- an element of a version of SOAP that holds these
abbrev pub soap_element : Dialect → List ℕ → List Tree → Tree
soap_element d local parts = bare_element (record { space = d.space; local = local }) (map Child parts)

-- the envelope with these header blocks and this body
abbrev pub envelope_with : Dialect → List Tree → Tree → Tree
envelope_with d blocks body =
    soap_element d (codes "Envelope") (soap_element d (codes "Header") blocks ∷ soap_element d (codes "Body") (body ∷ []) ∷ [])

abbrev pub envelope_element : Dialect → Envelope → Tree
envelope_element d e = envelope_with d (header_blocks e) e.body

-- the envelope of a notification from this endpoint
abbrev pub notification_element : Dialect → Epr → Envelope → Tree
notification_element d source e = envelope_with d (notification_blocks source e) e.body

-- ---- what is read back as it stands

-- a text that isn't empty and has no white space at its ends
abbrev pub is_bare_text : List ℕ → Bool
is_bare_text text = is_there text && has_bare_ends text

abbrev pub is_none_or_bare : Option (List ℕ) → Bool
is_none_or_bare None = true
is_none_or_bare (Some text) = is_bare_text text

-- an envelope of which all is written, and read back
pub record IsPlainEnvelope (e : Envelope) : Type 0 where
  -- a ReplyTo isn't written
  pub reply : e.reply ≡ reply.Absent
  pub to : IsTrue (is_none_or_bare e.to)
  pub action : IsTrue (is_bare_text e.action)
  pub message_id : IsTrue (is_none_or_bare e.message_id)
  pub relates_to : IsTrue (is_none_or_bare e.relates_to)
  -- no parameter is marked as one already
  pub unmarked : IsTrue (are_unmarked e.parameters)

-- what is read of a notification: the same, but that a reply is wanted elsewhere, which is nowhere
abbrev pub without_reply : Envelope → Envelope
without_reply e = record {
  to = e.to;
  action = e.action;
  message_id = e.message_id;
  relates_to = e.relates_to;
  reply = reply.Elsewhere;
  parameters = e.parameters;
  body = e.body;
}
