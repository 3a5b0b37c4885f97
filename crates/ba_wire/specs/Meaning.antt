-- Believe: these envelopes mean a route and a message, and for the others this refusal comes first.
use Rattle.std.specs.Prelude.{bytes_eq, ◌≡◌, ◌≢◌, ℕ, Bool, true, false, List, Option, Some, None, Result, Ok, Err, if◌then◌else◌, codes}
use Rattle.std.specs.List.{list_any}
use Rattle.ba_tree.specs.declared.trees.Tree.{Tree}
use Rattle.ba_soap.specs.declared.headers.Envelope.{Envelope}
use Rattle.ba_soap.specs.declared.headers.Header.TheVariants as header
use Rattle.ba_soap.specs.declared.headers.ReplyTo.{ReplyTo}
use Rattle.ba_soap.specs.declared.headers.ReplyTo.TheVariants as reply
use Rattle.ba_soap.specs.declared.headers.SoapFault.{SoapFault}
use Rattle.ba_soap.specs.declared.headers.SoapFault.TheVariants as soap
use Rattle.ba_soap_shapes.specs.declared.shapes.Misfit.{Misfit}
use Rattle.ba_soap_shapes.specs.declared.shapes.Why.{Why}
use Rattle.ba_soap_shapes.specs.declared.shapes.Why.TheVariants.{Mismatch, Limit}
use Rattle.ba_soap.specs.Envelopes.{Dialect, envelope_answer, is_called, soap11}
use Rattle.ba_wire.specs.declared.bodies.Body.{Body}
use Rattle.ba_wire.specs.declared.bodies.Body.TheVariants as body
use Rattle.ba_wire.specs.declared.faults.WireFault.{WireFault}
use Rattle.ba_wire.specs.declared.faults.WireFault.TheVariants as fault
use Rattle.ba_wire.specs.declared.routes.Route.{Route}
use Rattle.ba_wire.specs.declared.meaning.Decoded.{Decoded}
use Rattle.ba_wire.specs.Actions.{body_name, body_of, body_space, fault_actions}
use Rattle.ba_wire.specs.Bodies.{body_look, message_of}
use Rattle.ba_xml_grammar.specs.GrammarTexts.{IsXmlText}
use Rattle.ba_xml_grammar.specs.Places.{IsRefused, IsAnswerOf}
use Rattle.ba_xml_words.specs.declared.faults.XmlFault.{XmlFault}
use Rattle.ba_xml_words.specs.declared.faults.XmlFault.TheVariants as xml

abbrev pub route_of_envelope : Envelope → Route
route_of_envelope e = record { to = e.to; message_id = e.message_id; relates_to = e.relates_to; parameters = e.parameters }

abbrev pub wire_fault_at : ℕ → Why → WireFault
wire_fault_at n Mismatch = fault.BodyMismatch n
wire_fault_at n Limit = fault.EprLimit n

-- which body: by the action, whose element it has to be
abbrev pub unknown_action_fault : List ℕ → WireFault
unknown_action_fault action = if list_any (bytes_eq action) fault_actions then fault.BodyMismatch 0 else fault.ActionNotSupported

abbrev pub body_named : Option Body → Envelope → Result Body WireFault
body_named None e = Err (unknown_action_fault e.action)
body_named (Some b) e = if is_called (body_space b) (body_name b) e.body.name then Ok b else Err (fault.BodyMismatch 0)

-- a fault is one whatever the action
abbrev pub which_body : Dialect → Envelope → Result Body WireFault
which_body d e = if is_called d.space (codes "Fault") e.body.name then Ok body.Fault else body_named (body_of e.action) e

abbrev pub asks_for_reply : Body → Bool
asks_for_reply body.Create = true
asks_for_reply body.Register = true
asks_for_reply b = false

abbrev pub is_elsewhere : ReplyTo → Bool
is_elsewhere reply.Elsewhere = true
is_elsewhere r = false

-- who asks for a reply gives a MessageID, and wants the reply nowhere else
abbrev pub reply_rule : Option (List ℕ) → ReplyTo → Option WireFault
reply_rule None r = Some (fault.Soap (soap.HeaderRequired header.MessageID))
reply_rule (Some id) r = if is_elsewhere r then Some fault.OnlyAnonymous else None

abbrev pub reply_refusal : Body → Envelope → Option WireFault
reply_refusal b e = if asks_for_reply b then reply_rule e.message_id e.reply else None

-- the shape of the body
abbrev pub answer_by_shape : Option Misfit → Body → Envelope → Result Decoded WireFault
answer_by_shape None b e = Ok (record { route = route_of_envelope e; message = message_of b e.body })
answer_by_shape (Some m) b e = Err (wire_fault_at m.number m.why)

abbrev pub answer_by_reply : Option WireFault → Body → Envelope → Result Decoded WireFault
answer_by_reply (Some f) b e = Err f
answer_by_reply None b e = answer_by_shape (body_look b 0 e.body) b e

abbrev pub answer_of_body : Result Body WireFault → Envelope → Result Decoded WireFault
answer_of_body (Err f) e = Err f
answer_of_body (Ok b) e = answer_by_reply (reply_refusal b e) b e

abbrev pub answer_by_envelope : Dialect → Result Envelope SoapFault → Result Decoded WireFault
answer_by_envelope d (Err f) = Err (fault.Soap f)
answer_by_envelope d (Ok e) = answer_of_body (which_body d e) e

abbrev pub tree_answer : Dialect → Tree → Result Decoded WireFault
tree_answer d t = answer_by_envelope d (envelope_answer d t)

-- the answer where this is read: that of the tree, or why there is none
abbrev pub answer_by_tree : Result Tree XmlFault → Result Decoded WireFault
answer_by_tree (Ok t) = tree_answer soap11 t
answer_by_tree (Err xml.Memory) = Err fault.Memory
answer_by_tree (Err (xml.At reason place)) = Err (fault.Xml reason place)

-- Why bytes are no message: they are no text of XML, or the envelope that they are a text of is refused. Want of memory
-- says nothing of them.
abbrev pub IsNoMessage : List ℕ → WireFault → Type 0
IsNoMessage bytes fault.Memory = ⊥
IsNoMessage bytes (fault.Xml reason place) = IsRefused bytes reason place
IsNoMessage bytes f = (t : Tree) × IsXmlText bytes t × (tree_answer soap11 t ≡ Err f)

-- an envelope that means a message
abbrev pub Means : Dialect → Tree → Decoded → Type 0
Means d t m = tree_answer d t ≡ Ok m

-- no answer is want of memory
abbrev pub NeverMemory : Type 0
NeverMemory = (d : Dialect) (t : Tree) → tree_answer d t ≢ Err (fault.Soap soap.Memory)

-- this answer, or want of memory
abbrev pub IsWireAnswer : {X : Type 0} → Result X WireFault → Result X WireFault → Type 0
IsWireAnswer expected (Err fault.Memory) = Unit {0}
IsWireAnswer expected answer = answer ≡ expected

-- the answer where the bytes are read as the table of causes and places says, or want of memory
abbrev pub IsDecodedOf : List ℕ → Result Decoded WireFault → Type 0
IsDecodedOf bytes result = (read : Result Tree XmlFault) → IsAnswerOf bytes read → IsWireAnswer (answer_by_tree read) result
