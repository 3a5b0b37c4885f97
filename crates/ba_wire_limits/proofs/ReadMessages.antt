-- A message that was read and is known has an envelope: for the law on what was read.
use Rattle.std.proofs.Common.{◌≡◌, ℕ, true, List, Option, Some, None, Result, Ok, Err, refl, subst}
use Rattle.ba_soap_shapes.specs.declared.shapes.Misfit.{Misfit}
use Rattle.ba_soap.specs.declared.headers.Envelope.{Envelope}
use Rattle.ba_soap.specs.declared.headers.SoapFault.{SoapFault}
use Rattle.ba_soap.specs.Envelopes.{Dialect, envelope_answer, soap11}
use Rattle.ba_tree.specs.declared.trees.Tree.{Tree}
use Rattle.ba_wire.specs.declared.bodies.Body.{Body}
use Rattle.ba_wire.specs.declared.faults.WireFault.{WireFault}
use Rattle.ba_wire.specs.declared.meaning.Decoded.{Decoded}
use Rattle.ba_wire.specs.Bodies.{body_look}
use Rattle.ba_wire.specs.Envelopes.{CanEncode, HasEnvelope, envelope_tree, is_known}
use Rattle.ba_wire.specs.Meaning.{Means, answer_by_envelope, answer_by_reply, answer_by_shape, answer_of_body, reply_refusal}
use Rattle.ba_wire.specs.Meaning.{which_body}
use Rattle.ba_xml_grammar.specs.GrammarTexts.{IsXmlText}
use Rattle.ba_xml_writer.specs.Writable.{IsWritable}
use Rattle.ba_wire_limits.proofs.ReadBodies.{body_is_read}
use Rattle.ba_wire_limits.proofs.ReadHeaders.{IsReadAnswer, IsReadEnvelope, envelope_is_read}

abbrev HasEnvelopeIfKnown : Decoded → Type 0
HasEnvelopeIfKnown m = is_known m.message ≡ true → HasEnvelope m.route m.message

abbrev IsWellRead : Result Decoded WireFault → Type 0
IsWellRead (Ok m) = HasEnvelopeIfKnown m
IsWellRead (Err f) = Unit {0}

by_shape : (o : Option Misfit) (b : Body) (e : Envelope) → body_look b 0 e.body ≡ o → IsReadEnvelope e
    → IsWellRead (answer_by_shape o b e)
by_shape (Some m) b e h is = tt
by_shape None b e h is = λ known.
    let said = body_is_read b 0 e.body h in
    record {
      known = known;
      fit = said.0;
      identifiers = said.1;
      to = is.to;
      message_id = is.message_id;
      relates_to = is.relates_to;
      unmarked = is.unmarked;
    }

by_reply : (f : Option WireFault) (b : Body) (e : Envelope) → IsReadEnvelope e → IsWellRead (answer_by_reply f b e)
by_reply (Some f) b e is = tt
by_reply None b e is = by_shape (body_look b 0 e.body) b e refl is

of_body : (r : Result Body WireFault) (e : Envelope) → IsReadEnvelope e → IsWellRead (answer_of_body r e)
of_body (Err f) e is = tt
of_body (Ok b) e is = by_reply (reply_refusal b e) b e is

by_envelope : (d : Dialect) (r : Result Envelope SoapFault) → IsReadAnswer r → IsWellRead (answer_by_envelope d r)
by_envelope d (Err f) is = tt
by_envelope d (Ok e) is = of_body (which_body d e) e is

pub has_envelope : (d : Dialect) (t : Tree) (m : Decoded) → Means d t m → is_known m.message ≡ true
    → HasEnvelope m.route m.message
has_envelope d t m means = subst IsWellRead means (by_envelope d (envelope_answer d t) (envelope_is_read d t))

-- that a text means a message, as the clause `means` of `decode` says it
abbrev pub IsDecoded : List ℕ → Decoded → Type 0
IsDecoded text m = (t : Tree) × IsXmlText text t × Means soap11 t m

pub decoded_has_envelope : (text : List ℕ) (m : Decoded) → IsDecoded text m → is_known m.message ≡ true → HasEnvelope m.route m.message
decoded_has_envelope text m is known = has_envelope soap11 is.0 m is.2 known

pub can_encode : (d : Dialect) (t : Tree) (m : Decoded) → Means d t m → is_known m.message ≡ true
    → IsWritable (envelope_tree m.route m.message) → CanEncode m.route m.message
can_encode d t m means known writable = record { envelope = has_envelope d t m means known; writable = writable }
