-- No tree is refused for want of memory, or as no text of XML: for the law of the first, and for `decode`.
use Rattle.std.proofs.Common.{◌≢◌, ℕ, Bool, true, false, ◌&&◌, List, [], ◌∷◌, ◌++◌, Option, Some, None, Result, Ok, Err, if◌then◌else◌}
use Rattle.std.proofs.Common.{subst, bytes_eq}
use Rattle.std.specs.Prelude.{codes, filter}
use Rattle.std.specs.List.{list_any, position}
use Rattle.ba_tree.specs.declared.trees.Tree.{Tree}
use Rattle.ba_soap_shapes.specs.Elements.{children}
use Rattle.ba_soap_shapes.specs.declared.shapes.Misfit.{Misfit}
use Rattle.ba_soap_shapes.specs.declared.shapes.Why.{Why}
use Rattle.ba_soap_shapes.specs.declared.shapes.Why.TheVariants.{Mismatch, Limit}
use Rattle.ba_soap.specs.declared.headers.Envelope.{Envelope}
use Rattle.ba_soap.specs.declared.headers.Header.{Header}
use Rattle.ba_soap.specs.declared.headers.Header.TheVariants as header
use Rattle.ba_soap.specs.declared.headers.ReplyTo.{ReplyTo}
use Rattle.ba_soap.specs.declared.headers.SoapFault.{SoapFault}
use Rattle.ba_soap.specs.declared.headers.SoapFault.TheVariants as soap
use Rattle.ba_soap.specs.Envelopes.{Dialect, action_fault, answer_by_body, answer_by_parts, answer_unless_refused, block_fault}
use Rattle.ba_soap.specs.Envelopes.{blocks_refusal, envelope_answer, envelope_by_blocks, first_fault, first_invalid_header, first_refusal}
use Rattle.ba_soap.specs.Envelopes.{has_bad_flag, header_of, header_text, invalid_header, is_called, is_invalid, is_looked_at}
use Rattle.ba_soap.specs.Envelopes.{is_not_understood, is_part, refusal_by}
use Rattle.ba_wire.specs.declared.bodies.Body.{Body}
use Rattle.ba_wire.specs.declared.bodies.Body.TheVariants as body
use Rattle.ba_wire.specs.declared.faults.WireFault.{WireFault}
use Rattle.ba_wire.specs.declared.faults.WireFault.TheVariants as fault
use Rattle.ba_wire.specs.Actions.{body_name, body_of, body_space, fault_actions}
use Rattle.ba_wire.specs.Bodies.{body_look}
use Rattle.ba_wire.specs.Meaning.{answer_by_envelope, answer_by_reply, answer_by_shape, answer_of_body, asks_for_reply, body_named}
use Rattle.ba_wire.specs.Meaning.{is_elsewhere, reply_refusal, reply_rule, tree_answer, which_body, wire_fault_at}

-- ---- the refusals of header blocks

abbrev IsOther : SoapFault → Type 0
IsOther soap.Memory = ⊥
IsOther f = Unit {0}

abbrev IsSpared : Option SoapFault → Type 0
IsSpared None = Unit {0}
IsSpared (Some f) = IsOther f

first_spared : (a b : Option SoapFault) → IsSpared a → IsSpared b → IsSpared (first_fault a b)
first_spared None b p q = q
first_spared (Some a) b p q = p

either_spared : (c : Bool) (a b : Option SoapFault) → IsSpared a → IsSpared b → IsSpared (if c then a else b)
either_spared true a b p q = p
either_spared false a b p q = q

block_spared : (n : Option ℕ) → IsSpared (block_fault n)
block_spared None = tt
block_spared (Some n) = tt

invalid_spared : (h : Option Header) (before : List Tree) (b : Tree) → IsSpared (invalid_header h before b)
invalid_spared None before b = tt
invalid_spared (Some h) before b = either_spared (is_invalid h before b) (Some (soap.InvalidHeader h)) None tt tt

first_invalid_spared : (before blocks : List Tree) → IsSpared (first_invalid_header before blocks)
first_invalid_spared before [] = tt
first_invalid_spared before (b ∷ more) =
    first_spared (invalid_header (header_of b) before b) (first_invalid_header (before ++ b ∷ []) more)
    (invalid_spared (header_of b) before b) (first_invalid_spared (before ++ b ∷ []) more)

action_spared : (text : Option (List ℕ)) → IsSpared (action_fault text)
action_spared None = tt
action_spared (Some text) = tt

four_spared :
    (a b c d : Option SoapFault) → IsSpared a → IsSpared b → IsSpared c → IsSpared d
    → IsSpared (first_refusal (a ∷ b ∷ c ∷ d ∷ []))
four_spared a b c d p q r s =
    first_spared a (first_refusal (b ∷ c ∷ d ∷ [])) p
    (first_spared b (first_refusal (c ∷ d ∷ [])) q (first_spared c (first_refusal (d ∷ [])) r (first_spared d None s tt)))

refusal_spared : (d : Dialect) (blocks mine : List Tree) → IsSpared (refusal_by d blocks mine)
refusal_spared d blocks mine =
    let flagged = list_any (has_bad_flag d) blocks in
    let text = header_text header.Action mine in
    let unknown = position (is_not_understood d) blocks in
    four_spared (if flagged then Some soap.Shape else None) (block_fault unknown) (first_invalid_header [] mine) (action_fault text)
    (either_spared flagged (Some soap.Shape) None tt tt) (block_spared unknown) (first_invalid_spared [] mine) (action_spared text)

-- ---- the answers of envelopes

abbrev IsRead : Result Envelope SoapFault → Type 0
IsRead (Ok e) = Unit {0}
IsRead (Err f) = IsOther f

either_read : (c : Bool) (a b : Result Envelope SoapFault) → IsRead a → IsRead b → IsRead (if c then a else b)
either_read true a b p q = p
either_read false a b p q = q

unless_read : (f : Option SoapFault) (e : Envelope) → IsSpared f → IsRead (answer_unless_refused f e)
unless_read None e p = tt
unless_read (Some f) e p = p

body_read : (d : Dialect) (blocks elements : List Tree) → IsRead (answer_by_body d blocks elements)
body_read d blocks [] = tt
body_read d blocks (b ∷ []) =
    unless_read (blocks_refusal d blocks) (envelope_by_blocks d blocks b) (refusal_spared d blocks (filter (is_looked_at d) blocks))
body_read d blocks (b ∷ c ∷ more) = tt

parts_read : (d : Dialect) (parts : List Tree) → IsRead (answer_by_parts d parts)
parts_read d [] = tt
parts_read d (x ∷ []) =
    let other = if is_part d (codes "Header") x then Err soap.NoBody else Err soap.Shape in
    either_read (is_part d (codes "Body") x) (answer_by_body d [] (children x.content)) other (body_read d [] (children x.content))
    (either_read (is_part d (codes "Header") x) (Err soap.NoBody) (Err soap.Shape) tt tt)
parts_read d (x ∷ y ∷ []) =
    either_read (is_part d (codes "Header") x && is_part d (codes "Body") y) (answer_by_body d (children x.content) (children y.content))
    (Err soap.Shape) (body_read d (children x.content) (children y.content)) tt
parts_read d (x ∷ y ∷ z ∷ more) = tt

envelope_read : (d : Dialect) (t : Tree) → IsRead (envelope_answer d t)
envelope_read d t =
    let parts = answer_by_parts d (children t.content) in
    let named = if bytes_eq t.name.space d.space then parts else Err soap.VersionMismatch in
    either_read (bytes_eq t.name.local (codes "Envelope")) named (Err soap.Shape)
    (either_read (bytes_eq t.name.space d.space) parts (Err soap.VersionMismatch) (parts_read d (children t.content)) tt) tt

-- ---- the answers of messages

abbrev pub IsOtherWire : WireFault → Type 0
IsOtherWire (fault.Soap f) = IsOther f
IsOtherWire fault.Memory = ⊥
IsOtherWire (fault.Xml reason place) = ⊥
IsOtherWire f = Unit {0}

abbrev pub IsAnswered : {X : Type 0} → Result X WireFault → Type 0
IsAnswered (Ok x) = Unit {0}
IsAnswered (Err f) = IsOtherWire f

unknown_other : (c : Bool) → IsOtherWire (if c then fault.BodyMismatch 0 else fault.ActionNotSupported)
unknown_other true = tt
unknown_other false = tt

found_answered : (c : Bool) (b : Body) (r : Result Body WireFault) → IsAnswered r → IsAnswered (if c then Ok b else r)
found_answered true b r p = tt
found_answered false b r p = p

named_answered : (b : Option Body) (e : Envelope) → IsAnswered (body_named b e)
named_answered None e = unknown_other (list_any (bytes_eq e.action) fault_actions)
named_answered (Some b) e = found_answered (is_called (body_space b) (body_name b) e.body.name) b (Err (fault.BodyMismatch 0)) tt

which_answered : (d : Dialect) (e : Envelope) → IsAnswered (which_body d e)
which_answered d e =
    found_answered (is_called d.space (codes "Fault") e.body.name) body.Fault (body_named (body_of e.action) e)
    (named_answered (body_of e.action) e)

abbrev IsGranted : Option WireFault → Type 0
IsGranted None = Unit {0}
IsGranted (Some f) = IsOtherWire f

either_granted : (c : Bool) (a b : Option WireFault) → IsGranted a → IsGranted b → IsGranted (if c then a else b)
either_granted true a b p q = p
either_granted false a b p q = q

rule_granted : (id : Option (List ℕ)) (r : ReplyTo) → IsGranted (reply_rule id r)
rule_granted None r = tt
rule_granted (Some id) r = either_granted (is_elsewhere r) (Some fault.OnlyAnonymous) None tt tt

reply_granted : (b : Body) (e : Envelope) → IsGranted (reply_refusal b e)
reply_granted b e =
    either_granted (asks_for_reply b) (reply_rule e.message_id e.reply) None (rule_granted e.message_id e.reply) tt

misfit_other : (n : ℕ) (why : Why) → IsOtherWire (wire_fault_at n why)
misfit_other n Mismatch = tt
misfit_other n Limit = tt

shape_answered : (m : Option Misfit) (b : Body) (e : Envelope) → IsAnswered (answer_by_shape m b e)
shape_answered None b e = tt
shape_answered (Some m) b e = misfit_other m.number m.why

by_reply_answered : (f : Option WireFault) (b : Body) (e : Envelope) → IsGranted f → IsAnswered (answer_by_reply f b e)
by_reply_answered None b e p = shape_answered (body_look b 0 e.body) b e
by_reply_answered (Some f) b e p = p

body_answered : (r : Result Body WireFault) (e : Envelope) → IsAnswered r → IsAnswered (answer_of_body r e)
body_answered (Ok b) e p = by_reply_answered (reply_refusal b e) b e (reply_granted b e)
body_answered (Err f) e p = p

by_envelope_answered : (d : Dialect) (r : Result Envelope SoapFault) → IsRead r → IsAnswered (answer_by_envelope d r)
by_envelope_answered d (Ok e) p = body_answered (which_body d e) e (which_answered d e)
by_envelope_answered d (Err f) p = p

pub tree_answered : (d : Dialect) (t : Tree) → IsAnswered (tree_answer d t)
tree_answered d t = by_envelope_answered d (envelope_answer d t) (envelope_read d t)

pub never_memory : (d : Dialect) (t : Tree) → tree_answer d t ≢ Err (fault.Soap soap.Memory)
never_memory d t is = subst IsAnswered is (tree_answered d t)
