-- The envelope of a message that was read from a tree that keeps the rules keeps them: for the law on what was read.
use Rattle.std.proofs.Common.{◌≡◌, ℕ, Bool, true, false, ◌&&◌, List, [], ◌∷◌, ◌++◌, Option, Some, None, Result, Ok, Err, IfSome, map}
use Rattle.std.proofs.Common.{filter, if◌then◌else◌, codes, refl, subst}
use Rattle.std.specs.Cmp.{first_so, second_so}
use Rattle.std.specs.List.{find, list_all}
use Rattle.std.specs.Str.{bytes_eq}
use Rattle.ba_message.proofs.PlainTexts.{and_both}
use Rattle.ba_soap_shapes.specs.declared.shapes.Misfit.{Misfit}
use Rattle.ba_soap_shapes.specs.Elements.{children, text_of}
use Rattle.ba_soap_shapes.specs.Endpoints.{wsa_name}
use Rattle.ba_soap_shapes.specs.Forms.{is_there}
use Rattle.ba_soap.specs.declared.headers.Envelope.{Envelope}
use Rattle.ba_soap.specs.declared.headers.Header.{Header}
use Rattle.ba_soap.specs.declared.headers.Header.TheVariants as header
use Rattle.ba_soap.specs.declared.headers.SoapFault.{SoapFault}
use Rattle.ba_soap.specs.declared.headers.SoapFault.TheVariants as fault
use Rattle.ba_soap.specs.Elements.{envelope_element, header_blocks, is_none_or_bare, marked_tree, optional_block, soap_element}
use Rattle.ba_soap.specs.Elements.{text_block}
use Rattle.ba_soap.specs.Envelopes.{Dialect, answer_by_body, answer_by_parts, answer_unless_refused, blocks_refusal, envelope_answer}
use Rattle.ba_soap.specs.Envelopes.{envelope_by_blocks, header_name, is_header, is_looked_at, is_parameter, is_part, is_reply_relation}
use Rattle.ba_soap.specs.Envelopes.{option_text, soap11}
use Rattle.ba_tree.specs.declared.trees.Tree.{Tree}
use Rattle.ba_tree.specs.Characters.{has_bare_ends}
use Rattle.ba_tree.specs.Names.{is_plain_name}
use Rattle.ba_tree.specs.Trees.{is_fit_name, is_fit_tree}
use Rattle.ba_wire.specs.declared.bodies.Body.{Body}
use Rattle.ba_wire.specs.declared.faults.WireFault.{WireFault}
use Rattle.ba_wire.specs.declared.meaning.Decoded.{Decoded}
use Rattle.ba_wire.specs.Bodies.{body_look, message_of}
use Rattle.ba_wire.specs.Elements.{body_element}
use Rattle.ba_wire.specs.Envelopes.{action_for, envelope_of, envelope_tree, is_known}
use Rattle.ba_wire.specs.Meaning.{Means, answer_by_envelope, answer_by_reply, answer_by_shape, answer_of_body, reply_refusal}
use Rattle.ba_wire.specs.Meaning.{route_of_envelope, which_body}
use Rattle.ba_wire_limits.proofs.BriefTexts.{brief_said}
use Rattle.ba_wire_limits.proofs.FitBodies.{body_fits, fit_append}
use Rattle.ba_wire_limits.proofs.Known.{brief_action}
use Rattle.ba_wire_limits.proofs.ReadHeaders.{read_by_blocks}
use Rattle.ba_wire_limits.proofs.ReadRules.{OptionFits, children_fit, filter_fits, find_fits, parameters_fit, text_is_said}
use Rattle.ba_wire_limits.proofs.SoundEnvelopes.{header_plain}
use Rattle.ba_wire_limits.proofs.SoundNames.{soap_is, soap_name, wsa_is}
use Rattle.ba_wire_limits.proofs.SoundTrees.{IsSaid, fit_element, fit_text}

-- ---- an envelope whose parts keep the rules

record IsFitEnvelope (e : Envelope) : Type 0 where
  to : IfSome e.to IsSaid
  message_id : IfSome e.message_id IsSaid
  relates_to : IfSome e.relates_to IsSaid
  parameters : list_all is_fit_tree (map marked_tree e.parameters) ≡ true
  body : is_fit_tree e.body ≡ true

block_fits : (h : Header) (text : List ℕ) → IsSaid text → is_fit_tree (text_block h text) ≡ true
block_fits h text said =
    let named = wsa_is (header_name h) (header_plain h) in
    fit_text (wsa_name (header_name h)) named.fit text said

option_fits : (h : Header) (o : Option (List ℕ)) → IfSome o IsSaid → list_all is_fit_tree (optional_block h o) ≡ true
option_fits h None is = refl
option_fits h (Some text) is = and_both (is_fit_tree (text_block h text)) true (block_fits h text is) refl

soap_fit : (local : List ℕ) → is_plain_name local ≡ true → is_fit_name (soap_name local) ≡ true
soap_fit local is_plain = let is = soap_is local is_plain in is.fit

module _ (e : Envelope) (is : IsFitEnvelope e) (action : IsSaid e.action) where
  blocks_fit : list_all is_fit_tree (header_blocks e) ≡ true
  blocks_fit =
      let to = optional_block header.To e.to in
      let acted = text_block header.Action e.action in
      let id = optional_block header.MessageID e.message_id in
      let relates = optional_block header.RelatesTo e.relates_to in
      let last =
      fit_append id relates (option_fits header.MessageID e.message_id is.message_id)
      (option_fits header.RelatesTo e.relates_to is.relates_to) in
      let rest = and_both (is_fit_tree acted) (list_all is_fit_tree (id ++ relates)) (block_fits header.Action e.action action) last in
      fit_append (to ++ (acted ∷ (id ++ relates))) (map marked_tree e.parameters)
      (fit_append to (acted ∷ (id ++ relates)) (option_fits header.To e.to is.to) rest) is.parameters

  envelope_fits : is_fit_tree (envelope_element soap11 e) ≡ true
  envelope_fits =
      let head = soap_element soap11 (codes "Header") (header_blocks e) in
      let tail = soap_element soap11 (codes "Body") (e.body ∷ []) in
      let one = fit_element (soap_name (codes "Header")) (soap_fit (codes "Header") refl) (header_blocks e) blocks_fit in
      let two =
      fit_element (soap_name (codes "Body")) (soap_fit (codes "Body") refl) (e.body ∷ [])
      (and_both (is_fit_tree e.body) true is.body refl) in
      fit_element (soap_name (codes "Envelope")) (soap_fit (codes "Envelope") refl) (head ∷ tail ∷ [])
      (and_both (is_fit_tree head) (is_fit_tree tail && true) one (and_both (is_fit_tree tail) true two refl))

-- ---- an envelope that was read

option_said : (o : Option Tree) → OptionFits o → is_none_or_bare (option_text o) ≡ true → IfSome (option_text o) IsSaid
option_said None fit bare = tt
option_said (Some b) fit bare = text_is_said b fit (first_so (is_there (text_of b)) (has_bare_ends (text_of b)) bare)

module _ (d : Dialect) (blocks : List Tree) (body : Tree) (all : list_all is_fit_tree blocks ≡ true) (own : is_fit_tree body ≡ true) where
  abbrev mine : List Tree
  mine = filter (is_looked_at d) blocks

  mine_fit : list_all is_fit_tree mine ≡ true
  mine_fit = filter_fits is_fit_tree (is_looked_at d) blocks all

  fit_by_blocks : blocks_refusal d blocks ≡ None → IsFitEnvelope (envelope_by_blocks d blocks body)
  fit_by_blocks h =
      let read = read_by_blocks d blocks body h in
      record {
        to = option_said (find (is_header header.To) mine) (find_fits (is_header header.To) mine mine_fit) read.to;
        message_id = option_said (find (is_header header.MessageID) mine) (find_fits (is_header header.MessageID) mine mine_fit)
            read.message_id;
        relates_to = option_said (find is_reply_relation mine) (find_fits is_reply_relation mine mine_fit) read.relates_to;
        parameters = parameters_fit (filter is_parameter blocks) (filter_fits is_fit_tree is_parameter blocks all);
        body = own;
      }

abbrev IsFitAnswer : Result Envelope SoapFault → Type 0
IsFitAnswer (Ok e) = IsFitEnvelope e
IsFitAnswer (Err f) = Unit {0}

unless_refused : (f : Option SoapFault) (e : Envelope) → (f ≡ None → IsFitEnvelope e) → IsFitAnswer (answer_unless_refused f e)
unless_refused None e h = h refl
unless_refused (Some f) e h = tt

either : (b : Bool) (x y : Result Envelope SoapFault) → IsFitAnswer x → IsFitAnswer y → IsFitAnswer (if b then x else y)
either true x y p q = p
either false x y p q = q

by_body : (d : Dialect) (blocks bodies : List Tree) → list_all is_fit_tree blocks ≡ true → list_all is_fit_tree bodies ≡ true
    → IsFitAnswer (answer_by_body d blocks bodies)
by_body d blocks [] all own = tt
by_body d blocks (body ∷ []) all own =
    unless_refused (blocks_refusal d blocks) (envelope_by_blocks d blocks body)
    (fit_by_blocks d blocks body all (first_so (is_fit_tree body) true own))
by_body d blocks (body ∷ other ∷ more) all own = tt

by_parts : (d : Dialect) (parts : List Tree) → list_all is_fit_tree parts ≡ true → IsFitAnswer (answer_by_parts d parts)
by_parts d [] h = tt
by_parts d (x ∷ []) h =
    let inner = children_fit x (first_so (is_fit_tree x) true h) in
    either (is_part d (codes "Body") x) (answer_by_body d [] (children x.content))
    (if is_part d (codes "Header") x then Err fault.NoBody else Err fault.Shape) (by_body d [] (children x.content) refl inner)
    (either (is_part d (codes "Header") x) (Err fault.NoBody) (Err fault.Shape) tt tt)
by_parts d (x ∷ y ∷ []) h =
    let one = children_fit x (first_so (is_fit_tree x) (is_fit_tree y && true) h) in
    let two = children_fit y (first_so (is_fit_tree y) true (second_so (is_fit_tree x) (is_fit_tree y && true) h)) in
    either (is_part d (codes "Header") x && is_part d (codes "Body") y)
    (answer_by_body d (children x.content) (children y.content)) (Err fault.Shape)
    (by_body d (children x.content) (children y.content) one two) tt
by_parts d (x ∷ y ∷ z ∷ more) h = tt

envelope_is_fit : (d : Dialect) (t : Tree) → is_fit_tree t ≡ true → IsFitAnswer (envelope_answer d t)
envelope_is_fit d t fit =
    either (bytes_eq t.name.local (codes "Envelope"))
    (if bytes_eq t.name.space d.space then answer_by_parts d (children t.content) else Err fault.VersionMismatch) (Err fault.Shape)
    (either (bytes_eq t.name.space d.space) (answer_by_parts d (children t.content)) (Err fault.VersionMismatch)
    (by_parts d (children t.content) (children_fit t fit)) tt) tt

-- ---- the message in it

abbrev FitsIfKnown : Decoded → Type 0
FitsIfKnown m = is_known m.message ≡ true → is_fit_tree (envelope_tree m.route m.message) ≡ true

abbrev IsWellRead : Result Decoded WireFault → Type 0
IsWellRead (Ok m) = FitsIfKnown m
IsWellRead (Err f) = Unit {0}

written_again : (b : Body) (e : Envelope) → IsFitEnvelope e → is_fit_tree (body_element (message_of b e.body)) ≡ true
    → is_fit_tree (envelope_tree (route_of_envelope e) (message_of b e.body)) ≡ true
written_again b e is own =
    let m = message_of b e.body in
    envelope_fits (envelope_of (route_of_envelope e) m)
    (record {
      to = is.to;
      message_id = is.message_id;
      relates_to = is.relates_to;
      parameters = is.parameters;
      body = own;
    }) (brief_said (action_for m) (brief_action m))

by_shape : (o : Option Misfit) (b : Body) (e : Envelope) → body_look b 0 e.body ≡ o → IsFitEnvelope e
    → IsWellRead (answer_by_shape o b e)
by_shape (Some m) b e h is = tt
by_shape None b e h is = λ known. written_again b e is (body_fits b 0 e.body h is.body known)

by_reply : (f : Option WireFault) (b : Body) (e : Envelope) → IsFitEnvelope e → IsWellRead (answer_by_reply f b e)
by_reply (Some f) b e is = tt
by_reply None b e is = by_shape (body_look b 0 e.body) b e refl is

of_body : (r : Result Body WireFault) (e : Envelope) → IsFitEnvelope e → IsWellRead (answer_of_body r e)
of_body (Err f) e is = tt
of_body (Ok b) e is = by_reply (reply_refusal b e) b e is

by_envelope : (d : Dialect) (r : Result Envelope SoapFault) → IsFitAnswer r → IsWellRead (answer_by_envelope d r)
by_envelope d (Err f) is = tt
by_envelope d (Ok e) is = of_body (which_body d e) e is

pub keeps_rules : (d : Dialect) (t : Tree) (m : Decoded) → Means d t m → is_fit_tree t ≡ true → is_known m.message ≡ true
    → is_fit_tree (envelope_tree m.route m.message) ≡ true
keeps_rules d t m means fit = subst IsWellRead means (by_envelope d (envelope_answer d t) (envelope_is_fit d t fit))
