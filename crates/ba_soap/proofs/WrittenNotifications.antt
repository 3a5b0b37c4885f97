-- A notification is read back from its element, but for its ReplyTo, which is elsewhere: for the clause `reads_back`.
use Rattle.std.proofs.Common.{◌≡◌, ℕ, Bool, true, false, ◌||◌, List, [], ◌∷◌, ◌++◌, Option, Some, None, Result, Ok, Err, refl, ap, ◌∙◌}
use Rattle.std.proofs.Common.{if◌then◌else◌, bytes_eq, codes}
use Rattle.std.proofs.lemmas.List.Folds.{list_any-append}
use Rattle.std.specs.List.{list_any}
use Rattle.std.specs.Prelude.{IfOk}
use Rattle.ba_core.specs.declared.memory.Memory.{Memory}
use Rattle.ba_message.specs.declared.endpoints.Epr.{Epr}
use Rattle.ba_soap.specs.declared.headers.Envelope.{Envelope}
use Rattle.ba_soap.specs.declared.headers.Header.TheVariants as header
use Rattle.ba_soap.specs.declared.headers.ReplyTo.{ReplyTo}
use Rattle.ba_soap.specs.declared.headers.ReplyTo.TheVariants as reply
use Rattle.ba_soap.specs.declared.headers.SoapFault.TheVariants as fault
use Rattle.ba_soap.specs.Elements.{IsPlainEnvelope, endpoint_block, is_none_or_bare, none_endpoint, notification_element, one_way_blocks}
use Rattle.ba_soap.specs.Elements.{optional_block, source_blocks, text_block, without_reply}
use Rattle.ba_soap.specs.Envelopes.{Dialect, envelope_answer, first_invalid_header, header_of, invalid_header, is_header, is_none}
use Rattle.ba_soap.specs.Envelopes.{lacks_address, reply_of}
use Rattle.ba_soap_shapes.proofs.WrittenEndpoints.{text_alone}
use Rattle.ba_soap_shapes.proofs.WrittenShapes.{child_is}
use Rattle.ba_soap_shapes.specs.Elements.{text_of}
use Rattle.ba_soap_shapes.specs.Endpoints.{address_line, bare_element, child_at, text_in, wsa_name}
use Rattle.ba_soap.proofs.WrittenEnvelopes.{AreLooked, AreRead, IsBare, blocks_are_read, some_is, two, valid}
use Rattle.ba_tree.specs.declared.trees.Content.TheVariants.{Text}
use Rattle.ba_tree.specs.declared.trees.Tree.{Tree}

abbrev blocks_from : Epr → Option (List ℕ) → List ℕ → Option (List ℕ) → Option (List ℕ) → List Tree
blocks_from source to action id relates =
    optional_block header.To to ++ (text_block header.Action action ∷
    (optional_block header.MessageID id ++ (source_blocks source ++ optional_block header.RelatesTo relates)))

-- ---- the ReplyTo

abbrev reply_block : Tree
reply_block = endpoint_block header.ReplyTo none_endpoint

abbrev none_address : Tree
none_address = bare_element (wsa_name (codes "Address")) (Text none_endpoint.address ∷ [])

address_is : child_at address_line reply_block ≡ Some none_address
address_is = child_is address_line reply_block (none_address ∷ []) refl

has_address : lacks_address header.ReplyTo reply_block ≡ false
has_address = ap is_none address_is

abbrev wanted_at : List ℕ → ReplyTo
wanted_at address =
    if bytes_eq address (codes "http://www.w3.org/2005/08/addressing/anonymous") then reply.Anonymous else reply.Elsewhere

wanted_elsewhere : reply_of (Some reply_block) ≡ reply.Elsewhere
wanted_elsewhere =
    ap (λ c. wanted_at (text_in c)) address_is ∙ ap wanted_at (text_alone (wsa_name (codes "Address")) none_endpoint.address refl)

-- ---- what is computed of the blocks, where each text is left out or not

notification_looked : (d : Dialect) (source : Epr) (to : Option (List ℕ)) (action : List ℕ) (id relates : Option (List ℕ))
    → AreLooked d reply.Elsewhere (blocks_from source to action id relates)
notification_looked d source None action None None = (refl, refl, refl, refl, wanted_elsewhere, refl)
notification_looked d source None action None (Some r) = (refl, refl, refl, refl, wanted_elsewhere, refl)
notification_looked d source None action (Some m) None = (refl, refl, refl, refl, wanted_elsewhere, refl)
notification_looked d source None action (Some m) (Some r) = (refl, refl, refl, refl, wanted_elsewhere, refl)
notification_looked d source (Some t) action None None = (refl, refl, refl, refl, wanted_elsewhere, refl)
notification_looked d source (Some t) action None (Some r) = (refl, refl, refl, refl, wanted_elsewhere, refl)
notification_looked d source (Some t) action (Some m) None = (refl, refl, refl, refl, wanted_elsewhere, refl)
notification_looked d source (Some t) action (Some m) (Some r) = (refl, refl, refl, refl, wanted_elsewhere, refl)

module _ (source : Epr) (action : List ℕ) (a : IsBare action) where
  abbrev act : Some (text_of (text_block header.Action action)) ≡ Some action
  act = some_is header.Action action a

  notification_read :
      (to id relates : Option (List ℕ)) → is_none_or_bare to ≡ true → is_none_or_bare id ≡ true → is_none_or_bare relates ≡ true
      → AreRead to action id relates (blocks_from source to action id relates)
  notification_read None None None p q r = (refl, act, refl, refl)
  notification_read None None (Some z) p q r = (refl, act, refl, some_is header.RelatesTo z r)
  notification_read None (Some y) None p q r = (refl, act, some_is header.MessageID y q, refl)
  notification_read None (Some y) (Some z) p q r = (refl, act, some_is header.MessageID y q, some_is header.RelatesTo z r)
  notification_read (Some x) None None p q r = (some_is header.To x p, act, refl, refl)
  notification_read (Some x) None (Some z) p q r = (some_is header.To x p, act, refl, some_is header.RelatesTo z r)
  notification_read (Some x) (Some y) None p q r = (some_is header.To x p, act, some_is header.MessageID y q, refl)
  notification_read (Some x) (Some y) (Some z) p q r =
      (some_is header.To x p, act, some_is header.MessageID y q, some_is header.RelatesTo z r)

-- ---- each block is valid after those before it

abbrev from_block : Epr → Tree
from_block source = endpoint_block header.From source

-- no block of these headers stands among these
abbrev HasNoSource : List Tree → Type 0
HasNoSource before = (list_any (is_header header.From) before ≡ false) × (list_any (is_header header.ReplyTo) before ≡ false)
    × (list_any (is_header header.RelatesTo) before ≡ false)

module _ (source : Epr) (before : List Tree) (none : HasNoSource before) where
  from_valid : invalid_header (header_of (from_block source)) before (from_block source) ≡ None
  from_valid = ap (λ b. if b || false then Some (fault.InvalidHeader header.From) else None) none.0

  abbrev with_from : List Tree
  with_from = before ++ from_block source ∷ []

  reply_once : list_any (is_header header.ReplyTo) with_from ≡ false
  reply_once = list_any-append (is_header header.ReplyTo) before (from_block source ∷ []) ∙ ap (λ b. b || false) none.1

  reply_valid : invalid_header (header_of reply_block) with_from reply_block ≡ None
  reply_valid = λ i. if reply_once i || has_address i then Some (fault.InvalidHeader header.ReplyTo) else None

  abbrev with_reply : List Tree
  with_reply = with_from ++ reply_block ∷ []

  no_relation : list_any (is_header header.RelatesTo) with_reply ≡ false
  no_relation =
      list_any-append (is_header header.RelatesTo) with_from (reply_block ∷ [])
      ∙ ap (λ b. b || false) (list_any-append (is_header header.RelatesTo) before (from_block source ∷ []) ∙ ap (λ b. b || false) none.2)

  source_valid : (relates : Option (List ℕ)) → is_none_or_bare relates ≡ true
      → first_invalid_header before (source_blocks source ++ optional_block header.RelatesTo relates) ≡ None
  source_valid None r = two _ _ from_valid (two _ _ reply_valid refl)
  source_valid (Some z) r =
      two _ _ from_valid (two _ _ reply_valid (two _ _ (valid header.RelatesTo z r with_reply no_relation refl) refl))

module _ (source : Epr) (action : List ℕ) (a : IsBare action) (relates : Option (List ℕ)) (r : is_none_or_bare relates ≡ true) where
  abbrev acted : Tree
  acted = text_block header.Action action

  notification_valid : (to id : Option (List ℕ)) → is_none_or_bare to ≡ true → is_none_or_bare id ≡ true
      → first_invalid_header [] (blocks_from source to action id relates) ≡ None
  notification_valid None None p q =
      two _ _ (valid header.Action action a [] refl refl) (source_valid source (acted ∷ []) (refl, refl, refl) relates r)
  notification_valid None (Some y) p q =
      two _ _ (valid header.Action action a [] refl refl) (two _ _ (valid header.MessageID y q (acted ∷ []) refl refl)
      (source_valid source (acted ∷ text_block header.MessageID y ∷ []) (refl, refl, refl) relates r))
  notification_valid (Some x) None p q =
      two _ _ (valid header.To x p [] refl refl) (two _ _ (valid header.Action action a (text_block header.To x ∷ []) refl refl)
      (source_valid source (text_block header.To x ∷ acted ∷ []) (refl, refl, refl) relates r))
  notification_valid (Some x) (Some y) p q =
      two _ _ (valid header.To x p [] refl refl) (two _ _ (valid header.Action action a (text_block header.To x ∷ []) refl refl)
      (two _ _ (valid header.MessageID y q (text_block header.To x ∷ acted ∷ []) refl refl)
      (source_valid source (text_block header.To x ∷ acted ∷ text_block header.MessageID y ∷ []) (refl, refl, refl) relates r)))

-- ---- the envelope

pub notification_is_read : (d : Dialect) (source : Epr) (e : Envelope) → IsPlainEnvelope e
    → envelope_answer d (notification_element d source e) ≡ Ok (without_reply e)
notification_is_read d source e plain =
    blocks_are_read d e reply.Elsewhere (one_way_blocks source e)
    (notification_looked d source e.to e.action e.message_id e.relates_to)
    (notification_read source e.action plain.action e.to e.message_id e.relates_to plain.to plain.message_id plain.relates_to)
    (notification_valid source e.action plain.action e.relates_to plain.relates_to e.to e.message_id plain.to plain.message_id)
    plain.unmarked

pub ok_notification_is_read :
    (d : Dialect) (source : Epr) (e : Envelope) (r : Result Tree Memory) → IfOk r (λ t. t ≡ notification_element d source e)
    → IsPlainEnvelope e
    → IfOk r (λ t. envelope_answer d t ≡ Ok (without_reply e))
ok_notification_is_read d source e (Ok t) is plain = ap (envelope_answer d) is ∙ notification_is_read d source e plain
ok_notification_is_read d source e (Err m) is plain = tt
