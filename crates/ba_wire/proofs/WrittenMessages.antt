-- What is written of a route and a message means them: for the laws `messages_are_read_back` and `letters_are_read_back`.
use Rattle.std.proofs.Common.{◌≡◌, ℕ, Bool, true, false, not, ◌||◌, List, Option, Some, None, Ok, Result, if◌then◌else◌, codes}
use Rattle.std.proofs.Common.{refl, ap, ◌∙◌}
use Rattle.ba_core.specs.declared.notices.Notice.{Notice}
use Rattle.ba_message.specs.declared.endpoints.Epr.{Epr}
use Rattle.std.specs.Prelude.{is_some}
use Rattle.ba_core.specs.declared.notices.Notice.TheVariants as notice
use Rattle.ba_message.specs.declared.messages.Message.{Message}
use Rattle.ba_message.specs.declared.messages.Message.TheVariants as message
use Rattle.ba_soap.specs.declared.headers.Envelope.{Envelope}
use Rattle.ba_soap.specs.declared.headers.ReplyTo.TheVariants as reply
use Rattle.ba_soap.specs.Elements.{IsPlainEnvelope, is_bare_text, without_reply}
use Rattle.ba_soap.specs.Envelopes.{is_called, soap11}
use Rattle.ba_soap.proofs.WrittenEnvelopes.{reads_back}
use Rattle.ba_soap.proofs.WrittenNotifications.{notification_is_read}
use Rattle.ba_wire.specs.declared.bodies.Body.{Body}
use Rattle.ba_wire.specs.declared.bodies.Body.TheVariants as body
use Rattle.ba_wire.specs.declared.faults.WireFault.{WireFault}
use Rattle.ba_wire.specs.Actions.{body_of}
use Rattle.ba_wire.specs.declared.elements.Family.{Family}
use Rattle.ba_wire.specs.declared.elements.Family.TheVariants as family
use Rattle.ba_wire.specs.declared.routes.Route.{Route}
use Rattle.ba_wire.specs.Elements.{body_of_message, body_of_notice, family_of}
use Rattle.ba_wire.specs.Envelopes.{CanEncode, HasEnvelope, TimesFit, action_for, envelope_of, envelope_text, envelope_tree, fault_action}
use Rattle.ba_wire.specs.Envelopes.{CanEncodeLetter, is_numbered, letter_text, letter_tree}
use Rattle.ba_wire.specs.Meaning.{Means, answer_by_envelope, answer_by_reply, answer_by_shape, answer_of_body, asks_for_reply, reply_rule}
use Rattle.ba_wire.specs.Meaning.{body_named, which_body}
use Rattle.ba_wire.proofs.WrittenBodies.{IsReadBack, body_reads_back}
use Rattle.ba_xml.proofs.RoundTrip.{round_trip}
use Rattle.ba_xml_grammar.specs.GrammarTexts.{IsXmlText}

-- ---- actions, which are computed for each message

fault_bare : (f : Family) → is_bare_text (fault_action f) ≡ true
fault_bare family.Soap = refl
fault_bare family.Coordination = refl
fault_bare family.Addressing = refl

-- an action is a text that is read as it stands, and names the body of its message
abbrev IsActed : Route → Message → Type 0
IsActed r m = (is_bare_text (action_for m) ≡ true) × (which_body soap11 (envelope_of r m) ≡ Ok (body_of_message m))

acted : (r : Route) (m : Message) → IsActed r m
acted r (message.Create expires current kind up) = (refl, refl)
acted r (message.Created context) = (refl, refl)
acted r (message.Register protocol participant) = (refl, refl)
acted r (message.Registered coordinator) = (refl, refl)
acted r (message.Fault c) = (fault_bare (family_of c), refl)
acted r (message.Notice (notice.Status state)) = (refl, refl)
acted r (message.Notice notice.Complete) = (refl, refl)
acted r (message.Notice notice.Close) = (refl, refl)
acted r (message.Notice notice.Cancel) = (refl, refl)
acted r (message.Notice notice.Compensate) = (refl, refl)
acted r (message.Notice notice.Failed) = (refl, refl)
acted r (message.Notice notice.Exited) = (refl, refl)
acted r (message.Notice notice.NotCompleted) = (refl, refl)
acted r (message.Notice notice.Completed) = (refl, refl)
acted r (message.Notice notice.Closed) = (refl, refl)
acted r (message.Notice notice.Canceled) = (refl, refl)
acted r (message.Notice notice.Compensated) = (refl, refl)
acted r (message.Notice notice.Fail) = (refl, refl)
acted r (message.Notice notice.Exit) = (refl, refl)
acted r (message.Notice notice.CannotComplete) = (refl, refl)
acted r (message.Notice notice.GetStatus) = (refl, refl)

-- ---- the rules on replies

unrefused : (asks : Bool) (id : Option (List ℕ)) → (not asks || is_some id) ≡ true
    → (if asks then reply_rule id reply.Absent else None) ≡ None
unrefused true None h = cc
unrefused true (Some id) h = refl
unrefused false id h = refl

-- ---- the whole

module _ (r : Route) (m : Message) (has : HasEnvelope r m) where
  is_plain : IsPlainEnvelope (envelope_of r m)
  is_plain = record {
    reply = refl;
    to = has.to;
    action = (acted r m).0;
    message_id = has.message_id;
    relates_to = has.relates_to;
    unmarked = has.unmarked;
  }

module _ (r : Route) (m : Message) (has : HasEnvelope r m) (numbered : is_numbered r m ≡ true) (small : TimesFit m) where
  abbrev e : Envelope
  e = envelope_of r m

  abbrev b : Body
  b = body_of_message m

  pub tree_means : Means soap11 (envelope_tree r m) (record { route = r; message = m })
  tree_means =
      let back : IsReadBack m = body_reads_back m has.known has.fit has.identifiers small in
      ap (answer_by_envelope soap11) (reads_back soap11 e (is_plain r m has))
      ∙ ap (λ body. answer_of_body body e) (acted r m).1
      ∙ ap (λ refusal. answer_by_reply refusal b e) (unrefused (asks_for_reply b) r.message_id numbered)
      ∙ (λ i. answer_by_shape (back.holds 0 i) b e)
      ∙ (λ i. Ok (record { route = r; message = back.means i }))

pub text_means :
    (r : Route) (m : Message) → CanEncode r m → is_numbered r m ≡ true → TimesFit m
    → IsXmlText (envelope_text r m) (envelope_tree r m) × Means soap11 (envelope_tree r m) (record { route = r; message = m })
text_means r m can numbered small = (round_trip (envelope_tree r m) can.writable, tree_means r m can.envelope numbered small)

-- ---- letters

-- a notice wants no reply, wherever it would go
notice_asks_nothing : (n : Notice) → asks_for_reply (body_of_notice n) ≡ false
notice_asks_nothing (notice.Status state) = refl
notice_asks_nothing n = refl

-- which body it has isn't said by where a reply is wanted
same_named : (o : Option Body) (e : Envelope) → body_named o (without_reply e) ≡ body_named o e
same_named None e = refl
same_named (Some b) e = refl

same_body : (e : Envelope) → which_body soap11 (without_reply e) ≡ which_body soap11 e
same_body e =
    ap (λ (x : Result Body WireFault). if is_called soap11.space (codes "Fault") e.body.name then Ok body.Fault else x)
    (same_named (body_of e.action) e)

module _ (source : Epr) (r : Route) (n : Notice) (has : HasEnvelope r (message.Notice n)) where
  abbrev letter : Envelope
  letter = without_reply (envelope_of r (message.Notice n))

  notice_means : Means soap11 (letter_tree source r (message.Notice n)) (record { route = r; message = message.Notice n })
  notice_means =
      let back : IsReadBack (message.Notice n) = body_reads_back (message.Notice n) has.known has.fit has.identifiers tt in
      let plain = is_plain r (message.Notice n) has in
      ap (answer_by_envelope soap11) (notification_is_read soap11 source (envelope_of r (message.Notice n)) plain)
      ∙ ap (λ body. answer_of_body body letter) (same_body (envelope_of r (message.Notice n)) ∙ (acted r (message.Notice n)).1)
      ∙ ap (λ asks. answer_by_reply (if asks then reply_rule r.message_id reply.Elsewhere else None) (body_of_notice n) letter)
      (notice_asks_nothing n)
      ∙ (λ i. answer_by_shape (back.holds 0 i) (body_of_notice n) letter)
      ∙ (λ i. Ok (record { route = r; message = back.means i }))

pub letter_means :
    (source : Epr) (r : Route) (m : Message) → HasEnvelope r m → is_numbered r m ≡ true → TimesFit m
    → Means soap11 (letter_tree source r m) (record { route = r; message = m })
letter_means source r (message.Notice n) has numbered small = notice_means source r n has
letter_means source r (message.Create expires current kind up) has numbered small =
    tree_means r (message.Create expires current kind up) has numbered small
letter_means source r (message.Created context) has numbered small = tree_means r (message.Created context) has numbered small
letter_means source r (message.Register protocol participant) has numbered small =
    tree_means r (message.Register protocol participant) has numbered small
letter_means source r (message.Registered coordinator) has numbered small = tree_means r (message.Registered coordinator) has numbered small
letter_means source r (message.Fault c) has numbered small = tree_means r (message.Fault c) has numbered small

pub letter_text_means :
    (source : Epr) (r : Route) (m : Message) → CanEncodeLetter source r m → is_numbered r m ≡ true → TimesFit m
    → IsXmlText (letter_text source r m) (letter_tree source r m)
    × Means soap11 (letter_tree source r m) (record { route = r; message = m })
letter_text_means source r m can numbered small =
    (round_trip (letter_tree source r m) can.writable, letter_means source r m can.envelope numbered small)
