-- Letters that are postable can be encoded, also as letters from an endpoint of the node's own: for the laws on letters.
use Rattle.std.proofs.Common.{◌≡◌, true, [], Some, None, map, length, append-nil, refl}
use Rattle.std.proofs.Common.{ap, subst, arith}
use Rattle.ba_core.specs.declared.notices.Notice.{Notice}
use Rattle.ba_core.specs.declared.protocols.Protocol.{Protocol}
use Rattle.ba_message.specs.declared.endpoints.Epr.{Epr}
use Rattle.ba_message.specs.declared.messages.Letter.{Letter}
use Rattle.ba_message.specs.declared.messages.Message.{Message}
use Rattle.ba_message.specs.declared.messages.Message.TheVariants as message
use Rattle.ba_message.specs.Addresses.{IsDialable}
use Rattle.ba_message.specs.Endpoints.{Fits}
use Rattle.ba_message.specs.Letters.{IsOwnEndpoint, IsPostable, IsPostableMessage}
use Rattle.ba_soap_shapes.specs.Forms.{is_there}
use Rattle.ba_soap_shapes.proofs.WrittenEndpoints.{is_there_by}
use Rattle.ba_soap.specs.Elements.{marked_tree}
use Rattle.ba_tree.specs.Characters.{has_bare_ends}
use Rattle.ba_tree.specs.Trees.{firsts}
use Rattle.ba_wire.specs.Elements.{body_element}
use Rattle.ba_wire.specs.Envelopes.{CanEncode, CanEncodeLetter, EndpointsFit, HasEnvelope, action_for, envelope_of, has_bare_identifiers}
use Rattle.ba_wire.specs.Envelopes.{is_known}
use Rattle.ba_wire.specs.Routes.{number_urn, route_of}
use Rattle.ba_wire_limits.proofs.FitParameters.{few_spaces, short_parameters}
use Rattle.ba_wire_limits.proofs.Known.{brief_action, known_notice}
use Rattle.ba_wire_limits.proofs.MarkedParameters.{sound_marked_parameters}
use Rattle.ba_wire_limits.proofs.NumberUrns.{urn_length, urn_plain}
use Rattle.ba_message.proofs.OwnEndpoints.{own_endpoint_fits}
use Rattle.ba_message.proofs.PlainTexts.{and_both, plain_is_bare}
use Rattle.ba_wire_limits.proofs.BriefTexts.{brief_said, brief_short, plain_is_said}
use Rattle.ba_wire_limits.proofs.SoundBodies.{sound_notice, sound_register}
use Rattle.ba_wire_limits.proofs.SoundEnvelopes.{IsShort, IsSmall, envelope_writable, notification_writable}
use Rattle.ba_wire_limits.proofs.SoundTrees.{AllSound, Sound, all_wider, further_named, wider}

pub action_short : (m : Message) → IsShort (action_for m)
action_short m =
    let short = brief_short (action_for m) (brief_action m) in
    record { said = brief_said (action_for m) (brief_action m); short = omega arith }

module _ (letter : Letter) (fits : Fits letter.to) (dialable : IsDialable letter.to.address) where
  urn_short : IsShort (number_urn letter.number.0)
  urn_short =
      let long = urn_length letter.number.0 in
      record { said = plain_is_said (number_urn letter.number.0) (urn_plain letter.number.0) (omega arith); short = omega arith }

  small : (m : Message) → IsSmall (envelope_of (route_of letter) m)
  small m = record {
    to = record { said = record { legal = fits.legal; there = fits.named }; short = dialable.short };
    action = action_short m;
    message_id = urn_short;
    relates_to = tt;
  }

  has_envelope : (m : Message) → is_known m ≡ true → EndpointsFit m → has_bare_identifiers m ≡ true
      → HasEnvelope (route_of letter) m
  has_envelope m known fit identifiers =
      let long = urn_length letter.number.0 in
      record {
        known = known;
        fit = fit;
        identifiers = identifiers;
        to = and_both (is_there letter.to.address) (has_bare_ends letter.to.address) (is_there_by letter.to.address fits.named)
            fits.bare;
        message_id = and_both (is_there (number_urn letter.number.0)) (has_bare_ends (number_urn letter.number.0))
            (is_there_by (number_urn letter.number.0) (omega arith))
            (plain_is_bare (number_urn letter.number.0) (urn_plain letter.number.0));
        relates_to = refl;
        unmarked = fits.unmarked;
      }

  parameters : AllSound (map marked_tree letter.to.parameters) 16 5000 (further_named letter.to.parameters)
  parameters =
      let short = short_parameters letter.to fits in
      let count = fits.count in
      all_wider 16 5000 (sound_marked_parameters letter.to fits) (omega arith) (omega arith)

  encoded : (m : Message) → HasEnvelope (route_of letter) m → Sound (body_element m) 21 6800 [] → CanEncode (route_of letter) m
  encoded m has body =
      let spaces = few_spaces letter.to fits in
      let same = ap (λ l. length (firsts l)) (append-nil (further_named letter.to.parameters)) in
      record {
        envelope = has;
        writable = envelope_writable (envelope_of (route_of letter) m) (small m) parameters body (omega arith);
      }

  register_body : (p : Protocol) (e : Epr) → IsOwnEndpoint e → Sound (body_element (message.Register (Some p) e)) 21 6800 []
  register_body p e own =
      let s = wider 21 6800 (sound_register p e (own_endpoint_fits e own)) (omega arith) (omega arith) in
      subst (λ ps. Sound (body_element (message.Register (Some p) e)) 21 6800 (further_named ps)) own.alone s

  pub message_can_be_encoded : (m : Message) → IsPostableMessage m → CanEncode (route_of letter) m
  message_can_be_encoded (message.Notice n) p =
      encoded (message.Notice n) (has_envelope (message.Notice n) (known_notice n p) tt refl)
      (wider 21 6800 (sound_notice n) (omega arith) (omega arith))
  message_can_be_encoded (message.Register (Some protocol) participant) p =
      encoded (message.Register (Some protocol) participant)
      (has_envelope (message.Register (Some protocol) participant) refl (own_endpoint_fits participant p.1) refl)
      (register_body protocol participant p.1)
  message_can_be_encoded (message.Register None participant) p = absurd (p.0 refl)
  message_can_be_encoded (message.Create expires current kind up) p = absurd p
  message_can_be_encoded (message.Created context) p = absurd p
  message_can_be_encoded (message.Registered coordinator) p = absurd p
  message_can_be_encoded (message.Fault code) p = absurd p

  -- ---- from an endpoint of the node's own

  notice_from : (source : Epr) → IsOwnEndpoint source → (n : Notice) → IsPostableMessage (message.Notice n)
      → CanEncodeLetter source (route_of letter) (message.Notice n)
  notice_from source own n p =
      let spaces = few_spaces letter.to fits in
      let same = ap (λ l. length (firsts l)) (append-nil (further_named letter.to.parameters)) in
      let body = wider 21 400 (sound_notice n) (omega arith) (omega arith) in
      record {
        envelope = has_envelope (message.Notice n) (known_notice n p) tt refl;
        writable = notification_writable (envelope_of (route_of letter) (message.Notice n)) (small (message.Notice n)) parameters source
            (own_endpoint_fits source own) own.alone body (omega arith);
      }

  pub message_can_be_sent : (source : Epr) → IsOwnEndpoint source → (m : Message) → IsPostableMessage m
      → CanEncodeLetter source (route_of letter) m
  message_can_be_sent source own (message.Notice n) p = notice_from source own n p
  message_can_be_sent source own (message.Register protocol participant) p =
      let can = message_can_be_encoded (message.Register protocol participant) p in
      record { envelope = can.envelope; writable = can.writable }
  message_can_be_sent source own (message.Create expires current kind up) p = absurd p
  message_can_be_sent source own (message.Created context) p = absurd p
  message_can_be_sent source own (message.Registered coordinator) p = absurd p
  message_can_be_sent source own (message.Fault code) p = absurd p

pub letter_can_be_encoded : (letter : Letter) → IsPostable letter → CanEncode (route_of letter) letter.message
letter_can_be_encoded letter is = message_can_be_encoded letter is.fits is.dialable letter.message is.message

pub letter_can_be_sent : (source : Epr) (letter : Letter) → IsOwnEndpoint source → IsPostable letter
    → CanEncodeLetter source (route_of letter) letter.message
letter_can_be_sent source letter own is = message_can_be_sent letter is.fits is.dialable source own letter.message is.message
