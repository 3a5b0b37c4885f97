-- The replies of a node can be encoded: for the law on replies.
use Rattle.std.proofs.Common.{◌≡◌, ℕ, ◌≤◌, true, List, Option, Some, None, IfSome, length, refl, sym}
use Rattle.std.proofs.Common.{subst, ◌≢◌, arith}
use Rattle.std.specs.Option.{is_some}
use Rattle.ba_core.specs.declared.protocols.Kind.{Kind}
use Rattle.ba_message.specs.declared.endpoints.Epr.{Epr}
use Rattle.ba_message.specs.declared.messages.Context.{Context}
use Rattle.ba_message.specs.declared.messages.Message.{Message}
use Rattle.ba_message.specs.declared.messages.Message.TheVariants as message
use Rattle.ba_message.specs.Endpoints.{Fits}
use Rattle.ba_message.specs.Letters.{IsIdentifier, IsReply, IsReplyContext}
use Rattle.ba_soap_shapes.specs.Forms.{is_there}
use Rattle.ba_soap_shapes.proofs.WrittenEndpoints.{is_there_by}
use Rattle.ba_soap.specs.Elements.{is_bare_text, is_none_or_bare}
use Rattle.ba_tree.specs.Characters.{has_bare_ends}
use Rattle.ba_tree.specs.Trees.{firsts}
use Rattle.ba_wire.specs.Elements.{body_element}
use Rattle.ba_wire.specs.Envelopes.{CanEncode, EndpointsFit, HasEnvelope, envelope_of, has_bare_identifiers, is_known}
use Rattle.ba_message.proofs.PlainTexts.{and_both}
use Rattle.ba_wire_limits.proofs.EncodedLetters.{action_short}
use Rattle.ba_wire_limits.proofs.FitParameters.{few_spaces}
use Rattle.ba_wire_limits.proofs.Known.{known_code}
use Rattle.ba_wire_limits.proofs.SoundBodies.{sound_created, sound_fault, sound_registered}
use Rattle.ba_wire_limits.proofs.SoundEnvelopes.{IsShort, IsSmall, envelope_writable}
use Rattle.ba_wire_limits.proofs.SoundTrees.{Sound, all_wider, further_named, none_sound, wider}
use Rattle.ba_wire_limits.specs.Replies.{reply_route}

-- ---- identifiers

identifier_bare : (text : List ℕ) → IsIdentifier text → is_bare_text text ≡ true
identifier_bare text is = and_both (is_there text) (has_bare_ends text) (is_there_by text is.named) is.bare

identifier_short : (text : List ℕ) → IsIdentifier text → IsShort text
identifier_short text is = record { said = record { legal = is.legal; there = is.named }; short = is.short }

related_bare : (related : Option (List ℕ)) → IfSome related IsIdentifier → is_none_or_bare related ≡ true
related_bare None h = refl
related_bare (Some text) h = identifier_bare text h

related_short : (related : Option (List ℕ)) → IfSome related IsIdentifier → IfSome related IsShort
related_short None h = tt
related_short (Some text) h = identifier_short text h

-- ---- an envelope, where what it relates to is bare

module _ (related : Option (List ℕ)) (bare : is_none_or_bare related ≡ true) where
  has_envelope : (m : Message) → is_known m ≡ true → EndpointsFit m → has_bare_identifiers m ≡ true
      → HasEnvelope (reply_route related) m
  has_envelope m known fit identifiers = record {
    known = known;
    fit = fit;
    identifiers = identifiers;
    to = refl;
    message_id = refl;
    relates_to = bare;
    unmarked = refl;
  }

  known_kind : (kind : Option Kind) → kind ≢ None → is_some kind ≡ true
  known_kind None h = absurd (h refl)
  known_kind (Some k) h = refl

  pub reply_has_envelope : (m : Message) → IsReply m → HasEnvelope (reply_route related) m
  reply_has_envelope (message.Created context) own =
      has_envelope (message.Created context) (known_kind context.kind own.kind) own.registration
      (identifier_bare context.identifier own.identifier)
  reply_has_envelope (message.Registered coordinator) fits = has_envelope (message.Registered coordinator) refl fits refl
  reply_has_envelope (message.Fault c) known = has_envelope (message.Fault c) (known_code c known) tt refl
  reply_has_envelope (message.Create expires current kind up) p = absurd p
  reply_has_envelope (message.Register protocol participant) p = absurd p
  reply_has_envelope (message.Notice n) p = absurd p

-- ---- one that can be written, where it is short besides

module _ (related : Option (List ℕ)) (is : IfSome related IsIdentifier) where
  small : (m : Message) → IsSmall (envelope_of (reply_route related) m)
  small m = record { to = tt; action = action_short m; message_id = tt; relates_to = related_short related is }

  encoded : (m : Message) → IsReply m → {named : List (List ℕ)} → Sound (body_element m) 21 6800 named
      → length (firsts named) ≤ 28 → CanEncode (reply_route related) m
  encoded m own body few =
      let parameters = all_wider 16 5000 none_sound (omega arith) (omega arith) in
      record {
        envelope = reply_has_envelope related (related_bare related is) m own;
        writable = envelope_writable (envelope_of (reply_route related) m) (small m) parameters body few;
      }

  registered : (e : Epr) → Fits e → CanEncode (reply_route related) (message.Registered e)
  registered e fits =
      let spaces = few_spaces e fits in
      encoded (message.Registered e) fits (wider 21 6800 (sound_registered e fits) (omega arith) (omega arith)) (omega arith)

  created_by : (c : Context) → IsReplyContext c → (kind : Option Kind) → c.kind ≡ kind
      → CanEncode (reply_route related) (message.Created c)
  created_by c own None e = absurd (own.kind e)
  created_by c own (Some k) e =
      let spaces = few_spaces c.registration own.registration in
      let body = sound_created c.identifier c.expires k c.registration own.identifier own.expires own.registration in
      let same =
      subst (λ kind. Sound (body_element (message.Created (record {
        identifier = c.identifier;
        expires = c.expires;
        kind = kind;
        registration = c.registration;
      }))) 21 6800 (further_named c.registration.parameters)) (sym e) body in
      encoded (message.Created c) own same (omega arith)

  pub reply_can_be_encoded : (m : Message) → IsReply m → CanEncode (reply_route related) m
  reply_can_be_encoded (message.Created context) own = created_by context own context.kind refl
  reply_can_be_encoded (message.Registered coordinator) fits = registered coordinator fits
  reply_can_be_encoded (message.Fault c) known =
      encoded (message.Fault c) known (wider 21 6800 (sound_fault c) (omega arith) (omega arith)) (omega arith)
  reply_can_be_encoded (message.Create expires current kind up) p = absurd p
  reply_can_be_encoded (message.Register protocol participant) p = absurd p
  reply_can_be_encoded (message.Notice n) p = absurd p
