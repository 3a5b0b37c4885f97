-- What is put of a letter or a reply is the canonical text of its route and message: for `direct_text`.
use Rattle.std.proofs.Common.{◌≡◌, ℕ, true, List, [], Option, Some, None, Result, Ok, Err, IfOk, IfSome, refl, sym, ap, ◌∙◌}
use Rattle.ba_core.specs.declared.memory.Memory.{Memory}
use Rattle.ba_core.specs.declared.notices.Notice.{Notice}
use Rattle.ba_message.specs.declared.messages.Message.{Message}
use Rattle.ba_message.specs.declared.messages.Message.TheVariants as message
use Rattle.ba_wire_limits.specs.Replies.{reply_route}
use Rattle.ba_wire.specs.Envelopes.{envelope_text, envelope_tree, letter_tree, notice_tree}
use Rattle.ba_xml_writer.specs.OneText.{one_text}
use Rattle.ba_message.specs.declared.endpoints.Epr.{Epr}
use Rattle.ba_wire.specs.declared.routes.Route.{Route}
use Rattle.ba_wire_short.proofs.DirectTexts.{letter_is, notice_is, reply_is}
use Rattle.ba_wire_short.specs.inside.Texts.{IsDirectLetter, IsDirectNotice, IsDirectReply, is_direct, letter_route}

module _ (route : Route) (m : Message) (bare : route.parameters ≡ []) (direct : is_direct m ≡ true) where
  pub letter_told : (to number : List ℕ) → route.to ≡ Some to → route.message_id ≡ Some number → route.relates_to ≡ None
      → (told : Result (Option (List ℕ)) Memory) → IfOk told (λ found. IfSome found (IsDirectLetter to number m))
      → IfOk told (λ found. IfSome found (λ text. text ≡ envelope_text route m))
  letter_told to number is_to is_number none (Err why) is = tt
  letter_told to number is_to is_number none (Ok None) is = tt
  letter_told to number is_to is_number none (Ok (Some text)) is =
      let same : route ≡ letter_route to number =
      λ i. record { to = is_to i; message_id = is_number i; relates_to = none i; parameters = bare i } in
      is.0 ∙ sym (letter_is to number m direct is.1 is.2) ∙ ap (λ (r : Route). envelope_text r m) (sym same)

  pub reply_told : (related : List ℕ) → route.to ≡ None → route.message_id ≡ None → route.relates_to ≡ Some related
      → (told : Result (Option (List ℕ)) Memory) → IfOk told (λ found. IfSome found (IsDirectReply related m))
      → IfOk told (λ found. IfSome found (λ text. text ≡ envelope_text route m))
  reply_told related none no_number is_related (Err why) is = tt
  reply_told related none no_number is_related (Ok None) is = tt
  reply_told related none no_number is_related (Ok (Some text)) is =
      let same : route ≡ reply_route (Some related) =
      λ i. record { to = none i; message_id = no_number i; relates_to = is_related i; parameters = bare i } in
      is.0 ∙ sym (reply_is related m direct is.1) ∙ ap (λ (r : Route). envelope_text r m) (sym same)

  pub notice_told : (source : Epr) (to number : List ℕ) → source.parameters ≡ [] → route.to ≡ Some to → route.message_id ≡ Some number
      → route.relates_to ≡ None → (told : Result (Option (List ℕ)) Memory)
      → IfOk told (λ found. IfSome found (IsDirectNotice source.address to number m))
      → IfOk told (λ found. IfSome found (λ text. text ≡ one_text (notice_tree source route m)))
  notice_told source to number alone is_to is_number none (Err why) is = tt
  notice_told source to number alone is_to is_number none (Ok None) is = tt
  notice_told source to number alone is_to is_number none (Ok (Some text)) is =
      let same : route ≡ letter_route to number =
      λ i. record { to = is_to i; message_id = is_number i; relates_to = none i; parameters = bare i } in
      is.0 ∙ sym (notice_is source to number m alone direct is.1 is.2 is.3)
      ∙ ap (λ (r : Route). one_text (notice_tree source r m)) (sym same)

-- a letter that is no notice is its envelope
pub other_is : (source : Epr) (r : Route) (m : Message) → ((n : Notice) → m ≡ message.Notice n → ⊥)
    → letter_tree source r m ≡ envelope_tree r m
other_is source r (message.Notice n) other = absurd (other n refl)
other_is source r (message.Create expires current kind up) other = refl
other_is source r (message.Created context) other = refl
other_is source r (message.Register protocol participant) other = refl
other_is source r (message.Registered coordinator) other = refl
other_is source r (message.Fault code) other = refl
