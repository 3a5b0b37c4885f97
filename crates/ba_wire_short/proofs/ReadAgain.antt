-- A text that is written again, and the same, is read as what was written: for `decode`.
use Rattle.std.proofs.Common.{◌≡◌, ℕ, List, Ok, IsTrue, sym, subst}
use Rattle.ba_message.specs.declared.endpoints.Epr.{Epr}
use Rattle.ba_message.specs.declared.messages.Message.{Message}
use Rattle.ba_wire.proofs.TextAnswers.{tree_read}
use Rattle.ba_wire.proofs.WrittenMessages.{letter_text_means, text_means}
use Rattle.ba_wire.specs.Envelopes.{CanEncode, CanEncodeLetter, TimesFit, envelope_text, envelope_tree, is_numbered, letter_text}
use Rattle.ba_wire.specs.Envelopes.{letter_tree}
use Rattle.ba_wire.specs.Meaning.{IsDecodedOf}
use Rattle.ba_wire.specs.declared.routes.Route.{Route}

pub read_again : (r : Route) (m : Message) (bytes : List ℕ) → bytes ≡ envelope_text r m → CanEncode r m → IsTrue (is_numbered r m)
    → TimesFit m → IsDecodedOf bytes (Ok (record { route = r; message = m }))
read_again r m bytes same can numbered times =
    let both = text_means r m can numbered times in
    let read = tree_read (envelope_text r m) (envelope_tree r m) (Ok (record { route = r; message = m })) both.0 (sym both.1) in
    subst (λ (b : List ℕ). IsDecodedOf b (Ok (record { route = r; message = m }))) (sym same) read

pub letter_read_again : (source : Epr) (r : Route) (m : Message) (bytes : List ℕ) → bytes ≡ letter_text source r m
    → CanEncodeLetter source r m → IsTrue (is_numbered r m) → TimesFit m → IsDecodedOf bytes (Ok (record { route = r; message = m }))
letter_read_again source r m bytes same can numbered times =
    let both = letter_text_means source r m can numbered times in
    let read = tree_read (letter_text source r m) (letter_tree source r m) (Ok (record { route = r; message = m })) both.0 (sym both.1) in
    subst (λ (b : List ℕ). IsDecodedOf b (Ok (record { route = r; message = m }))) (sym same) read
