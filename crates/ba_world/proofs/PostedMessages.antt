-- What is written is read back: for both ways of a message.
use Rattle.std.proofs.Common.{◌≡◌, ℕ, List, Ok, IsTrue, sym, ap, subst}
use Rattle.ba_message.specs.declared.messages.Message.{Message}
use Rattle.ba_soap.specs.Envelopes.{soap11}
use Rattle.ba_tree.specs.declared.trees.Tree.{Tree}
use Rattle.ba_wire.proofs.WrittenMessages.{text_means}
use Rattle.ba_wire.specs.Envelopes.{CanEncode, TimesFit, envelope_text, envelope_tree, is_numbered}
use Rattle.ba_wire.specs.Meaning.{IsWireAnswer, Means}
use Rattle.ba_wire.specs.declared.meaning.Decoded.{Decoded}
use Rattle.ba_wire.specs.declared.routes.Route.{Route}
use Rattle.ba_xml_grammar.specs.GrammarTexts.{IsXmlText}

pub read_back : (r : Route) (m : Message) (text : List ℕ) (d : Decoded) → text ≡ envelope_text r m
    → CanEncode r m → IsTrue (is_numbered r m) → TimesFit m
    → ((tree : Tree) (decoded : Decoded) → IsXmlText text tree → Means soap11 tree decoded → IsWireAnswer (Ok decoded) (Ok d))
    → (d.route ≡ r) × (d.message ≡ m)
read_back r m text d written encodes numbered times only =
    let both = text_means r m encodes numbered times in
    let whole : Decoded = record { route = r; message = m } in
    let here : IsXmlText text (envelope_tree r m) =
    subst (λ (bytes : List ℕ). IsXmlText bytes (envelope_tree r m)) (sym written) both.0 in
    let answer = only (envelope_tree r m) whole here both.1 in
    let same : d ≡ whole = cc in
    (ap (λ (x : Decoded). x.route) same, ap (λ (x : Decoded). x.message) same)
