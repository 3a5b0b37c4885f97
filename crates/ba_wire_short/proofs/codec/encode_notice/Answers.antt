use Rattle.std.proofs.Common.{◌≡◌, ℕ, List, Option, IfSome, sym, ap, ◌∙◌, subst}
use Rattle.ba_wire.specs.Envelopes.{notice_tree}
use Rattle.ba_xml_writer.specs.OneText.{one_text}
use Rattle.ba_wire_short.proofs.codec.encode_notice.Goals as goal

pub returns-in-Some : goal.returns-in-Some
returns-in-Some c =
    subst
    (λ (found : Option (List ℕ)). IfSome found (λ text. text ≡ one_text (notice_tree c.args.source.now c.args.route.now c.args.message.now)))
    c.in-Some.is c.in_ok-text.ensures
    ∙ ap one_text (sym c.requires.notice)
