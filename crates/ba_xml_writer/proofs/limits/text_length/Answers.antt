use Rattle.std.proofs.Common.{ap, refl, ◌∙◌, ◌+◌, ◌-◌, ◌^◌, min}
use Rattle.ba_xml_writer.specs.OneText.{root_text}
use Rattle.ba_xml_writer.proofs.Numbers.{counted}
use Rattle.ba_xml_writer.proofs.limits.text_length.Goals as goal

pub returns : goal.returns
returns c =
    counted c.count.result 0 (root_text c.args.further.now c.args.tree.now)
    (ap (λ n. min (n + 0) (2 ^ 64 - 1)) c.count.ensures ∙ ap (λ t. t.bytes) c.in-Ok.ensures) refl c.count.type_inv
