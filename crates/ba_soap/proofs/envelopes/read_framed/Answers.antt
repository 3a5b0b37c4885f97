use Rattle.std.proofs.Common.{map, ap, ◌∙◌}
use Rattle.ba_soap_shapes.specs.Elements.{children}
use Rattle.ba_soap.proofs.BlockLaws.{same_blocks}
use Rattle.ba_soap.proofs.envelopes.read_framed.Goals as goal

pub returns : goal.returns
returns g c =
    same_blocks (g.D.Dialect.sheet c.args.dialect.now) (map (λ b. b.now) c.as_slice-2.result.now) (children c.args.header.now.content)
    (children c.args.body.now.content)
    (ap (map (λ b. b.now)) c.as_slice-2.ensures.value ∙ c.in_ok-blocks.ensures ∙ ap children c.as_slice.ensures) c.read_with.result
    c.read_with.ensures
