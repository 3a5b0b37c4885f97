use Rattle.ba_soap.proofs.WrittenBlocks.{placed_mark}
use Rattle.ba_soap.proofs.elements.with_mark.Goals as goal

pub returns : goal.returns
returns c =
    placed_mark c.in_ok-mark.mark c.args.attributes.now c.place_among-place.result c.with_attribute_at.result c.in_ok-mark.ensures
    c.place_among-place.ensures.place c.with_attribute_at.ensures
