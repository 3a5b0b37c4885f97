use Rattle.std.proofs.Common.{ap₂, sym, ◌∙◌, ◌&&◌, arith}
use Rattle.std.proofs.lemmas.List.Folds.{list_all_more}
use Rattle.ba_xml_reader.specs.inside.Spans.{is_plain}
use Rattle.ba_xml_words.proofs.Fronts.{front_more}
use Rattle.ba_xml_reader.proofs.spans.front_length.Goals as goal

pub loop-length-preserved : goal.loop-length-preserved
loop-length-preserved c =
    let so_far = c.loop-length.invariant in (
      omega (arith, c.loop-length-test.true),
      omega (arith, c.if-length-most.true),
      list_all_more is_plain c.args.bytes.now c.loop-length.length 0 c.loop-length-test.true
          ∙ ap₂ (λ x y. x && y) so_far.2 (sym c.if-is_plain.ensures),
      front_more c.args.bytes.now c.args.rest.now c.loop-length.length c.loop-length-test.true c.if-length-rest.true
          c.if-rest-length.true so_far.3,
    )
