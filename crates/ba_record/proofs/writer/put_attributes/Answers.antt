use Rattle.std.proofs.Common.{ℕ, ◌∙◌, length, map, ap, arith}
use Rattle.std.specs.Int.{w8, to_le_bytes}
use Rattle.ba_tree.specs.Trees.{joined}
use Rattle.ba_record.specs.Coding.{attribute_coding}
use Rattle.ba_record.specs.Rooms.{filled}
use Rattle.ba_record.proofs.Parts.{put_behind, one_put, all_put}
use Rattle.ba_record.proofs.writer.put_attributes.Goals as goal

pub loop-attribute-preserved : goal.loop-attribute-preserved
loop-attribute-preserved c =
    let parts = c.args.attributes.now in
    let l = c.loop-attribute in
    one_put attribute_coding parts c.as_slice-attribute-items.result.now l.attribute-index c.attribute-item.result l.out
    c.put_attribute.new.out
    (filled c.put_count.new.out (joined (map attribute_coding parts)))
    c.as_slice-attribute-items.ensures c.loop-attribute-test.true c.attribute-item.is c.put_attribute.ensures l.invariant

pub returns : goal.returns
returns c =
    let parts = c.args.attributes.now in
    let whole = joined (map attribute_coding parts) in
    let l = c.loop-attribute in
    put_behind c.args.out.now c.put_count.new.out l.out (to_le_bytes w8 (length parts)) whole
    (c.put_count.ensures ∙ ap (λ (n : ℕ). filled c.args.out.now (to_le_bytes w8 n)) c.len.ensures)
    (all_put attribute_coding parts l.attribute-index l.out (filled c.put_count.new.out whole)
    (omega (arith, c.loop-attribute-test.false, l.auto.attribute-index-end, ap length c.as_slice-attribute-items.ensures)) l.invariant)
