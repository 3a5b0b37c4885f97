use Rattle.std.proofs.Common.{ℕ, ◌∙◌, ◌++◌, length, map, ap, arith}
use Rattle.std.specs.Int.{w8, to_le_bytes}
use Rattle.ba_tree.specs.Trees.{joined}
use Rattle.ba_record.specs.Coding.{string_coding, tree_coding}
use Rattle.ba_record.specs.Rooms.{filled}
use Rattle.ba_record.proofs.Parts.{put_behind, all_put}
use Rattle.ba_record.proofs.writer.put_endpoint.Goals as goal

pub returns : goal.returns
returns c =
    let epr = c.args.epr.now in
    let parts = epr.parameters in
    let count = to_le_bytes w8 (length parts) in
    let whole = joined (map tree_coding parts) in
    let l = c.loop-parameter in
    put_behind c.args.out.now c.put_string.new.out l.out (string_coding epr.address) (count ++ whole) c.put_string.ensures
    (put_behind c.put_string.new.out c.put_count.new.out l.out count whole
    (c.put_count.ensures ∙ ap (λ (n : ℕ). filled c.put_string.new.out (to_le_bytes w8 n)) c.len.ensures)
    (all_put tree_coding parts l.parameter-index l.out (filled c.put_count.new.out whole)
    (omega (arith, c.loop-parameter-test.false, l.auto.parameter-index-end, ap length c.as_slice-parameter-items.ensures)) l.invariant))
