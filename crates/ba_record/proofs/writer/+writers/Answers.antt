use Rattle.std.proofs.Common.{List, ℕ, ◌++◌, length, map, arith, ap, sym, ◌∙◌}
use Rattle.std.specs.Int.{w8, w16, to_le_bytes}
use Rattle.ba_tree.specs.Trees.{joined}
use Rattle.ba_record.specs.Coding.{name_coding, attribute_coding, content_coding}
use Rattle.ba_record.specs.Rooms.{filled}
use Rattle.ba_record.proofs.Parts.{put_behind, text_put, child_put, all_put}
use Rattle.ba_record.proofs.Trees.{tree_is}
use Rattle.ba_record.proofs.writer.+writers.Goals as goal

pub put_content-returns-in-Text : goal.put_content-returns-in-Text
put_content-returns-in-Text t c =
    text_put c.args.out.now c.put_byte.new.out c.put_string.new.out c.in-Text.text c.args.content.now
    c.in-Text.is c.put_byte.ensures c.put_string.ensures

pub put_content-returns-in-Child : goal.put_content-returns-in-Child
put_content-returns-in-Child t c =
    child_put c.args.out.now c.put_byte-in-Child.new.out c.put_tree.new.out c.in-Child.tree c.args.content.now
    c.in-Child.is c.put_byte-in-Child.ensures c.put_tree.ensures

pub put_contents-returns : goal.put_contents-returns
put_contents-returns t c =
    let parts = c.args.contents.now in
    let whole = joined (map content_coding parts) in
    let all = ap length c.as_slice-content-items.ensures in
    let i = c.loop-content.content-index in
    put_behind c.args.out.now c.put_length.new.out c.loop-content.out (to_le_bytes w16 (length parts)) whole
    (c.put_length.ensures ∙ ap (λ (n : ℕ). filled c.args.out.now (to_le_bytes w16 n)) c.len.ensures)
    (all_put content_coding parts i c.loop-content.out (filled c.put_length.new.out whole)
    (omega (arith, c.loop-content-test.false, c.loop-content.auto.content-index-end, all)) c.loop-content.invariant)

pub put_tree-returns : goal.put_tree-returns
put_tree-returns t c =
    let tree = c.args.tree.now in
    let out = c.args.out.now in
    let new = c.put_contents.new.out in
    let n = name_coding tree.name in
    let a = to_le_bytes w8 (length tree.attributes) ++ joined (map attribute_coding tree.attributes) in
    let b = to_le_bytes w16 (length tree.content) ++ joined (map content_coding tree.content) in
    put_behind out c.put_name.new.out new n (a ++ b) c.put_name.ensures
    (put_behind c.put_name.new.out c.put_attributes.new.out new a b c.put_attributes.ensures c.put_contents.ensures)
    ∙ ap (λ (xs : List ℕ). filled out xs) (sym (tree_is tree))
