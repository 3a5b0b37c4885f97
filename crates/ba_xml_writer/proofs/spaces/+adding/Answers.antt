use Rattle.std.proofs.Common.{◌∙◌, ap}
use Rattle.ba_xml_writer.specs.Collected.{taken, spaces_with, spaces_in}
use Rattle.ba_xml_writer.proofs.Collecting.{tree_met}
use Rattle.ba_xml_writer.proofs.spaces.+adding.Goals as goal

pub add_tree-returns : goal.add_tree-returns
add_tree-returns t c rest =
    c.in_ok-add_items.ensures rest
    ∙ (c.in_ok-add_attributes.ensures (spaces_in c.as_slice-3.result.now rest)
    ∙ (c.in_ok-add.ensures (spaces_with c.as_slice-2.result.now (spaces_in c.as_slice-3.result.now rest))
    ∙ ap (λ met. taken c.args.spaces.now.keys met)
    (tree_met c.args.tree.now rest c.as_slice.result.now c.as_slice-2.result.now c.as_slice-3.result.now c.as_slice.ensures
    c.as_slice-2.ensures c.as_slice-3.ensures)))
