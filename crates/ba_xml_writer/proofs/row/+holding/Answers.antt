use Rattle.std.proofs.Common.{◌∙◌, ap, refl}
use Rattle.ba_xml_writer.specs.Collected.{taken, spaces_with, spaces_in}
use Rattle.ba_xml_writer.proofs.Collecting.{tree_met, still_over}
use Rattle.ba_xml_writer.proofs.row.+holding.Goals as goal

pub hold_tree-returns-clause-held : goal.hold_tree-returns-clause-held
hold_tree-returns-clause-held t c rest =
    c.in_default-hold_items.ensures.held rest
    ∙ (c.in_default-hold_attributes.ensures.held (spaces_in c.as_slice-3.result.now rest)
    ∙ (c.in_default.ensures.held (spaces_with c.as_slice-2.result.now (spaces_in c.as_slice-3.result.now rest))
    ∙ ap (λ met. taken c.args.row.now.items met)
    (tree_met c.args.tree.now rest c.as_slice.result.now c.as_slice-2.result.now c.as_slice-3.result.now c.as_slice.ensures
    c.as_slice-2.ensures c.as_slice-3.ensures)))

pub hold_tree-returns-in-Err-hold_attributes-clause-many :
    goal.hold_tree-returns-in-Err-hold_attributes-clause-many
hold_tree-returns-in-Err-hold_attributes-clause-many t c rest =
    still_over _ _
    (c.in_default.ensures.held (spaces_with c.as_slice-2.result.now (spaces_in c.args.tree.now.content rest))
    ∙ ap (λ met. taken c.args.row.now.items met)
    (tree_met c.args.tree.now rest c.as_slice.result.now c.as_slice-2.result.now c.args.tree.now.content c.as_slice.ensures
    c.as_slice-2.ensures refl))
    (c.in-Err-hold_attributes.ensures.many (spaces_in c.args.tree.now.content rest))

pub hold_tree-returns-in-Err-hold_items-clause-many :
    goal.hold_tree-returns-in-Err-hold_items-clause-many
hold_tree-returns-in-Err-hold_items-clause-many t c rest =
    still_over _ _
    (c.in_default-hold_attributes.ensures.held (spaces_in c.as_slice-3.result.now rest)
    ∙ (c.in_default.ensures.held (spaces_with c.as_slice-2.result.now (spaces_in c.as_slice-3.result.now rest))
    ∙ ap (λ met. taken c.args.row.now.items met)
    (tree_met c.args.tree.now rest c.as_slice.result.now c.as_slice-2.result.now c.as_slice-3.result.now c.as_slice.ensures
    c.as_slice-2.ensures c.as_slice-3.ensures)))
    (c.in-Err-hold_items.ensures.many rest)
