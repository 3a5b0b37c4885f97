use Rattle.std.proofs.Common.{ap, ◌∙◌, codes}
use Rattle.ba_tree.specs.declared.trees.Content.TheVariants.{Child}
use Rattle.ba_wire.specs.Elements.{text_in_element, wscoor_name}
use Rattle.ba_wire.proofs.WrittenParts.{context_in_order}
use Rattle.ba_wire.proofs.elements.context_parts.Goals as goal

pub returns : goal.returns
returns c =
    let identifier = ap (λ t. Child (text_in_element (wscoor_name (codes "Identifier")) t)) c.as_slice-identifier.ensures in
    context_in_order c.args.context.now c.in_ok-identifier.identifier c.in_ok-type_child.field-0 c.in_ok-service.service
    c.in_ok-only.field-0
    c.in_ok-parts.parts c.in_ok-parts-2.parts c.and-2.result (c.in_ok-identifier.ensures ∙ identifier) c.in_ok-type_child.ensures
    c.in_ok-service.ensures c.in_ok-only.ensures c.in_ok-parts.ensures c.in_ok-parts-2.ensures c.and-2.ensures
