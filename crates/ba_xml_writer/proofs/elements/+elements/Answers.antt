use Rattle.std.proofs.Common.{◌∙◌, ap, sym}
use Rattle.ba_xml_writer.specs.Namespaces.{text_scope}
use Rattle.ba_xml_writer.specs.OneText.{item}
use Rattle.ba_xml_writer.proofs.Children.{child_text}
use Rattle.ba_xml_writer.proofs.elements.+elements.Goals as goal

pub put_item-returns-in_ok-put_element-in-Child : goal.put_item-returns-in_ok-put_element-in-Child
put_item-returns-in_ok-put_element-in-Child g t c rest =
    c.in_ok-put_element-in-Child.ensures rest
    ∙ ap (λ bytes. g.P.Page.after c.args.page.now bytes)
    (sym (child_text (text_scope c.args.further.now) c.in-Child.tree rest)
    ∙ ap (λ content. item (text_scope c.args.further.now) content rest) (sym c.in-Child.is))
