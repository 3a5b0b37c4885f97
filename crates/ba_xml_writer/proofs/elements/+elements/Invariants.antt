use Rattle.std.proofs.Common.{◌≡◌, ℕ, List, drop}
use Rattle.ba_xml_writer.specs.Namespaces.{text_scope}
use Rattle.ba_xml_writer.specs.OneText.{items}
use Rattle.ba_xml_writer.proofs.elements.+elements.Given as goal

abbrev pub invariant-put_items-loop-content : goal.invariant-put_items-loop-content
invariant-put_items-loop-content g l = (rest : List ℕ)
    → g.P.Page.after l.page (items (text_scope l.further) (drop l.content-index l.list) rest)
    ≡ g.P.Page.after l.initial.page (items (text_scope l.further) l.list rest)
