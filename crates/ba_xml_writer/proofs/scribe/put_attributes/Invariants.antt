use Rattle.std.proofs.Common.{◌≡◌, ℕ, List, drop}
use Rattle.ba_xml_writer.specs.Namespaces.{text_scope}
use Rattle.ba_xml_writer.specs.OneText.{attributes}
use Rattle.ba_xml_writer.proofs.scribe.put_attributes.Given as goal

abbrev pub invariant-loop-attribute : goal.invariant-loop-attribute
invariant-loop-attribute g l = (rest : List ℕ)
    → g.P.Page.after l.page (attributes (text_scope l.further) (drop l.attribute-index l.list) rest)
    ≡ g.P.Page.after l.initial.page (attributes (text_scope l.further) l.list rest)
