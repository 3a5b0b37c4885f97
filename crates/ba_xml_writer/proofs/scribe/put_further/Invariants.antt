use Rattle.std.proofs.Common.{◌≡◌, ℕ, ◌+◌, List, drop}
use Rattle.ba_xml_writer.specs.Namespaces.{numbered}
use Rattle.ba_xml_writer.specs.OneText.{declaration_texts}
use Rattle.ba_xml_writer.proofs.scribe.put_further.Given as goal

abbrev pub invariant-loop-i : goal.invariant-loop-i
invariant-loop-i g l = (rest : List ℕ) → g.P.Page.after l.page (declaration_texts (numbered (l.i + 1) (drop l.i l.further)) rest)
    ≡ g.P.Page.after l.initial.page (declaration_texts (numbered 1 l.further) rest)
