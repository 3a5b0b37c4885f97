use Rattle.std.proofs.Common.{◌≡◌, ℕ, ◌+◌, List, drop}
use Rattle.ba_xml_writer.specs.Namespaces.{numbered}
use Rattle.ba_xml_writer.specs.OneText.{prefixed}
use Rattle.ba_xml_writer.proofs.scribe.place_of.Given as goal

abbrev pub invariant-loop-i : goal.invariant-loop-i
invariant-loop-i l = (rest : List ℕ) → prefixed (numbered 1 l.further) l.space rest
    ≡ prefixed (numbered (l.i + 1) (drop l.i l.further)) l.space rest
