use Rattle.std.proofs.Common.{◌≡◌, ℕ, List, drop}
use Rattle.ba_xml_writer.specs.Collected.{taken, spaces_with}
use Rattle.ba_xml_writer.proofs.row.hold_attributes.Given as goal

abbrev pub invariant-loop-attribute : goal.invariant-loop-attribute
invariant-loop-attribute l = (rest : List (List ℕ)) → taken l.row.items (spaces_with (drop l.attribute-index l.list) rest)
    ≡ taken l.initial.row.items (spaces_with l.list rest)
