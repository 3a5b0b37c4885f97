use Rattle.std.proofs.Common.{◌≡◌, ℕ, List, drop}
use Rattle.ba_xml_writer.specs.Collected.{taken, spaces_in}
use Rattle.ba_xml_writer.proofs.row.+holding.Given as goal

abbrev pub invariant-hold_items-loop-content : goal.invariant-hold_items-loop-content
invariant-hold_items-loop-content l = (rest : List (List ℕ)) → taken l.row.items (spaces_in (drop l.content-index l.list) rest)
    ≡ taken l.initial.row.items (spaces_in l.list rest)
