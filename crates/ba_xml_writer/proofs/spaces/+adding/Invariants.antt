use Rattle.std.proofs.Common.{◌≡◌, ℕ, List, drop}
use Rattle.ba_xml_writer.specs.Collected.{taken, spaces_in}
use Rattle.ba_xml_writer.proofs.spaces.+adding.Given as goal

abbrev pub invariant-add_items-loop-content : goal.invariant-add_items-loop-content
invariant-add_items-loop-content l = (rest : List (List ℕ)) → taken l.spaces.keys (spaces_in (drop l.content-index l.list) rest)
    ≡ taken l.initial.spaces.keys (spaces_in l.list rest)
