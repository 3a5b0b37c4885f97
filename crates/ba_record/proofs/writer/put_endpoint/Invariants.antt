use Rattle.std.proofs.Common.{◌≡◌, map, drop}
use Rattle.ba_tree.specs.Trees.{joined}
use Rattle.ba_record.specs.Coding.{tree_coding}
use Rattle.ba_record.specs.Rooms.{filled}
use Rattle.ba_record.proofs.writer.put_endpoint.Given as goal

abbrev pub invariant-loop-parameter : goal.invariant-loop-parameter
invariant-loop-parameter l = filled l.out (joined (map tree_coding (drop l.parameter-index l.epr.parameters))) ≡ filled l.initial.out
    (joined (map tree_coding l.epr.parameters))
