use Rattle.std.proofs.Common.{◌≡◌, map, drop}
use Rattle.ba_tree.specs.Trees.{joined}
use Rattle.ba_record.specs.Coding.{content_coding}
use Rattle.ba_record.specs.Rooms.{filled}
use Rattle.ba_record.proofs.writer.+writers.Given as goal

abbrev pub invariant-put_contents-loop-content : goal.invariant-put_contents-loop-content
invariant-put_contents-loop-content l = filled l.out
    (joined (map content_coding (drop l.content-index l.contents))) ≡ filled l.initial.out (joined (map content_coding l.contents))
