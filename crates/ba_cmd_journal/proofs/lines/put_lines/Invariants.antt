use Rattle.std.proofs.Common.{◌≡◌, ◌++◌, take}
use Rattle.ba_cmd_journal.specs.Listing.{lines_from}
use Rattle.ba_cmd_journal.proofs.lines.put_lines.Given as goal

abbrev pub invariant-loop-index : goal.invariant-loop-index
invariant-loop-index l = l.out ≡ l.initial.out ++ lines_from 0 (take l.index l.records)
