use Rattle.std.proofs.Common.{length}
use Rattle.ba_journal.proofs.Leading.{Scanned}
use Rattle.ba_journal.proofs.scanning.scan.Given as goal

abbrev pub invariant-frames : goal.invariant-frames
invariant-frames l = Scanned l.file l.rest l.records

abbrev pub decreases-frames : goal.decreases-frames
decreases-frames l = length l.rest
