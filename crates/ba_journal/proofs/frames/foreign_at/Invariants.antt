use Rattle.std.proofs.Common.{◌≡◌, take}
use Rattle.ba_journal.specs.Frames.{header}
use Rattle.ba_journal.proofs.frames.foreign_at.Given as goal

abbrev pub invariant-loop-place : goal.invariant-loop-place
invariant-loop-place l = take l.place l.file ≡ take l.place header
