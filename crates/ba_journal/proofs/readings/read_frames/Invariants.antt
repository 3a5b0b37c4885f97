use Rattle.std.proofs.Common.{◌-◌, ◌+◌, ◌<◌, ◌^◌, IsTrue}
use Rattle.ba_journal.specs.Readings.{AreBefore}
use Rattle.ba_journal.specs.inside.Blocks.{BeginsFrames}
use Rattle.ba_journal.specs.inside.Looks.{Looked}
use Rattle.ba_journal.proofs.BlockReads.{Stands}
use Rattle.ba_journal.proofs.readings.read_frames.Given as goal

abbrev pub invariant-frames : goal.invariant-frames
invariant-frames g l =
    let D = g.D.Disk in
    record {
      within : l.blocks.place + 1 < 2 ^ 64;
      before : AreBefore l.records l.blocks.place;
      looked : Looked D.follows D.seen D.may_leave D.later D.left_between D.driven D.faults l.initial.disk l.disk;
      stands : IsTrue (D.follows l.initial.disk) → BeginsFrames (D.seen l.initial.disk) l.initial.blocks
          → Stands (D.seen l.initial.disk) l.blocks l.records;
    }

abbrev pub decreases-frames : goal.decreases-frames
decreases-frames g l = l.blocks.len - l.blocks.place
