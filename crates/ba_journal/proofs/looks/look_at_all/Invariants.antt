use Rattle.std.proofs.Common.{length, take, drop, ◌≡◌, ◌-◌, ◌≤◌, IsTrue}
use Rattle.ba_journal.specs.inside.Looks.{Looked}
use Rattle.ba_journal.proofs.looks.look_at_all.Given as goal

abbrev pub invariant-reads : goal.invariant-reads
invariant-reads g l =
    let D = g.D.Disk in
    record {
      within : l.done ≤ length l.room;
      looked : Looked D.follows D.seen D.may_leave D.later D.left_between D.driven D.faults l.initial.disk l.disk;
      bytes : IsTrue (D.follows l.initial.disk) → take l.done l.room ≡ take l.done (drop l.place (D.seen l.initial.disk));
    }

abbrev pub decreases-reads : goal.decreases-reads
decreases-reads g l = length l.initial.room - l.done
