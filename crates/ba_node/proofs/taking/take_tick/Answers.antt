use Rattle.ba_node.proofs.Told.{told_err, told_ok}
use Rattle.ba_node.proofs.taking.take_tick.Goals as goal

pub returns-in-Ok-clause-commits : goal.returns-in-Ok-clause-commits
returns-in-Ok-clause-commits g c =
    let D = g.D.Disk in
    told_ok D.follows D.seen D.may_leave D.later D.left_between D.driven D.faults tt _ _ _ _ c.in-Ok.ensures.commits

pub returns-in-Err-clause-commits : goal.returns-in-Err-clause-commits
returns-in-Err-clause-commits g c =
    let D = g.D.Disk in
    told_err D.follows D.seen D.may_leave D.later D.left_between D.driven D.faults
    (Unit {0}) _ c.in-Err.unsaid _ _ _ c.in-Err.ensures.commits
