use Rattle.std.proofs.Common.{refl}
use Rattle.ba_journal.proofs.Looking.{looked_once, broke_by}
use Rattle.ba_journal.proofs.looks.look_at.Goals as goal

pub returns-clause-looked : goal.returns-clause-looked
returns-clause-looked g c =
    let D = g.D.Disk in
    let laws = g.met.D.Disk in
    let made = c.read_at.ensures in
    looked_once D.follows D.seen D.may_leave D.later D.left_between D.driven D.faults laws.no_call laws.only_now laws.call_after_call
    c.args.disk.now c.read_at.new.self _ refl made.follows made.seen made.crash made.moments made.driven made.cause.later

pub returns-clause-broke_off : goal.returns-clause-broke_off
returns-clause-broke_off g c =
    let D = g.D.Disk in
    broke_by D.follows D.seen D.may_leave D.later D.left_between D.driven D.faults c.args.disk.now c.read_at.new.self _ c.read_at.result
    refl c.read_at.ensures.driven
