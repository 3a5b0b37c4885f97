use Rattle.std.proofs.Common.{IsTrue, ◌<◌, ◌^◌, arith, subst}
use Rattle.ba_node.proofs.Beginnings.{begins_err, begins_ok, holds_new, replay_new}
use Rattle.ba_node.proofs.beginning.begin_new.Goals as goal

pub returns-in-Ok-clause-replay : goal.returns-in-Ok-clause-replay
returns-in-Ok-clause-replay g c = replay_new c.args.number c.args.base c.new.result.node c.new.ensures

pub returns-in-Ok-clause-holds : goal.returns-in-Ok-clause-holds
returns-in-Ok-clause-holds g c =
    let D = g.D.Disk in
    let made = c.in-Ok.ensures.begins in
    let small : c.args.number < 2 ^ 32 = omega arith in
    holds_new D.follows D.seen c.args.number c.args.base c.keep_own.new.journal c.new.result.node c.new.ensures small c.requires.is_base
    made.grows.1
    (λ f. made.place (subst IsTrue made.follows_same f))

pub returns-in-Ok-clause-begins : goal.returns-in-Ok-clause-begins
returns-in-Ok-clause-begins g c =
    let D = g.D.Disk in
    begins_ok D.follows D.seen D.may_leave D.later D.left_between D.driven D.faults tt _ _ _ _ _ _ c.in-Ok.ensures.begins

pub returns-in-Err-clause-begins : goal.returns-in-Err-clause-begins
returns-in-Err-clause-begins g c =
    let D = g.D.Disk in
    begins_err D.follows D.seen D.may_leave D.later D.left_between D.driven D.faults
    (Unit {0}) _ c.in-Err.why _ _ _ _ _ c.in-Err.ensures.begins
