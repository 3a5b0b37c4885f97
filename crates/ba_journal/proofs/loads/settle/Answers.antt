use Rattle.std.proofs.Common.{◌≡◌, inr, Bool, true, is_err, sym, subst, arith, rules}
use Rattle.ba_ports.specs.Disk.{InTurn}
use Rattle.ba_journal.specs.Loads.{StandAlike, settling}
use Rattle.ba_journal.specs.Readings.{ReadsAs}
use Rattle.ba_journal.specs.Loads.{making}
use Rattle.ba_journal.specs.declared.readings.Reading.{Reading}
use Rattle.ba_journal.proofs.Ends.{has_gate}
use Rattle.ba_journal.proofs.Leading.{long_enough}
use Rattle.ba_journal.proofs.Turns.{widened}
use Rattle.ba_journal.proofs.loads.settle.Goals as goal

pub returns-in_err-make_file-in-Fresh-clause-calls : goal.returns-in_err-make_file-in-Fresh-clause-calls
returns-in_err-make_file-in-Fresh-clause-calls g c =
    let made = c.in_err-make_file-in-Fresh.ensures.calls in
    let failed : is_err c.from_residual.result ≡ true = search rules in (
      made.0,
      made.1,
      subst (λ (f : Reading). InTurn (settling f) (is_err c.from_residual.result) made.0) (sym c.in-Fresh.is)
          (subst (λ (b : Bool). InTurn making b made.0) (sym failed) made.2),
    )

pub repair-requires-clause-place : goal.repair-requires-clause-place
repair-requires-clause-place g c = λ follows.
    let file = g.D.Disk.seen c.args.disk.now in
    let found = subst (ReadsAs file) c.in-Found.is (c.requires.found follows) in
    omega (arith, found.2, has_gate file c.in-Found.records found.0 found.1, long_enough file found.1.made)

pub returns-in_err-repair-in-Found-clause-any_moment : goal.returns-in_err-repair-in-Found-clause-any_moment
returns-in_err-repair-in-Found-clause-any_moment g c = λ follows only.
    let D = g.D.Disk in
    let file = D.seen c.args.disk.now in
    let found = subst (ReadsAs file) c.in-Found.is (c.requires.found follows) in
    widened D.later D.left_between c.args.disk.now c.repair.new.disk _ (StandAlike file)
    (c.repair.ensures.any_moment follows c.in-Found.records found only)
    (λ left stands. (c.in-Found.records, inr (found.0, found.1), stands))

pub returns-in_ok-repair-in-Found-clause-any_moment : goal.returns-in_ok-repair-in-Found-clause-any_moment
returns-in_ok-repair-in-Found-clause-any_moment g c = λ follows only.
    let D = g.D.Disk in
    let file = D.seen c.args.disk.now in
    let found = subst (ReadsAs file) c.in-Found.is (c.requires.found follows) in
    widened D.later D.left_between c.args.disk.now c.repair.new.disk _ (StandAlike file)
    (c.repair.ensures.any_moment follows c.in-Found.records found only)
    (λ left stands. (c.in-Found.records, inr (found.0, found.1), stands))

pub returns-in_ok-repair-in-Found-clause-settled : goal.returns-in_ok-repair-in-Found-clause-settled
returns-in_ok-repair-in-Found-clause-settled g c = λ follows only.
    let found = subst (ReadsAs (g.D.Disk.seen c.args.disk.now)) c.in-Found.is (c.requires.found follows) in
    c.in_ok-repair-in-Found.ensures.settled follows c.in-Found.records found only
