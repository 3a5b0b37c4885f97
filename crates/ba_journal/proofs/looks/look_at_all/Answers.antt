use Rattle.std.proofs.Common.{◌-◌, length, sym, subst, rules, IsTrue}
use Rattle.ba_journal.proofs.Looking.{looked_on, broke_on, at_err}
use Rattle.ba_journal.proofs.Windows.{read_more}
use Rattle.ba_journal.proofs.looks.look_at_all.Goals as goal

pub returns-in_err-count-clause-looked : goal.returns-in_err-count-clause-looked
returns-in_err-count-clause-looked g c =
    let D = g.D.Disk in
    looked_on D.follows D.seen D.may_leave D.later D.left_between D.driven D.faults g.met.D.Disk.call_after_call g.met.D.Disk.driven_on
    c.args.disk.now c.reads.disk c.look_at.new.disk c.reads.invariant.looked c.look_at.ensures.looked

pub returns-then-count-eq0-clause-looked : goal.returns-then-count-eq0-clause-looked
returns-then-count-eq0-clause-looked g c =
    let D = g.D.Disk in
    looked_on D.follows D.seen D.may_leave D.later D.left_between D.driven D.faults g.met.D.Disk.call_after_call g.met.D.Disk.driven_on
    c.args.disk.now c.reads.disk c.look_at.new.disk c.reads.invariant.looked c.look_at.ensures.looked

pub reads-preserved : goal.reads-preserved
reads-preserved g c =
    let D = g.D.Disk in
    let so_far = c.reads.invariant in
    record {
      within = search rules;
      looked = looked_on D.follows D.seen D.may_leave D.later D.left_between D.driven D.faults g.met.D.Disk.call_after_call
          g.met.D.Disk.driven_on
          c.args.disk.now c.reads.disk c.look_at.new.disk so_far.looked c.look_at.ensures.looked;
      bytes = λ f.
          let here = subst IsTrue (sym so_far.looked.follows_same) f in
          let same = so_far.looked.seen_same f in
          let came = rw same at (c.in_ok-count.ensures.bytes here) in
          read_more (D.seen c.args.disk.now) c.reads.room _ c.look_at.new.room c.args.place c.reads.done c.in_ok-count.count
          (length c.reads.room - c.reads.done) (so_far.bytes f) so_far.within came;
    }

pub returns-in_err-count-clause-broke_off : goal.returns-in_err-count-clause-broke_off
returns-in_err-count-clause-broke_off g c =
    let D = g.D.Disk in
    at_err c.from_residual.result (broke_on D.follows D.seen D.may_leave D.later D.left_between D.driven D.faults g.met.D.Disk.driven_on
    c.args.disk.now c.reads.disk c.look_at.new.disk c.reads.invariant.looked c.in_err-count.ensures.broke_off)
