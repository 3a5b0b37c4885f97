use Rattle.std.proofs.Common.{[], None, Ok, Option, Result, refl, sym, subst, ◌∙◌, arith}
use Rattle.ba_node.specs.inside.Kept.{IsKept}
use Rattle.ba_node.proofs.Moments.{nothing_asked, some_is_no_none, none_is_no_some, ok_is_no_err}
use Rattle.ba_node.specs.declared.faults.NodeFault.{NodeFault}
use Rattle.ba_node.specs.declared.faults.NodeFault.TheVariants as fault
use Rattle.ba_record.specs.declared.records.Record.{Record}
use Rattle.ba_node.proofs.keeping.keep_some.Goals as goal

pub returns-in-Some : goal.returns-in-Some
returns-in-Some g c =
    let D = g.D.Disk in
    let kept = c.keep.ensures in
    let r = c.in-Some.r in
    subst (λ (w : Option Record). IsKept D.follows D.seen D.may_leave D.later D.left_between D.driven D.faults c.args.journal.now
    c.keep.new.journal w c.keep.result) (sym c.in-Some.is)
    (record {
      durable = kept.acknowledged;
      any_moment = kept.any_moment;
      calls = kept.calls;
      follows_same = kept.follows;
      cause = kept.cause;
      faults_later = kept.faults;
      grows = kept.grows;
      stays_open = kept.stays_open;
      place = kept.place;
      within = kept.fits;
      full = λ is. (kept.full is).1;
      not_closed = λ count is. none_is_no_some count (sym c.requires.opened ∙ kept.closed count is);
      broke = λ is. (some_is_no_none r, kept.broke_within is);
      closes = λ is. (kept.closes is).1;
      stays = kept.stays;
      unchanged = kept.unchanged;
    })

pub returns-in-None : goal.returns-in-None
returns-in-None g c =
    let D = g.D.Disk in
    let laws = g.met.D.Disk in
    let j = c.args.journal.now in
    let told : Result (Unit {0}) NodeFault = Ok tt in
    subst (λ (w : Option Record). IsKept D.follows D.seen D.may_leave D.later D.left_between D.driven D.faults j j w told)
    (sym c.in-None.is)
    (record {
      durable = λ follows records settled. settled;
      any_moment = λ follows records settled.
          nothing_asked D.seen D.may_leave D.later D.left_between j.disk j.gate None records (laws.no_call j.disk)
          (laws.only_now j.disk) settled;
      calls = ([], laws.driven_by_none j.disk, refl);
      follows_same = refl;
      cause = λ is. absurd (ok_is_no_err tt fault.Disk is);
      faults_later = omega arith;
      grows = refl;
      stays_open = c.requires.opened;
      place = λ follows. c.requires.place follows;
      within = λ past. past;
      full = λ is. absurd (ok_is_no_err tt fault.Full is);
      not_closed = λ count is. ok_is_no_err tt (fault.Closed count) is;
      broke = λ is. absurd (ok_is_no_err tt fault.Disk is);
      closes = λ is. absurd (ok_is_no_err tt fault.Disk is);
      stays = tt;
      unchanged = tt;
    })
