use Rattle.std.proofs.Common.{◌≡◌, ℕ, ◌-◌, ◌<◌, ◌∙◌, ap, length-drop, ◌+◌, drop, length, sym, subst, arith, rules, IsTrue}
use Rattle.ba_journal.specs.inside.Blocks.{Begins, BeginsFrames}
use Rattle.ba_journal.specs.inside.Looks.{Looked}
use Rattle.ba_journal.proofs.BlockReads.{Stands, begins_there, stands_after, stands_on, stands_last, stands_refused}
use Rattle.ba_journal.proofs.Looking.{looked_on, broke_on}
use Rattle.ba_journal.proofs.Befores.{before_at, before_none, before_on}
use Rattle.ba_journal.proofs.readings.read_frames.Goals as goal
use Rattle.ba_journal.proofs.readings.read_frames.Goals.{After-fill, After-bytes}
use Rattle.ba_journal.proofs.readings.read_frames.Given.{Over}

pub frames-init : goal.frames-init
frames-init g c =
    record {
      within = search rules;
      before = before_none c.new-records.result c.args.blocks.place (search rules) (search rules);
      looked = search rules;
      stands = search rules;
    }

-- the disk was looked at since the start
looked_at : (g : Over) (c : After-fill g)
    → Looked g.D.Disk.follows g.D.Disk.seen g.D.Disk.may_leave g.D.Disk.later g.D.Disk.left_between g.D.Disk.driven g.D.Disk.faults
    c.args.disk.now c.fill.new.disk
looked_at g c =
    let D = g.D.Disk in
    looked_on D.follows D.seen D.may_leave D.later D.left_between D.driven D.faults g.met.D.Disk.call_after_call g.met.D.Disk.driven_on
    c.args.disk.now c.frames.disk c.fill.new.disk c.frames.invariant.looked c.fill.ensures.looked

-- where the reading stands once the next bytes are at hand
stands_at : (g : Over) (c : After-bytes g) → IsTrue (g.D.Disk.follows c.args.disk.now)
    → BeginsFrames (g.D.Disk.seen c.args.disk.now) c.args.blocks
    → Stands (g.D.Disk.seen c.args.disk.now) c.fill.new.self c.frames.records
stands_at g c f b =
    let D = g.D.Disk in
    let so_far = c.frames.invariant in
    let here = subst IsTrue (sym so_far.looked.follows_same) f in
    stands_after (D.seen c.frames.disk) (D.seen c.args.disk.now) _ c.fill.new.self c.frames.records (so_far.looked.seen_same f)
    (so_far.stands f b) c.fill.ensures.place
    (c.in-Ok.ensures.file here)

-- the bytes at hand are those from the gate on
begins_at : (g : Over) (c : After-bytes g) → Stands (g.D.Disk.seen c.args.disk.now) c.fill.new.self c.frames.records
    → Begins c.bytes.result.now c.left-left.result (drop c.fill.new.self.place (g.D.Disk.seen c.args.disk.now))
begins_at g c s = rw (
  c.bytes.ensures.bytes,
  c.left-left.ensures.left,
) (begins_there (g.D.Disk.seen c.args.disk.now) c.fill.new.self s.bytes)

pub returns-in_default-clause-looked : goal.returns-in_default-clause-looked
returns-in_default-clause-looked g c = looked_at g (goal.at.returns-in_default-clause-looked g c).After-fill

pub returns-in_default-shown_payload-clause-looked :
    goal.returns-in_default-shown_payload-clause-looked
returns-in_default-shown_payload-clause-looked g c =
    looked_at g (goal.at.returns-in_default-shown_payload-clause-looked g c).After-fill

pub returns-in_default-shown_payload-clause-ok :
    goal.returns-in_default-shown_payload-clause-ok
returns-in_default-shown_payload-clause-ok g c = λ f b.
    let file = g.D.Disk.seen c.args.disk.now in
    let hand = c.fill.new.self in
    let at = (goal.at.returns-in_default-shown_payload-clause-ok g c).After-bytes in
    let s = stands_at g at f b in
    let none = c.in_default-shown_payload.ensures.none (drop hand.place file) (begins_at g at s) in
    let again = c.bytes-in_default-shown_payload.ensures.bytes in
    let begins : Begins c.bytes-in_default-shown_payload.result.now c.left-left.result (drop hand.place file) =
    rw (again, c.left-left.ensures.left) (begins_there file hand s.bytes) in
    let some : 0 < length c.bytes-in_default-shown_payload.result.now =
    omega (arith, ap length again, c.in-Ok.ensures.enough, s.scanned.some, s.bytes.len_is, length-drop hand.place file) in
    stands_last file hand c.frames.records c.place.result c.tail_of-tail.result s none c.place.ensures
    (c.tail_of-tail.ensures (drop hand.place file) begins some)

pub returns-in-Err-clause-looked : goal.returns-in-Err-clause-looked
returns-in-Err-clause-looked g c = looked_at g (goal.at.returns-in-Err-clause-looked g c).After-fill

pub returns-in-Err-clause-refused : goal.returns-in-Err-clause-refused
returns-in-Err-clause-refused g c = λ f b.
    let file = g.D.Disk.seen c.args.disk.now in
    let hand = c.fill.new.self in
    let at = (goal.at.returns-in-Err-clause-refused g c).After-bytes in
    let s = stands_at g at f b in
    let counts = c.in-Some.ensures.some (drop hand.place file) (begins_at g at s) in
    stands_refused file hand c.frames.records c.in-Some.shown.now (c.place-in-frames.result + 5) c.in-Err.fault s counts
    c.in-Some.ensures.are (search rules)
    c.in-Err.ensures.fault

pub frames-preserved : goal.frames-preserved
frames-preserved g c =
    record {
      within = let ends : 5 + length c.in-Some.shown.now < c.fill.new.self.len - c.fill.new.self.place =
          subst (λ (n : ℕ). 5 + length c.in-Some.shown.now < n) c.left-left.ensures.left c.in-Some.ensures.before_the_end in
          let there : c.pass.new.self.place ≡ c.fill.new.self.place + (5 + length c.in-Some.shown.now) = search rules in
          omega (arith, ends, there, c.left-left.ensures.small);
      before = let more = c.in_default-take_shown.ensures.ok in
          rw more.2 (before_on c.frames.records c.frames.blocks.place c.pass.new.self.place c.in-Some.shown.now more.0
          c.frames.invariant.before
          c.in-Some.ensures.are more.1
          (c.pass.ensures.place ∙ ap (λ (n : ℕ). n + (5 + length c.in-Some.shown.now)) c.fill.ensures.place));
      looked = looked_at g (goal.at.frames-preserved g c).After-fill;
      stands = λ f b.
          let file = g.D.Disk.seen c.args.disk.now in
          let hand = c.fill.new.self in
          let at = (goal.at.frames-preserved g c).After-bytes in
          let s = stands_at g at f b in
          let counts = c.in-Some.ensures.some (drop hand.place file) (begins_at g at s) in
          let more = c.in_default-take_shown.ensures.ok in
          rw more.2 (stands_on file hand c.pass.new.self c.frames.records c.in-Some.shown.now more.0 s counts c.in-Some.ensures.are
          more.1 (search rules)
          c.pass.ensures.place c.pass.ensures.bytes c.pass.ensures.len);
    }

pub returns-in_default-clause-broke_off : goal.returns-in_default-clause-broke_off
returns-in_default-clause-broke_off g c = λ is.
    let D = g.D.Disk in
    broke_on D.follows D.seen D.may_leave D.later D.left_between D.driven D.faults g.met.D.Disk.driven_on
    c.args.disk.now c.frames.disk c.fill.new.disk c.frames.invariant.looked c.in_default.ensures.broke_off

pub returns-in_default-shown_payload-clause-end :
    goal.returns-in_default-shown_payload-clause-end
returns-in_default-shown_payload-clause-end g c =
    before_at c.frames.records c.frames.blocks.place c.place.result (c.place.ensures ∙ c.fill.ensures.place) c.frames.invariant.before
