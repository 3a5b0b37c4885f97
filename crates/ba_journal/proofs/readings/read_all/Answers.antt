use Rattle.std.proofs.Common.{◌≡◌, ◌-◌, ◌+◌, ◌≤◌, false, min, take, List, length, ℕ, sym, subst, ap, ◌∙◌, arith, IsTrue, IfOk, IfErr}
use Rattle.ba_journal.specs.inside.Blocks.{AtHand, IsOf, BeginsFrames, RefusesFile, frame_front}
use Rattle.ba_journal.specs.Frames.{header, is_fresh, IsForeign}
use Rattle.ba_journal.specs.inside.Looks.{Looked}
use Rattle.ba_journal.specs.Readings.{ReadsAs}
use Rattle.ba_journal.proofs.Leading.{long_enough}
use Rattle.ba_journal.proofs.BlockReads.{nothing_yet, begins_frames, fresh_by_front, foreign_file}
use Rattle.ba_journal.proofs.Looking.{looked_on, broke_on}
use Rattle.ba_journal.proofs.readings.read_all.Goals as goal
use Rattle.ba_journal.proofs.readings.read_all.Goals.{After-fill, After-bytes, After-foreign_at}
use Rattle.ba_journal.proofs.readings.read_all.Given.{Over}

-- the length was asked, and the first bytes were read
looked_at : (g : Over) (c : After-fill g)
    → Looked g.D.Disk.follows g.D.Disk.seen g.D.Disk.may_leave g.D.Disk.later g.D.Disk.left_between g.D.Disk.driven g.D.Disk.faults
    c.args.disk.now c.fill.new.disk
looked_at g c =
    let D = g.D.Disk in
    looked_on D.follows D.seen D.may_leave D.later D.left_between D.driven D.faults g.met.D.Disk.call_after_call g.met.D.Disk.driven_on
    c.args.disk.now c.length_of.new.disk c.fill.new.disk c.length_of.ensures.looked c.fill.ensures.looked

-- they are the file's
of_file : (g : Over) (c : After-bytes g) → IsTrue (g.D.Disk.follows c.args.disk.now) → IsOf (g.D.Disk.seen c.args.disk.now) c.fill.new.self
of_file g c f =
    let file = g.D.Disk.seen c.args.disk.now in
    let first = c.length_of.ensures.looked in
    let same = first.seen_same f in
    let none = nothing_yet file c.in-Ok-new.blocks c.in-Ok.len c.in-Ok-new.ensures (c.in-Ok.ensures.length f) in
    let read = c.in-Ok-fill.ensures.file (subst IsTrue (sym first.follows_same) f)
    (subst (λ (x : List ℕ). IsOf x c.in-Ok-new.blocks) (sym same) none) in
    subst (λ (x : List ℕ). IsOf x c.fill.new.self) same read

-- they are its first
at_start : (g : Over) (c : After-bytes g) → c.fill.new.self.place ≡ 0
at_start g c = c.fill.ensures.place ∙ ap (λ (h : AtHand). h.place) c.in-Ok-new.ensures

enough : (g : Over) (c : After-bytes g) → min frame_front (c.fill.new.self.len - c.fill.new.self.place) ≤ length c.fill.new.self.bytes
enough g c = c.in-Ok-fill.ensures.enough

-- a journal was made in the file
made : (g : Over) (c : After-foreign_at g) → is_fresh c.fill.new.self.bytes ≡ false
made g c = ap is_fresh (sym c.bytes.ensures.bytes) ∙ sym c.is_fresh.ensures ∙ c.if-is_fresh.false

long : (g : Over) (c : After-foreign_at g) → 16 ≤ length c.fill.new.self.bytes
long g c = omega (arith, long_enough c.fill.new.self.bytes (made g c))

pub returns-in_default-fill-clause-looked : goal.returns-in_default-fill-clause-looked
returns-in_default-fill-clause-looked g c = looked_at g (goal.at.returns-in_default-fill-clause-looked g c).After-fill

pub returns-then-is_fresh-clause-looked : goal.returns-then-is_fresh-clause-looked
returns-then-is_fresh-clause-looked g c = looked_at g (goal.at.returns-then-is_fresh-clause-looked g c).After-fill

pub returns-then-is_fresh-clause-ok : goal.returns-then-is_fresh-clause-ok
returns-then-is_fresh-clause-ok g c = λ f.
    let at = (goal.at.returns-then-is_fresh-clause-ok g c).After-bytes in
    sym (fresh_by_front (g.D.Disk.seen c.args.disk.now) c.fill.new.self (of_file g at f) (at_start g at) (enough g at))
    ∙ ap is_fresh (sym c.bytes.ensures.bytes) ∙ sym c.is_fresh.ensures ∙ c.if-is_fresh.true

pub returns-in-Some-clause-looked : goal.returns-in-Some-clause-looked
returns-in-Some-clause-looked g c = looked_at g (goal.at.returns-in-Some-clause-looked g c).After-fill

pub returns-in-Some-clause-refused : goal.returns-in-Some-clause-refused
returns-in-Some-clause-refused g c = λ f.
    let at = (goal.at.returns-in-Some-clause-refused g c).After-bytes in
    let behind = (goal.at.returns-in-Some-clause-refused g c).After-foreign_at in
    foreign_file (g.D.Disk.seen c.args.disk.now) c.fill.new.self c.in-Some.place (of_file g at f) (at_start g at) (enough g at)
    (made g behind) (long g behind)
    (subst (λ (x : List ℕ). IsForeign x c.in-Some.place) c.bytes-2.ensures.bytes c.in-Some.ensures.some)

pub returns-clause-looked : goal.returns-clause-looked
returns-clause-looked g c =
    let D = g.D.Disk in
    looked_on D.follows D.seen D.may_leave D.later D.left_between D.driven D.faults g.met.D.Disk.call_after_call g.met.D.Disk.driven_on
    c.args.disk.now c.fill.new.disk c.read_frames.new.disk (looked_at g (goal.at.returns-clause-looked g c).After-fill)
    c.read_frames.ensures.looked

pub returns-clause-ok : goal.returns-clause-ok
returns-clause-ok g c = λ f.
    let at = (goal.at.returns-clause-ok g c).After-bytes in
    let behind = (goal.at.returns-clause-ok g c).After-foreign_at in
    let two = looked_at g (goal.at.returns-clause-ok g c).After-fill in
    let headed : take 16 c.fill.new.self.bytes ≡ header =
    ap (take 16) (sym c.bytes-2.ensures.bytes) ∙ c.in_default-foreign_at.ensures.none in
    let begins = begins_frames (g.D.Disk.seen c.args.disk.now) c.fill.new.self c.pass.new.self (of_file g at f) (at_start g at)
    (enough g at) (made g behind) headed (long g behind)
    c.pass.ensures.place c.pass.ensures.bytes c.pass.ensures.len in
    let there = subst (λ (x : List ℕ). BeginsFrames x c.pass.new.self) (sym (two.seen_same f)) begins in
    subst (λ (x : List ℕ). IfOk c.read_frames.result (ReadsAs x)) (two.seen_same f)
    (c.read_frames.ensures.ok (subst IsTrue (sym two.follows_same) f) there)

pub returns-clause-refused : goal.returns-clause-refused
returns-clause-refused g c = λ f.
    let at = (goal.at.returns-clause-refused g c).After-bytes in
    let behind = (goal.at.returns-clause-refused g c).After-foreign_at in
    let two = looked_at g (goal.at.returns-clause-refused g c).After-fill in
    let headed : take 16 c.fill.new.self.bytes ≡ header =
    ap (take 16) (sym c.bytes-2.ensures.bytes) ∙ c.in_default-foreign_at.ensures.none in
    let begins = begins_frames (g.D.Disk.seen c.args.disk.now) c.fill.new.self c.pass.new.self (of_file g at f) (at_start g at)
    (enough g at) (made g behind) headed (long g behind)
    c.pass.ensures.place c.pass.ensures.bytes c.pass.ensures.len in
    let there = subst (λ (x : List ℕ). BeginsFrames x c.pass.new.self) (sym (two.seen_same f)) begins in
    subst (λ (x : List ℕ). IfErr c.read_frames.result (RefusesFile x)) (two.seen_same f)
    (c.read_frames.ensures.refused (subst IsTrue (sym two.follows_same) f) there)

pub returns-in_default-fill-clause-broke_off : goal.returns-in_default-fill-clause-broke_off
returns-in_default-fill-clause-broke_off g c = λ is.
    let D = g.D.Disk in
    broke_on D.follows D.seen D.may_leave D.later D.left_between D.driven D.faults g.met.D.Disk.driven_on
    c.args.disk.now c.length_of.new.disk c.fill.new.disk c.length_of.ensures.looked c.in_default-fill.ensures.broke_off

pub returns-clause-broke_off : goal.returns-clause-broke_off
returns-clause-broke_off g c = λ is.
    let D = g.D.Disk in
    broke_on D.follows D.seen D.may_leave D.later D.left_between D.driven D.faults g.met.D.Disk.driven_on
    c.args.disk.now c.fill.new.disk c.read_frames.new.disk (looked_at g (goal.at.returns-clause-broke_off g c).After-fill)
    (c.read_frames.ensures.broke_off is)

pub read_frames-requires-clause-begun : goal.read_frames-requires-clause-begun
read_frames-requires-clause-begun g c =
    c.pass.ensures.place ∙ ap (λ (n : ℕ). n + 16) (at_start g (goal.at.read_frames-requires-clause-begun g c).After-bytes)
