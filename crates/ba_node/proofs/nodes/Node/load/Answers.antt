use Rattle.std.proofs.Common.{◌<◌, ◌^◌, arith, List, ◌++◌, Err, IsTrue, subst, sym, ap, ◌∙◌}
use Rattle.ba_journal.specs.Journals.{JournalValue}
use Rattle.ba_journal.specs.Loads.{IsOpenedAs, MayStandSince}
use Rattle.ba_journal.specs.Readings.{ReadsAs}
use Rattle.ba_journal.proofs.Turns.{joined, widened}
use Rattle.ba_journal.specs.declared.readings.Reading.{Reading}
use Rattle.ba_ports.specs.Disk.{LeavesOnly}
use Rattle.ba_record.specs.declared.records.Record.{Record}
use Rattle.ba_node.specs.Nodes.{NodeOnJournal}
use Rattle.ba_node.specs.declared.faults.LoadFault.{LoadFault}
use Rattle.ba_node.specs.Loading.{MayBeginSince, Opened, RefusesFile, begun}
use Rattle.ba_node.proofs.Beginnings.{begun_in_range}
use Rattle.ba_node_steps.specs.Lawful.{Replays}
use Rattle.ba_node_steps.specs.Node.{NodeState}
use Rattle.ba_node.proofs.Openings.{unread, since_alike, unread_calls, since_begun, begun_calls, refused_calls, refused_all}
use Rattle.ba_node_objects.specs.Objects.{NodeInMemory}
use Rattle.ba_node.proofs.nodes.Node.load.Goals as goal
use Rattle.ba_node.proofs.nodes.Node.load.Goals.{After-begin}
use Rattle.ba_node.proofs.nodes.Node.load.Given.{Over}

pub returns-in-Err-clause-refused : goal.returns-in-Err-clause-refused
returns-in-Err-clause-refused g c = λ follows.
    subst (λ (f : LoadFault). RefusesFile c.args.number c.args.base (g.D.Disk.seen c.args.disk) f) (sym c.load_fault.ensures)
    (unread c.args.number c.args.base (g.D.Disk.seen c.args.disk) c.in-Err.why (c.in-Err.ensures.refused follows))

pub returns-in-Err-clause-any_moment : goal.returns-in-Err-clause-any_moment
returns-in-Err-clause-any_moment g c = λ follows.
    let D = g.D.Disk in
    let before = D.may_leave c.args.disk in
    widened D.later D.left_between c.args.disk c.in-Err.disk (MayStandSince before) (MayBeginSince c.args.number c.args.base before)
    (c.in-Err.ensures.any_moment follows)
    (since_alike c.args.number c.args.base before)

pub returns-in-Err-clause-calls : goal.returns-in-Err-clause-calls
returns-in-Err-clause-calls g c =
    let D = g.D.Disk in
    let IsRead : Reading → Type 0 = λ found. IsTrue (D.follows c.args.disk) → ReadsAs (D.seen c.args.disk) found in
    let made = c.in-Err.ensures.calls in (
      made.0,
      made.1,
      subst (λ (f : LoadFault). Opened {T = NodeOnJournal g.row.D.Denot} IsRead c.args.number c.args.base (Err f) made.0)
          (sym c.load_fault.ensures)
          (unread_calls (JournalValue g.row.D.Denot × List Record) (NodeOnJournal g.row.D.Denot) IsRead
          (λ loaded. IsOpenedAs loaded.0.gate loaded.1) c.args.number c.args.base c.in-Err.why made.0 made.2),
    )

-- what a crash leaves until the journal is begun
until_begun : (g : Over) (c : After-begin g) → IsTrue (g.D.Disk.follows c.args.disk)
    → LeavesOnly g.D.Disk.later g.D.Disk.left_between c.args.disk c.begin.new.journal.disk
    (MayBeginSince c.args.number c.args.base (g.D.Disk.may_leave c.args.disk))
until_begun g c follows =
    let D = g.D.Disk in
    let d = c.args.disk in
    let before = D.may_leave d in
    let j = c.in-Ok.journal in
    let end = c.begin.new.journal.disk in
    let f2 = subst IsTrue (sym c.in-Ok.ensures.follows) follows in
    let first = widened D.later D.left_between d j.disk (MayStandSince before) (MayBeginSince c.args.number c.args.base before)
    (c.in-Ok.ensures.any_moment follows) (since_alike c.args.number c.args.base before) in
    joined D.later D.left_between d j.disk end _ (MayBeginSince c.args.number c.args.base before) g.met.D.Disk.call_after_call first
    (c.begin.ensures.begins.any_moment f2 (c.in-Ok.ensures.settled follows))
    (λ f now. since_begun c.args.number c.args.base before (D.seen d) c.in-Ok.records f (g.met.D.Disk.seen_may_stay d follows)
    (c.in-Ok.ensures.records follows) now)

pub returns-in-Ok-begin-clause-any_moment : goal.returns-in-Ok-begin-clause-any_moment
returns-in-Ok-begin-clause-any_moment g c = λ follows.
    let D = g.D.Disk in
    subst (λ x. LeavesOnly D.later D.left_between c.args.disk x (MayBeginSince c.args.number c.args.base (D.may_leave c.args.disk)))
    (sym (ap (λ n. n.disk) c.of.ensures))
    (until_begun g (goal.at.returns-in-Ok-begin-clause-any_moment g c).After-begin follows)

pub returns-in-Ok-begin-clause-calls : goal.returns-in-Ok-begin-clause-calls
returns-in-Ok-begin-clause-calls g c =
    let D = g.D.Disk in
    let d = c.args.disk in
    let j = c.in-Ok.journal in
    let end = c.begin.new.journal.disk in
    let IsRead : Reading → Type 0 = λ found. IsTrue (D.follows d) → ReadsAs (D.seen d) found in
    let first = c.in-Ok.ensures.calls in
    let second = c.in-Ok-begin.ensures.begins.calls in
    let all = g.met.D.Disk.driven_on d j.disk end first.0 second.0 first.1 second.1 in (
      first.0 ++ second.0,
      subst (λ x. D.driven d (first.0 ++ second.0) x) (sym (ap (λ n. n.disk) c.of.ensures)) all,
      begun_calls IsRead c.args.number j.gate c.args.base c.in-Ok.records first.0 second.0 c.of.result first.2 second.2,
    )

pub returns-in-Err-begin-clause-refused : goal.returns-in-Err-begin-clause-refused
returns-in-Err-begin-clause-refused g c = λ follows.
    refused_all c.args.number c.args.base (g.D.Disk.seen c.args.disk) c.in-Ok.records c.in-Err-begin.why
    (c.in-Ok.ensures.records follows) c.in-Err-begin.ensures.refused

pub returns-in-Err-begin-clause-any_moment : goal.returns-in-Err-begin-clause-any_moment
returns-in-Err-begin-clause-any_moment g c = λ follows.
    let D = g.D.Disk in
    subst (λ x. LeavesOnly D.later D.left_between c.args.disk x (MayBeginSince c.args.number c.args.base (D.may_leave c.args.disk)))
    (sym c.into_disk.ensures)
    (until_begun g (goal.at.returns-in-Err-begin-clause-any_moment g c).After-begin follows)

pub returns-in-Err-begin-clause-calls : goal.returns-in-Err-begin-clause-calls
returns-in-Err-begin-clause-calls g c =
    let D = g.D.Disk in
    let d = c.args.disk in
    let j = c.in-Ok.journal in
    let end = c.begin.new.journal.disk in
    let why = c.in-Err-begin.why in
    let IsRead : Reading → Type 0 = λ found. IsTrue (D.follows d) → ReadsAs (D.seen d) found in
    let first = c.in-Ok.ensures.calls in
    let second = c.in-Err-begin.ensures.begins.calls in
    let all = g.met.D.Disk.driven_on d j.disk end first.0 second.0 first.1 second.1 in (
      first.0 ++ second.0,
      subst (λ x. D.driven d (first.0 ++ second.0) x) (sym c.into_disk.ensures) all,
      refused_calls NodeInMemory (NodeOnJournal g.row.D.Denot) IsRead c.args.number j.gate c.args.base c.in-Ok.records first.0 second.0
          why first.2 second.2 c.in-Err-begin.ensures.refused,
    )

pub returns-in-Ok-begin-clause-lawful : goal.returns-in-Ok-begin-clause-lawful
returns-in-Ok-begin-clause-lawful g c =
    let small : c.args.number < 2 ^ 32 = omega arith in (
      begun c.args.number c.args.base c.in-Ok.records,
      begun_in_range c.args.number c.args.base c.in-Ok.records c.requires.from_one small c.requires.is_base c.in-Ok.ensures.in_range,
      subst (λ (n : NodeState). Replays (begun c.args.number c.args.base c.in-Ok.records) n)
          (sym (ap (λ v. v.node) c.of.ensures)) c.in-Ok-begin.ensures.replay.replays,
      ap (λ v. v.end) c.of.ensures ∙ c.in-Ok-begin.ensures.begins.end c.in-Ok.ensures.end,
    )
