use Rattle.std.proofs.Common.{List, IfOk, IfSome, IsTrue, sym, ap, subst}
use Rattle.ba_journal.specs.Journals.{IsSettled}
use Rattle.ba_node.specs.Keeping.{StandsWith}
use Rattle.ba_node_plans.specs.Proposals.{proposed_tick}
use Rattle.ba_node.specs.inside.Commits.{due_by_tick}
use Rattle.ba_node.proofs.Posting.{postable}
use Rattle.ba_node.proofs.Sendable.{sendable}
use Rattle.ba_ports.specs.Disk.{LeavesOnly}
use Rattle.ba_record.specs.declared.records.Record.{Record}
use Rattle.ba_node_steps.specs.Lawful.{ticked}
use Rattle.ba_node_steps.specs.Letters.{IsLetterOf}
use Rattle.ba_node_steps.specs.Ticks.{TickStep, tick_step}
use Rattle.ba_node.proofs.nodes.Node.tick.Goals as goal

pub take_tick-requires-clause-due : goal.take_tick-requires-clause-due
take_tick-requires-clause-due g c =
    record { event = ticked c.args.now c.args.id; gives = tt; is = ap due_by_tick (sym c.in-Ok.ensures.step) }

pub returns-clause-sendable : goal.returns-clause-sendable
returns-clause-sendable g c =
    subst (λ v. IfOk c.take_tick.result (λ said. IfSome said.letter (IsLetterOf v.node c.args.id))) c.self.view_is
    (sendable c.self.inside.objects.node c.args.now c.args.id
    (proposed_tick c.self.inside.objects.node c.in-Ok.proposal) c.take_tick.result c.in-Ok.ensures.step
    c.self.invariant.reachable c.take_tick.ensures.letter)

pub returns-clause-postable : goal.returns-clause-postable
returns-clause-postable g c =
    let n = c.self.inside.objects.node in
    postable n c.self.invariant.base c.args.id c.take_tick.result
    (sendable n c.args.now c.args.id (proposed_tick n c.in-Ok.proposal) c.take_tick.result c.in-Ok.ensures.step
    c.self.invariant.reachable c.take_tick.ensures.letter)

pub returns-clause-any_moment : goal.returns-clause-any_moment
returns-clause-any_moment g c =
    let D = g.D.Disk in
    let j = c.self.inside.journal in
    let end = c.take_tick.new.journal.disk in
    subst (λ v. IsTrue (D.follows v.disk) → (records : List Record) → IsSettled D.seen D.may_leave v.disk v.end records
    → LeavesOnly D.later D.left_between v.disk end (StandsWith records (tick_step v.node c.args.now c.args.id).written)) c.self.view_is
    (subst (λ (s : TickStep). IsTrue (D.follows j.disk) → (records : List Record) → IsSettled D.seen D.may_leave j.disk j.gate records
    → LeavesOnly D.later D.left_between j.disk end (StandsWith records s.written)) c.in-Ok.ensures.step
    c.take_tick.ensures.commits.any_moment)
