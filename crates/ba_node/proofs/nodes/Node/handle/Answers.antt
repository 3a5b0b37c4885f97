use Rattle.std.proofs.Common.{IfOk, sym, ap, subst}
use Rattle.ba_node.specs.Answers.{IsReplyOf}
use Rattle.ba_node.specs.Nodes.{on_journal}
use Rattle.ba_node_plans.specs.Proposals.{proposed_step}
use Rattle.ba_node.proofs.Posting.{answerable}
use Rattle.ba_node.specs.inside.Commits.{Commits, IsDue, due_by_step}
use Rattle.ba_node_steps.specs.Lawful.{change, given}
use Rattle.ba_node_steps.specs.Node.{NodeState}
use Rattle.ba_node_steps.specs.Steps.{NodeStep}
use Rattle.ba_node.proofs.nodes.Node.handle.Goals as goal
use Rattle.ba_node.proofs.nodes.Node.handle.Goals.{After-take_step}
use Rattle.ba_node.proofs.nodes.Node.handle.Given.{Over}

pub take_step-requires-clause-due : goal.take_step-requires-clause-due
take_step-requires-clause-due g c =
    subst (λ (k : NodeState). IsDue k (due_by_step (proposed_step k c.in-Ok.proposal))) (sym c.propose.ensures.node)
    (record { event = given c.args.now c.args.input; gives = c.requires; is = ap due_by_step (sym c.in-Ok.ensures.step) })

-- the whole of what the step's taking ensures, of this node and this step
commits_of : (g : Over) (c : After-take_step g)
    → Commits g.D.Disk.follows g.D.Disk.seen g.D.Disk.may_leave g.D.Disk.later g.D.Disk.left_between g.D.Disk.driven g.D.Disk.faults
    (change c.args.self.now.node (given c.args.now c.args.input)) c.args.self.now
    (on_journal c.take_step.new.journal c.take_step.new.objects.node) c.take_step.result
commits_of g c =
    let D = g.D.Disk in
    let j = c.self.inside.journal in
    let n = c.self.inside.objects.node in
    let new = on_journal c.take_step.new.journal c.take_step.new.objects.node in
    subst (λ v. Commits D.follows D.seen D.may_leave D.later D.left_between D.driven D.faults
    (change v.node (given c.args.now c.args.input)) v new c.take_step.result) c.self.view_is
    (subst (λ (s : NodeStep). Commits D.follows D.seen D.may_leave D.later D.left_between D.driven D.faults (due_by_step s)
    (on_journal j n) new c.take_step.result) c.in-Ok.ensures.step
    (subst (λ (k : NodeState). Commits D.follows D.seen D.may_leave D.later D.left_between D.driven D.faults
    (due_by_step (proposed_step k c.in-Ok.proposal)) (on_journal j k) new c.take_step.result)
    c.propose.ensures.node c.take_step.ensures.commits))

pub returns-clause-answered : goal.returns-clause-answered
returns-clause-answered g c = (commits_of g c).answered

pub returns-clause-durable : goal.returns-clause-durable
returns-clause-durable g c = (commits_of g c).durable

pub returns-clause-any_moment : goal.returns-clause-any_moment
returns-clause-any_moment g c = (commits_of g c).any_moment

pub returns-clause-answerable : goal.returns-clause-answerable
returns-clause-answerable g c =
    let n = c.self.inside.objects.node in
    answerable n c.self.invariant.base c.args.now c.args.input c.asked_time.ensures c.take_step.result
    (subst (λ (s : NodeStep). IfOk c.take_step.result (IsReplyOf s)) c.in-Ok.ensures.step
    (subst (λ (k : NodeState). IfOk c.take_step.result (IsReplyOf (proposed_step k c.in-Ok.proposal))) c.propose.ensures.node
    c.take_step.ensures.reply))
