use Rattle.std.proofs.Common.{Ok, IsTrue, sym, subst}
use Rattle.ba_node.specs.Nodes.{NodeHolds, on_journal}
use Rattle.ba_node.specs.inside.Commits.{Commits}
use Rattle.ba_node.proofs.Commits.{commits_done, commits_refused, due_fits, due_in_range, holds_after, holds_refused}
use Rattle.ba_node_objects.specs.Changes.{changed_node}
use Rattle.ba_node_steps.specs.Lawful.{Change}
use Rattle.ba_node_steps.specs.Node.{NodeState}
use Rattle.ba_node.proofs.committing.commit.Goals as goal

pub keep_some-requires-clause-in_range : goal.keep_some-requires-clause-in_range
keep_some-requires-clause-in_range g c =
    let n = c.args.objects.now.node in
    let due : Change = record { after = changed_node n c.args.doing; written = c.args.written.now } in
    due_in_range g.D.Disk.follows g.D.Disk.seen (on_journal c.args.journal.now n) due c.requires.holds c.requires.due

pub keep_some-requires-clause-place : goal.keep_some-requires-clause-place
keep_some-requires-clause-place g c = λ follows. c.requires.holds.place follows c.requires.opened

pub apply-requires-clause-fits : goal.apply-requires-clause-fits
apply-requires-clause-fits g c = λ was.
    let n = c.args.objects.now.node in
    let due : Change = record { after = changed_node n c.args.doing; written = c.args.written.now } in
    due_fits g.D.Disk.follows g.D.Disk.seen (on_journal c.args.journal.now n) due c.requires.holds c.requires.due

pub returns-in-Ok-clause-commits : goal.returns-in-Ok-clause-commits
returns-in-Ok-clause-commits g c =
    let D = g.D.Disk in
    let n = c.args.objects.now.node in
    let due : Change = record { after = changed_node n c.args.doing; written = c.args.written.now } in
    subst (λ (m : NodeState). Commits D.follows D.seen D.may_leave D.later D.left_between D.driven D.faults due
    (on_journal c.args.journal.now n) (on_journal c.keep_some.new.journal m) (Ok tt)) (sym c.apply.ensures)
    (commits_done D.follows D.seen D.may_leave D.later D.left_between D.driven D.faults n due c.args.journal.now c.keep_some.new.journal
    c.requires.opened c.in-Ok.ensures)

pub returns-in-Ok-clause-holds : goal.returns-in-Ok-clause-holds
returns-in-Ok-clause-holds g c =
    let D = g.D.Disk in
    let n = c.args.objects.now.node in
    let due : Change = record { after = changed_node n c.args.doing; written = c.args.written.now } in
    let kept = c.in-Ok.ensures in
    subst (λ (m : NodeState). NodeHolds D.follows D.seen (on_journal c.keep_some.new.journal m)) (sym c.apply.ensures)
    (holds_after D.follows D.seen (on_journal c.args.journal.now n) due c.keep_some.new.journal c.requires.holds c.requires.due
    kept.within kept.grows
    (λ f. kept.place (subst IsTrue kept.follows_same f)))

pub returns-in-Err-clause-commits : goal.returns-in-Err-clause-commits
returns-in-Err-clause-commits g c =
    let D = g.D.Disk in
    let n = c.args.objects.now.node in
    let due : Change = record { after = changed_node n c.args.doing; written = c.args.written.now } in
    commits_refused D.follows D.seen D.may_leave D.later D.left_between D.driven D.faults n due c.args.journal.now
    c.keep_some.new.journal c.in-Err.fault c.requires.opened c.in-Err.ensures

pub returns-in-Err-clause-holds : goal.returns-in-Err-clause-holds
returns-in-Err-clause-holds g c =
    let D = g.D.Disk in
    let n = c.args.objects.now.node in
    holds_refused D.follows D.seen D.may_leave D.later D.left_between D.driven D.faults n c.args.written.now c.args.journal.now
    c.keep_some.new.journal c.in-Err.fault c.requires.holds c.in-Err.ensures
