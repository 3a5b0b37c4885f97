use Rattle.std.proofs.Common.{◌≡◌, ◌≢◌, [], List, IfErr, IfOk, ◌<◌, ◌^◌, arith, rules, sym, subst}
use Rattle.ba_node.specs.Loading.{RefusesLoad, begun}
use Rattle.ba_node.specs.inside.Beginnings.{Begins, IsReplay}
use Rattle.ba_node.proofs.Beginnings.{at_ok, begins_again, begun_same, few_of, holds_again}
use Rattle.ba_node_objects.specs.Objects.{NodeInMemory}
use Rattle.ba_record.specs.declared.records.Record.{Record}
use Rattle.ba_node.proofs.beginning.begin.Goals as goal

pub returns-then-is_empty-clause-replay : goal.returns-then-is_empty-clause-replay
returns-then-is_empty-clause-replay g c =
    let none : c.args.records ≡ [] = search rules in
    subst (λ (rs : List Record). IfOk c.begin_new.result (λ o. IsReplay c.args.number c.args.base
    (begun c.args.number c.args.base rs) o.node)) (sym none)
    c.begin_new.ensures.replay

pub returns-then-is_empty-clause-refused : goal.returns-then-is_empty-clause-refused
returns-then-is_empty-clause-refused g c =
    let none : c.args.records ≡ [] = search rules in
    subst (λ (rs : List Record). IfErr c.begin_new.result (RefusesLoad c.args.number c.args.base rs)) (sym none) c.begin_new.ensures.refused

pub returns-then-is_empty-clause-begins : goal.returns-then-is_empty-clause-begins
returns-then-is_empty-clause-begins g c =
    let D = g.D.Disk in
    let none : c.args.records ≡ [] = search rules in
    subst (λ (rs : List Record). Begins D.follows D.seen D.may_leave D.later D.left_between D.driven D.faults c.args.number c.args.base
    rs c.args.journal.now
    c.begin_new.new.journal c.begin_new.result) (sym none)
    c.begin_new.ensures.begins

pub replay-requires-clause-some : goal.replay-requires-clause-some
replay-requires-clause-some g c = search rules

pub replay-requires-clause-few : goal.replay-requires-clause-few
replay-requires-clause-few g c = few_of c.args.records c.args.journal.now.gate c.requires.end c.requires.small

pub returns-else-is_empty-clause-replay : goal.returns-else-is_empty-clause-replay
returns-else-is_empty-clause-replay g c =
    let some : c.args.records ≢ [] = search rules in
    subst (λ (rs : List Record). IfOk c.replay.result (λ o. IsReplay c.args.number c.args.base rs o.node))
    (sym (begun_same c.args.number c.args.base c.args.records some))
    c.replay.ensures.ok

pub returns-else-is_empty-clause-holds : goal.returns-else-is_empty-clause-holds
returns-else-is_empty-clause-holds g c =
    let D = g.D.Disk in
    let j = c.args.journal.now in
    let small : c.args.number < 2 ^ 32 = omega arith in
    at_ok c.replay.result (λ (o : NodeInMemory) replay. holds_again D.follows D.seen c.args.number c.args.base c.args.records j o.node
    replay small
    c.requires.is_base c.requires.in_range c.requires.end c.requires.small c.requires.place) c.replay.ensures.ok

pub returns-else-is_empty-clause-begins : goal.returns-else-is_empty-clause-begins
returns-else-is_empty-clause-begins g c =
    let D = g.D.Disk in
    let laws = g.met.D.Disk in
    let j = c.args.journal.now in
    let some : c.args.records ≢ [] = search rules in
    begins_again D.follows D.seen D.may_leave D.later D.left_between D.driven D.faults c.args.number c.args.base c.args.records j
    c.replay.result some
    c.replay.ensures.no_disk c.requires.opened c.requires.small c.requires.place (laws.no_call j.disk) (laws.only_now j.disk)
    (laws.driven_by_none j.disk)
