use Rattle.std.proofs.Common.{◌≡◌, ℕ, List, [], Ok, Err, rules, sym, subst}
use Rattle.ba_node.specs.declared.faults.LoadFault.{LoadFault}
use Rattle.ba_node.specs.declared.faults.LoadFault.TheVariants as fault
use Rattle.ba_node.specs.inside.Beginnings.{Begins, begin_fault_of}
use Rattle.ba_node.proofs.Beginnings.{begins_failed, begins_kept, begins_not, memory_is_no_disk}
use Rattle.ba_node.proofs.beginning.keep_own.Goals as goal

pub returns-in_default-clause-begins : goal.returns-in_default-clause-begins
returns-in_default-clause-begins g c =
    let D = g.D.Disk in
    let laws = g.met.D.Disk in
    let j = c.args.journal.now in
    begins_not D.follows D.seen D.may_leave D.later D.left_between D.driven D.faults c.args.number c.args.base.now [] j fault.Memory
    memory_is_no_disk
    (laws.no_call j.disk) (laws.only_now j.disk) (laws.driven_by_none j.disk)

pub returns-in-Ok-keep_some-clause-begins : goal.returns-in-Ok-keep_some-clause-begins
returns-in-Ok-keep_some-clause-begins g c =
    let D = g.D.Disk in
    let same : c.in-Ok.name ≡ c.args.base.now = search rules in
    subst (λ (b : List ℕ). Begins D.follows D.seen D.may_leave D.later D.left_between D.driven D.faults c.args.number
    b [] c.args.journal.now c.keep_some.new.journal (Ok tt)) same
    (begins_kept D.follows D.seen D.may_leave D.later D.left_between D.driven D.faults c.args.number c.in-Ok.name c.args.journal.now
    c.keep_some.new.journal c.in-Ok-keep_some.ensures)

pub returns-clause-begins : goal.returns-clause-begins
returns-clause-begins g c =
    let D = g.D.Disk in
    let same : c.in-Ok.name ≡ c.args.base.now = search rules in
    subst (λ (f : LoadFault). Begins D.follows D.seen D.may_leave D.later D.left_between D.driven D.faults c.args.number
    c.args.base.now [] c.args.journal.now c.keep_some.new.journal (Err f)) (sym c.begin_fault.ensures)
    (subst (λ (b : List ℕ). Begins D.follows D.seen D.may_leave D.later D.left_between D.driven D.faults c.args.number
    b [] c.args.journal.now c.keep_some.new.journal (Err (begin_fault_of c.in-Err.why))) same
    (begins_failed D.follows D.seen D.may_leave D.later D.left_between D.driven D.faults c.args.number c.in-Ok.name c.args.journal.now
    c.keep_some.new.journal c.in-Err.why c.in-Err.ensures))
