use Rattle.std.proofs.Common.{Some, Ok, Err, true, false, List, length, IsTrue, ap, sym, ◌∙◌, subst}
use Rattle.ba_journal.specs.Journals.{GoesPast, Asked}
use Rattle.ba_journal.specs.Journals.{IsSettled, StandsWithOrWithout, appending, behind_gate}
use Rattle.ba_journal.specs.declared.faults.JournalFault.TheVariants as fault
use Rattle.ba_ports.specs.Disk.{LeavesOnly, InTurn}
use Rattle.ba_ports.specs.declared.requests.Call.{Call}
use Rattle.ba_record.specs.Coding.{coding}
use Rattle.ba_record.specs.declared.records.Record.{Record}
use Rattle.ba_node.proofs.Openness.{open_at_ok, open_at_disk, not_err, not_past, same_count}
use Rattle.ba_journal.specs.declared.faults.JournalFault.{JournalFault}
use Rattle.ba_node.proofs.keeping.keep.Goals as goal

pub returns-in-Ok-append-clause-any_moment : goal.returns-in-Ok-append-clause-any_moment
returns-in-Ok-append-clause-any_moment g c =
    let D = g.D.Disk in
    subst (λ j. IsTrue (D.follows j.disk) → (records : List Record) → IsSettled D.seen D.may_leave j.disk j.gate records
    → LeavesOnly D.later D.left_between j.disk c.append.new.self.disk (StandsWithOrWithout records c.args.r.now)) c.in-Ok.ensures.ok
    c.append.ensures.any_moment

pub returns-in-Ok-append-clause-calls : goal.returns-in-Ok-append-clause-calls
returns-in-Ok-append-clause-calls g c =
    subst (λ j. (calls : List Call) × g.D.Disk.driven j.disk calls c.append.new.self.disk × InTurn
    (appending j.gate (behind_gate (coding c.args.r.now))) false calls)
    c.in-Ok.ensures.ok c.in-Ok-append.ensures.calls

pub returns-in-Ok-append-clause-was_open : goal.returns-in-Ok-append-clause-was_open
returns-in-Ok-append-clause-was_open g c =
    ap (λ j. j.closed) (sym c.in-Ok.ensures.ok) ∙ open_at_ok c.reserve.new.self.closed c.append.result _ c.in-Ok-append.is
    c.append.ensures.closed

pub returns-in-Ok-append-clause-fits : goal.returns-in-Ok-append-clause-fits
returns-in-Ok-append-clause-fits g c = λ past.
    let was = open_at_ok c.reserve.new.self.closed c.append.result _ c.in-Ok-append.is c.append.ensures.closed in
    not_err c.append.result _ fault.Full c.in-Ok-append.is
    (c.append.ensures.full.1 (was, subst (λ j. GoesPast j.gate (length (coding c.args.r.now))) (sym c.in-Ok.ensures.ok) past))

pub returns-in-Err-Disk-clause-any_moment : goal.returns-in-Err-Disk-clause-any_moment
returns-in-Err-Disk-clause-any_moment g c =
    let D = g.D.Disk in
    subst (λ j. IsTrue (D.follows j.disk) → (records : List Record) → IsSettled D.seen D.may_leave j.disk j.gate records
    → LeavesOnly D.later D.left_between j.disk c.append.new.self.disk (StandsWithOrWithout records c.args.r.now)) c.in-Ok.ensures.ok
    c.append.ensures.any_moment

pub returns-in-Err-Disk-clause-calls : goal.returns-in-Err-Disk-clause-calls
returns-in-Err-Disk-clause-calls g c =
    let behind = behind_gate (coding c.args.r.now) in
    let new = c.append.new.self.disk in
    subst (λ j. (calls : List Call) × g.D.Disk.driven j.disk calls new × InTurn (appending j.gate behind) true calls) c.in-Ok.ensures.ok
    (subst (λ (f : JournalFault). (calls : List Call) × g.D.Disk.driven c.reserve.new.self.disk calls new × Asked {T =
    Unit {0}} c.reserve.new.self.gate behind (Err f) calls) c.in-Err-Disk.field-0-is
    c.in-Err-Disk.ensures.calls)

pub returns-in-Err-Closed-clause-closed : goal.returns-in-Err-Closed-clause-closed
returns-in-Err-Closed-clause-closed g c = λ count is.
    ap (λ j. j.closed) (sym c.in-Ok.ensures.ok)
    ∙ (c.append.ensures.closed c.in-Err-Closed.count).0 (c.in-Err-Closed.is ∙ ap Err c.in-Err-Closed.field-0-is)
    ∙ ap Some (same_count {T = Unit {0}} (Ok tt) c.in-Err-Closed.count count is)

pub returns-in-Err-Disk-clause-closes : goal.returns-in-Err-Disk-clause-closes
returns-in-Err-Disk-clause-closes g c = λ is.
    let broke = c.in-Err-Disk.is ∙ ap Err c.in-Err-Disk.field-0-is in (
      ap (λ j. j.closed) (sym c.in-Ok.ensures.ok) ∙ open_at_disk c.reserve.new.self.closed c.append.result broke
          c.append.ensures.closed,
      c.append.ensures.closes broke,
    )

pub returns-in-Err-Disk-clause-broke_within : goal.returns-in-Err-Disk-clause-broke_within
returns-in-Err-Disk-clause-broke_within g c = λ is past.
    let broke = c.in-Err-Disk.is ∙ ap Err c.in-Err-Disk.field-0-is in
    not_past c.append.result broke c.append.ensures.full (open_at_disk c.reserve.new.self.closed c.append.result broke
    c.append.ensures.closed)
    (subst (λ j. GoesPast j.gate (length (coding c.args.r.now))) (sym c.in-Ok.ensures.ok) past)
