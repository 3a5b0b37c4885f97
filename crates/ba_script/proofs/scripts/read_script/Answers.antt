use Rattle.std.proofs.Common.{◌+◌, ◌-◌, Err, ap, ◌∙◌, rules, arith}
use Rattle.std.proofs.lemmas.Result.{err_from_is_err_and}
use Rattle.ba_script.proofs.Streaming.{StandsAt, stands_on, advance_of, finished_of, stopped_of, too_many_of, taken_of, bounded_of}
use Rattle.ba_script.proofs.Streaming.{bounded_for}
use Rattle.ba_script.proofs.scripts.read_script.Goals as goal
use Rattle.ba_script.proofs.scripts.read_script.Goals.{After-find, After-is_at_end}
use Rattle.ba_script.proofs.scripts.read_script.Given.{Over}

-- where the reading stands once a line was looked for
found_at : (g : Over) (c : After-find g)
    → StandsAt (g.S.Source.left c.args.source.now)
    (g.S.Source.left c.find.new.source) c.find.new.self c.lines.form c.lines.read c.lines.pairs c.lines.worlds
found_at g c = stands_on _ _ _ _ _ _ _ _ _ c.lines.invariant.stands c.find.ensures.kept c.find.ensures.few

-- and once the end was looked for
ended_at : (g : Over) (c : After-is_at_end g)
    → StandsAt (g.S.Source.left c.args.source.now)
    (g.S.Source.left c.is_at_end.new.source) c.is_at_end.new.self c.lines.form c.lines.read c.lines.pairs c.lines.worlds
ended_at g c = stands_on _ _ _ _ _ _ _ _ _ c.lines.invariant.stands c.is_at_end.ensures.kept c.is_at_end.ensures.few

pub returns-in_err-count-clause-stayed : goal.returns-in_err-count-clause-stayed
returns-in_err-count-clause-stayed g c other =
    let fault = err_from_is_err_and c.from_residual-in_err-count.result c.from_residual-in_err-count.ensures.1 in
    absurd (other (fault.1 ∙ ap Err fault.2))

pub returns-in_err-count-clause-reads : goal.returns-in_err-count-clause-reads
returns-in_err-count-clause-reads g c =
    let at = found_at g (goal.at.returns-in_err-count-clause-reads g c).After-find in
    let fault = err_from_is_err_and c.from_residual-in_err-count.result c.from_residual-in_err-count.ensures.1 in
    rw (fault.1, fault.2) (bounded_for _ _ _ _ _ _ _ at (omega arith))

pub returns-in_err-count-clause-bounded : goal.returns-in_err-count-clause-bounded
returns-in_err-count-clause-bounded g c =
    let at = found_at g (goal.at.returns-in_err-count-clause-bounded g c).After-find in
    bounded_of _ _ _ _ _ _ _ at (omega arith)

pub returns-in_default-clause-script : goal.returns-in_default-clause-script
returns-in_default-clause-script g c =
    let at = found_at g (goal.at.returns-in_default-clause-script g c).After-find in
    let end = rw c.in_default.is at c.in_ok-count.ensures.end in
    rw c.script_of.ensures (finished_of _ _ _ _ _ _ _ at end.0 end.1 (omega arith))

pub returns-in-Err-clause-fault : goal.returns-in-Err-clause-fault
returns-in-Err-clause-fault g c =
    let at = found_at g (goal.at.returns-in-Err-clause-fault g c).After-find in
    let next = rw c.in-Some.is at c.in_ok-count.ensures.next in
    let bad = rw c.first.ensures at c.in-Err.ensures.err in
    stopped_of _ _ _ _ _ _ _ c.in-Some.count c.in-Err.column at next bad (omega arith)

pub returns-in-Err-clause-reads : goal.returns-in-Err-clause-reads
returns-in-Err-clause-reads g c =
    let at = found_at g (goal.at.returns-in-Err-clause-reads g c).After-find in
    taken_of _ _ _ _ _ _ _ (c.lines.read + 1 - 1) at (omega arith)

pub returns-in-Err-clause-bounded : goal.returns-in-Err-clause-bounded
returns-in-Err-clause-bounded g c =
    let at = found_at g (goal.at.returns-in-Err-clause-bounded g c).After-find in
    bounded_of _ _ _ _ _ _ _ at (omega arith)

pub returns-in_err-add-clause-reads : goal.returns-in_err-add-clause-reads
returns-in_err-add-clause-reads g c =
    let at = found_at g (goal.at.returns-in_err-add-clause-reads g c).After-find in
    let fault = err_from_is_err_and c.from_residual-in_err-add.result c.from_residual-in_err-add.ensures.1 in
    rw (fault.1, fault.2) (bounded_for _ _ _ _ _ _ _ at (omega arith))

pub returns-in_err-add-clause-bounded : goal.returns-in_err-add-clause-bounded
returns-in_err-add-clause-bounded g c =
    let at = found_at g (goal.at.returns-in_err-add-clause-bounded g c).After-find in
    bounded_of _ _ _ _ _ _ _ at (omega arith)

pub lines-preserved : goal.lines-preserved
lines-preserved g c =
    let at = found_at g (goal.at.lines-preserved g c).After-find in
    let next = rw c.in-Some.is at c.in_ok-count.ensures.next in
    let says = rw c.first.ensures at c.in-Ok.ensures.ok in
    record {
      stayed = c.in_ok-count.ensures.cause.stayed ∙ c.lines.invariant.stayed;
      stands = rw (c.pass.ensures, c.form_after-form.ensures, c.in_ok-add.ensures.pairs, c.in_ok-add.ensures.worlds)
          (advance_of _ _ _ _ _ _ _ c.in-Some.count c.in-Ok.reading at next says);
    }

pub returns-in_err-is_at_end-clause-stayed : goal.returns-in_err-is_at_end-clause-stayed
returns-in_err-is_at_end-clause-stayed g c other =
    let fault = err_from_is_err_and c.from_residual-in_err-is_at_end.result c.from_residual-in_err-is_at_end.ensures.1 in
    absurd (other (fault.1 ∙ ap Err fault.2))

pub returns-in_err-is_at_end-clause-reads : goal.returns-in_err-is_at_end-clause-reads
returns-in_err-is_at_end-clause-reads g c =
    let at = ended_at g (goal.at.returns-in_err-is_at_end-clause-reads g c).After-is_at_end in
    let fault = err_from_is_err_and c.from_residual-in_err-is_at_end.result c.from_residual-in_err-is_at_end.ensures.1 in
    rw (fault.1, fault.2) (bounded_for _ _ _ _ _ _ _ at (omega arith))

pub returns-in_err-is_at_end-clause-bounded : goal.returns-in_err-is_at_end-clause-bounded
returns-in_err-is_at_end-clause-bounded g c =
    let at = ended_at g (goal.at.returns-in_err-is_at_end-clause-bounded g c).After-is_at_end in
    bounded_of _ _ _ _ _ _ _ at (omega arith)

pub returns-then-branch-clause-script : goal.returns-then-branch-clause-script
returns-then-branch-clause-script g c =
    let at = ended_at g (goal.at.returns-then-branch-clause-script g c).After-is_at_end in
    let end = c.in_ok-is_at_end.ensures.end c.if-branch.true in
    rw c.script_of-then-branch.ensures (finished_of _ _ _ _ _ _ _ at end.0 end.1 (omega arith))

pub returns-clause-fault : goal.returns-clause-fault
returns-clause-fault g c =
    let at = ended_at g (goal.at.returns-clause-fault g c).After-is_at_end in
    too_many_of _ _ _ _ _ _ _ at (omega arith) (c.in_ok-is_at_end.ensures.more c.if-branch.false)

pub returns-clause-reads : goal.returns-clause-reads
returns-clause-reads g c =
    let at = ended_at g (goal.at.returns-clause-reads g c).After-is_at_end in
    taken_of _ _ _ _ _ _ _ 100000 at (omega arith)

pub returns-clause-bounded : goal.returns-clause-bounded
returns-clause-bounded g c =
    let at = ended_at g (goal.at.returns-clause-bounded g c).After-is_at_end in
    bounded_of _ _ _ _ _ _ _ at (omega arith)
