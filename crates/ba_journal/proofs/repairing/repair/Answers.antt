use Rattle.std.proofs.Common.{inr, [], ◌∷◌, ◌++◌, ◌+◌, List, ℕ, IsTrue, is_err, sym, ◌∙◌, ap, subst, arith, length}
use Rattle.ba_ports.specs.Disk.{InTurn, Only, written_at}
use Rattle.ba_ports.specs.declared.requests.Request.TheVariants.{WriteAt, Cut, Sync}
use Rattle.ba_ports.proofs.Moments.{started}
use Rattle.ba_journal.specs.Journals.{AtRest}
use Rattle.ba_journal.specs.Frames.{StandsFor}
use Rattle.ba_journal.specs.Loads.{repairing}
use Rattle.ba_journal.specs.Readings.{IsTail}
use Rattle.ba_journal.specs.declared.readings.Tail.{Tail}
use Rattle.ba_journal.proofs.Ends.{gated, own, cut_stands, cut_done, gate_stands, gate_written, stands_with, at_rest_with, length-with}
use Rattle.ba_journal.proofs.Ends.{closed_is_zero}
use Rattle.ba_journal.proofs.Turns.{in_turn_on, on_ok_both, changing}
use Rattle.ba_journal.proofs.repairing.repair.Goals as goal

pub returns-in_err-cut_through-in-Open-clause-any_moment : goal.returns-in_err-cut_through-in-Open-clause-any_moment
returns-in_err-cut_through-in-Open-clause-any_moment g c =
    let D = g.D.Disk in
    let laws = g.met.D.Disk in
    let d = c.args.disk.now in
    λ follows records found only.
    let at = gated (D.seen d) records c.args.gate c.args.tail found in
    let P : List ℕ → Type 0 = λ left. StandsFor left records in
    let still : P (D.seen d) = inr (at.byte ∷ at.behind, at.holds) in
    let at_start = started D.later D.left_between d P (laws.no_call d) (λ f left. subst P (sym (only f (laws.only_now d f left))) still) in
    changing D.later D.left_between d d c.cut_through-in-Open.new.disk (D.may_leave d) _ (D.seen d) P laws.call_after_call at_start
    (c.cut_through-in-Open.ensures.any_moment follows) only still
    (cut_stands (D.seen d) records at.byte at.behind c.args.gate at.holds at.place)

pub returns-in-Closed-clause-any_moment : goal.returns-in-Closed-clause-any_moment
returns-in-Closed-clause-any_moment g c =
    let D = g.D.Disk in
    let laws = g.met.D.Disk in
    let d = c.args.disk.now in
    λ follows records found only.
    let at = gated (D.seen d) records c.args.gate c.args.tail found in
    let P : List ℕ → Type 0 = λ left. StandsFor left records in
    let still : P (D.seen d) = inr (at.byte ∷ at.behind, at.holds) in
    let at_start = started D.later D.left_between d P (laws.no_call d) (λ f left. subst P (sym (only f (laws.only_now d f left))) still) in
    changing D.later D.left_between d d c.cut_through.new.disk (D.may_leave d) _ (D.seen d) P laws.call_after_call at_start
    (c.cut_through.ensures.any_moment follows) only still (cut_stands (D.seen d) records at.byte at.behind c.args.gate at.holds at.place)

pub returns-in-Closed-clause-settled : goal.returns-in-Closed-clause-settled
returns-in-Closed-clause-settled g c =
    let D = g.D.Disk in
    let d = c.args.disk.now in
    on_ok_both c.cut_through.result c.cut_through.ensures.cut c.cut_through.ensures.durable (λ cut durable follows records found only.
    let at = gated (D.seen d) records c.args.gate c.args.tail found in
    let zero_is = closed_is_zero at.byte at.behind (subst (λ (t : Tail). IsTail t (at.byte ∷ at.behind)) c.in-Closed.is at.kind) in
    let stem = own (D.seen d) records at.byte at.behind c.args.gate at.holds at.place in
    let is_cut = cut follows ∙ cut_done (D.seen d) records at.byte at.behind c.args.gate at.holds at.place
    ∙ ap (λ (n : ℕ). stem ++ n ∷ []) zero_is in
    record {
      at_rest = subst (λ (f : List ℕ). AtRest f records) (sym is_cut)
          (at_rest_with (D.seen d) records at.byte at.behind c.args.gate at.holds at.place);
      place = omega (arith, ap length is_cut, length-with (D.seen d) records at.byte at.behind c.args.gate at.holds at.place 0);
      durable = durable follows;
    })

pub returns-in_ok-cut_through-in-Open-clause-any_moment : goal.returns-in_ok-cut_through-in-Open-clause-any_moment
returns-in_ok-cut_through-in-Open-clause-any_moment g c =
    let D = g.D.Disk in
    let laws = g.met.D.Disk in
    let d = c.args.disk.now in
    let e = c.cut_through-in-Open.new.disk in
    λ follows records found only.
    let at = gated (D.seen d) records c.args.gate c.args.tail found in
    let P : List ℕ → Type 0 = λ left. StandsFor left records in
    let still : P (D.seen d) = inr (at.byte ∷ at.behind, at.holds) in
    let at_start = started D.later D.left_between d P (laws.no_call d) (λ f left. subst P (sym (only f (laws.only_now d f left))) still) in
    let cut = changing D.later D.left_between d d e (D.may_leave d) _ (D.seen d) P laws.call_after_call at_start
    (c.cut_through-in-Open.ensures.any_moment follows) only still
    (cut_stands (D.seen d) records at.byte at.behind c.args.gate at.holds at.place) in
    let stem = own (D.seen d) records at.byte at.behind c.args.gate at.holds at.place in
    let is_cut = c.in_ok-cut_through-in-Open.ensures.cut follows ∙ cut_done (D.seen d) records at.byte at.behind c.args.gate
    at.holds at.place in
    let only_cut = subst (λ (f : List ℕ). Only f (D.may_leave e)) is_cut (c.in_ok-cut_through-in-Open.ensures.durable follows) in
    let f1 = subst IsTrue (sym c.cut_through-in-Open.ensures.follows) follows in
    changing D.later D.left_between d e c.write_through.new.disk (D.may_leave e) _ (stem ++ at.byte ∷ []) P laws.call_after_call cut
    (c.write_through.ensures.any_moment f1) only_cut
    (stands_with (D.seen d) records at.byte at.behind c.args.gate at.holds at.place at.byte)
    (gate_stands (D.seen d) records at.byte at.behind c.args.gate at.holds at.place)

pub returns-in_ok-cut_through-in-Open-clause-settled : goal.returns-in_ok-cut_through-in-Open-clause-settled
returns-in_ok-cut_through-in-Open-clause-settled g c =
    let D = g.D.Disk in
    let d = c.args.disk.now in
    on_ok_both c.write_through.result c.write_through.ensures.written c.write_through.ensures.durable
    (λ written durable follows records found only.
    let at = gated (D.seen d) records c.args.gate c.args.tail found in
    let f1 = subst IsTrue (sym c.cut_through-in-Open.ensures.follows) follows in
    let stem = own (D.seen d) records at.byte at.behind c.args.gate at.holds at.place in
    let is_cut = c.in_ok-cut_through-in-Open.ensures.cut follows ∙ cut_done (D.seen d) records at.byte at.behind c.args.gate
    at.holds at.place in
    let is_closed = written f1 ∙ ap (λ (f : List ℕ). written_at c.args.gate (0 ∷ []) f) is_cut
    ∙ gate_written (D.seen d) records at.byte at.behind c.args.gate at.holds at.place in
    record {
      at_rest = subst (λ (f : List ℕ). AtRest f records) (sym is_closed)
          (at_rest_with (D.seen d) records at.byte at.behind c.args.gate at.holds at.place);
      place = omega (arith, ap length is_closed, length-with (D.seen d) records at.byte at.behind c.args.gate at.holds at.place 0);
      durable = durable f1;
    })

pub returns-in_ok-cut_through-in-Open-clause-calls : goal.returns-in_ok-cut_through-in-Open-clause-calls
returns-in_ok-cut_through-in-Open-clause-calls g c =
    let first = c.in_ok-cut_through-in-Open.ensures.calls in
    let second = c.write_through.ensures.calls in
    let failed = is_err c.write_through.result in
    let both = g.met.D.Disk.driven_on c.args.disk.now c.cut_through-in-Open.new.disk c.write_through.new.disk first.0 second.0
    first.1 second.1 in
    let turn = in_turn_on (Cut (c.args.gate + 1) ∷ Sync ∷ []) (WriteAt c.args.gate (0 ∷ []) ∷ Sync ∷ []) failed first.0 second.0
    first.2 second.2 in
    (first.0 ++ second.0, both, subst (λ (t : Tail). InTurn (repairing c.args.gate t) failed (first.0 ++ second.0)) (sym c.in-Open.is) turn)
