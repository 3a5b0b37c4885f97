use Rattle.std.proofs.Common.{◌≡◌, ◌∙◌, false, true, sym, subst}
use Rattle.ba_node_plans.proofs.Noticed.{end_has_no_row, end_moves, end_stays}
use Rattle.ba_node_plans.proofs.Planned.{nothing_suits, scope_suits}
use Rattle.ba_node_steps.specs.Steps.{same_end_state}
use Rattle.ba_node_plans.proofs.notices.end_received.Goals as goal

pub returns-in-Invalid : goal.returns-in-Invalid
returns-in-Invalid c =
    let f = c.args.found.now in
    record {
      step = λ n id fits finds. c.fault.ensures.step n ∙ end_has_no_row n f.scope.now f.end.now c.args.notice
          (sym c.in-Invalid.ensures.row);
      suits = λ n id finds. nothing_suits n c.fault.result.change c.fault.ensures.change;
    }

pub returns-then-same_end : goal.returns-then-same_end
returns-then-same_end c =
    let f = c.args.found.now in
    let same = subst (λ x. same_end_state f.end.now.state x ≡ true) c.settled-there.ensures (sym c.same_end.ensures ∙ c.if-same_end.true) in
    record {
      step = λ n id fits finds. c.again.ensures.step n
          ∙ end_stays n f.scope.now f.end.now c.args.notice c.in-Row.next c.in-Row.prompt (sym c.in-Row.ensures.row) same;
      suits = λ n id finds. nothing_suits n c.again.result.change c.again.ensures.change;
    }

pub returns-else-same_end : goal.returns-else-same_end
returns-else-same_end c =
    let f = c.args.found.now in
    let moves : same_end_state f.end.now.state c.settled-there.result ≡ false = sym c.same_end.ensures ∙ c.if-same_end.false in
    record {
      step = λ n id fits finds. (rw (c.counter.ensures, c.wake_by_end.ensures) at (c.kept.ensures.step n))
          ∙ end_moves n id f.place f.scope.now f.end.now c.args.notice c.in-Row.next c.settled-there.result c.in-Row.prompt fits finds
          (sym c.in-Row.ensures.row) c.settled-there.ensures moves;
      suits = λ n id finds. scope_suits n f.place f.scope.now _ c.kept.result.change finds.at c.requires.notice c.kept.ensures.change;
    }
