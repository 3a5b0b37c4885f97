use Rattle.std.proofs.Common.{◌≡◌, ◌∙◌, false, true, sym}
use Rattle.ba_node_plans.proofs.Noticed.{answered_above, up_has_no_row, up_moves, up_stays}
use Rattle.ba_node_plans.proofs.Planned.{nothing_suits, scope_suits}
use Rattle.ba_node_steps.specs.Steps.{same_part_state}
use Rattle.ba_node_plans.proofs.notices.up_received.Goals as goal

pub returns-in-Invalid : goal.returns-in-Invalid
returns-in-Invalid c =
    let f = c.args.found.now in
    record {
      step = λ n id fits finds. c.fault.ensures.step n ∙ up_has_no_row n f.scope.now f.part.now c.args.notice
          (sym c.in-Invalid.ensures.row);
      suits = λ n id finds. nothing_suits n c.fault.result.change c.fault.ensures.change;
    }

pub returns-then-same_part : goal.returns-then-same_part
returns-then-same_part c =
    let f = c.args.found.now in
    let same : same_part_state f.part.now.state c.in-Row.next ≡ true = sym c.same_part.ensures ∙ c.if-same_part.true in
    record {
      step = λ n id fits finds. c.again.ensures.step n
          ∙ up_stays n f.scope.now f.part.now c.args.notice c.in-Row.next c.in-Row.prompt (sym c.in-Row.ensures.row) same;
      suits = λ n id finds. nothing_suits n c.again.result.change c.again.ensures.change;
    }

pub returns-else-same_part : goal.returns-else-same_part
returns-else-same_part c =
    let f = c.args.found.now in
    let moves : same_part_state f.part.now.state c.in-Row.next ≡ false = sym c.same_part.ensures ∙ c.if-same_part.false in
    record {
      step = λ n id fits finds. (rw (c.counter.ensures, c.wake_by_up.ensures) at (c.kept.ensures.step n))
          ∙ up_moves n id f.place f.scope.now f.part.now c.args.notice c.in-Row.next c.in-Row.prompt fits finds
          (sym c.in-Row.ensures.row) moves;
      suits = λ n id finds. scope_suits n f.place f.scope.now _ c.kept.result.change finds.at
          (answered_above f.scope.now f.part.now finds.up c.requires.answered, c.requires.notice) c.kept.ensures.change;
    }
