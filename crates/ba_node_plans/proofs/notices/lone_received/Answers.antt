use Rattle.std.proofs.Common.{◌≡◌, ◌∙◌, false, true, sym}
use Rattle.ba_node_plans.proofs.Noticed.{lone_has_no_row, lone_moves, lone_stays}
use Rattle.ba_node_plans.proofs.Planned.{lone_suits, nothing_suits}
use Rattle.ba_node_steps.specs.Steps.{same_part_state}
use Rattle.ba_node_plans.proofs.notices.lone_received.Goals as goal

pub returns-in-Invalid : goal.returns-in-Invalid
returns-in-Invalid c =
    let f = c.args.found.now in
    record {
      step = λ n id fits finds. c.fault.ensures.step n ∙ lone_has_no_row n f.part.now c.args.notice (sym c.in-Invalid.ensures.row);
      suits = λ n id finds. nothing_suits n c.fault.result.change c.fault.ensures.change;
    }

pub returns-then-same_part : goal.returns-then-same_part
returns-then-same_part c =
    let f = c.args.found.now in
    let same : same_part_state f.part.now.state c.in-Row.next ≡ true = sym c.same_part.ensures ∙ c.if-same_part.true in
    record {
      step = λ n id fits finds. c.again.ensures.step n
          ∙ lone_stays n f.part.now c.args.notice c.in-Row.next c.in-Row.prompt (sym c.in-Row.ensures.row) same;
      suits = λ n id finds. nothing_suits n c.again.result.change c.again.ensures.change;
    }

pub returns-else-same_part : goal.returns-else-same_part
returns-else-same_part c =
    let f = c.args.found.now in
    let moves : same_part_state f.part.now.state c.in-Row.next ≡ false = sym c.same_part.ensures ∙ c.if-same_part.false in
    record {
      step = λ n id fits finds. (rw c.counter.ensures at (c.kept.ensures.step n))
          ∙ lone_moves n id f.place f.part.now c.args.notice c.in-Row.next c.in-Row.prompt fits finds (sym c.in-Row.ensures.row) moves;
      suits = λ n id finds. lone_suits n f.place f.part.now _ c.kept.result.change finds.at tt c.kept.ensures.change;
    }
