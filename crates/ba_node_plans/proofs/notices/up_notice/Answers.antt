use Rattle.std.proofs.Common.{◌∙◌, not, sym, ap}
use Rattle.ba_core.specs.PartRows.{part_row}
use Rattle.ba_node_plans.proofs.Noticed.{column_of, hears_get_status, hears_nothing, hears_row, hears_status}
use Rattle.ba_node_plans.proofs.Planned.{nothing_suits}
use Rattle.ba_node_steps.specs.Node.{upward}
use Rattle.ba_node_steps.specs.Steps.{on_up_row}
use Rattle.ba_node_plans.proofs.notices.up_notice.Goals as goal

pub returns-then-lacks_coordinator : goal.returns-then-lacks_coordinator
returns-then-lacks_coordinator c =
    let f = c.args.found.now in
    record {
      step = λ n id fits finds. c.accepted.ensures.step n
          ∙ hears_nothing n (upward f.scope.now f.part.now) f.part.now c.args.notice (on_up_row n f.scope.now f.part.now c.args.notice
          (part_row f.part.now.protocol f.part.now.state c.args.notice)) (sym c.lacks_coordinator.ensures ∙ c.if-lacks_coordinator.true);
      suits = λ n id finds. nothing_suits n c.accepted.result.change c.accepted.ensures.change;
    }

pub returns-then-is_status : goal.returns-then-is_status
returns-then-is_status c =
    let f = c.args.found.now in
    record {
      step = λ n id fits finds. c.accepted-then-is_status.ensures.step n
          ∙ hears_status n (upward f.scope.now f.part.now) f.part.now c.args.notice (on_up_row n f.scope.now f.part.now c.args.notice
          (part_row f.part.now.protocol f.part.now.state c.args.notice)) (sym c.is_status.ensures ∙ c.if-is_status.true);
      suits = λ n id finds. nothing_suits n c.accepted-then-is_status.result.change c.accepted-then-is_status.ensures.change;
    }

pub returns-then-is_get_status : goal.returns-then-is_get_status
returns-then-is_get_status c =
    let f = c.args.found.now in
    record {
      step = λ n id fits finds. c.up_asked.ensures.step n id fits finds
          ∙ hears_get_status n (upward f.scope.now f.part.now) f.part.now c.args.notice
          (on_up_row n f.scope.now f.part.now c.args.notice (part_row f.part.now.protocol f.part.now.state c.args.notice))
          (sym c.is_status.ensures ∙ c.if-is_status.false)
          (sym c.lacks_coordinator.ensures ∙ c.if-lacks_coordinator.false) (sym c.is_get_status.ensures ∙ c.if-is_get_status.true);
      suits = λ n id finds. c.up_asked.ensures.suits n id finds;
    }

pub up_received-requires : goal.up_received-requires
up_received-requires c = record {
  notice = column_of c.args.notice (sym c.is_status.ensures ∙ c.if-is_status.false) (sym c.is_get_status.ensures
      ∙ c.if-is_get_status.false);
  own = c.requires.own;
  answered = ap not (sym c.lacks_coordinator.ensures ∙ c.if-lacks_coordinator.false);
}

pub returns : goal.returns
returns c =
    let f = c.args.found.now in
    record {
      step = λ n id fits finds. c.up_received.ensures.step n id fits finds
          ∙ hears_row n (upward f.scope.now f.part.now) f.part.now c.args.notice (on_up_row n f.scope.now f.part.now c.args.notice
          (part_row f.part.now.protocol f.part.now.state c.args.notice)) (sym c.is_status.ensures ∙ c.if-is_status.false)
          (sym c.lacks_coordinator.ensures ∙ c.if-lacks_coordinator.false) (sym c.is_get_status.ensures ∙ c.if-is_get_status.false);
      suits = λ n id finds. c.up_received.ensures.suits n id finds;
    }
