use Rattle.std.proofs.Common.{◌∙◌, sym}
use Rattle.ba_node_plans.proofs.Noticed.{column_of, end_hears_get_status, end_hears_row, end_hears_status, no_end_hears}
use Rattle.ba_node_plans.proofs.Planned.{nothing_suits}
use Rattle.ba_node_steps.specs.Node.{NodeState}
use Rattle.ba_node_plans.proofs.notices.end_notice.Goals as goal

pub returns-in_default : goal.returns-in_default
returns-in_default c =
    let n : NodeState = c.args.node.now.node in
    record {
      step = c.fault.ensures.step n ∙ no_end_hears n c.args.id c.args.notice c.in_default.ensures.none;
      suits = nothing_suits c.args.node.now c.fault.result.change c.fault.ensures.change;
    }

pub returns-then-is_status : goal.returns-then-is_status
returns-then-is_status c =
    let n : NodeState = c.args.node.now.node in
    record {
      step = c.accepted.ensures.step n
          ∙ end_hears_status n c.args.id c.args.notice _ _ _ c.in-Some.ensures.some (sym c.is_status.ensures ∙ c.if-is_status.true);
      suits = nothing_suits c.args.node.now c.accepted.result.change c.accepted.ensures.change;
    }

pub returns-then-is_get_status : goal.returns-then-is_get_status
returns-then-is_get_status c =
    let n : NodeState = c.args.node.now.node in
    let finds = c.in-Some.ensures.some in
    record {
      step = c.end_asked.ensures.step n c.args.id finds.node finds
          ∙ end_hears_get_status n c.args.id c.args.notice _ _ _ finds (sym c.is_status.ensures ∙ c.if-is_status.false)
          (sym c.is_get_status.ensures ∙ c.if-is_get_status.true);
      suits = c.end_asked.ensures.suits c.args.node.now c.args.id finds;
    }

pub end_received-requires : goal.end_received-requires
end_received-requires c = record {
  notice = column_of c.args.notice (sym c.is_status.ensures ∙ c.if-is_status.false) (sym c.is_get_status.ensures
      ∙ c.if-is_get_status.false);
  own = c.in-Some.ensures.some.own;
}

pub returns : goal.returns
returns c =
    let n : NodeState = c.args.node.now.node in
    let finds = c.in-Some.ensures.some in
    record {
      step = c.end_received.ensures.step n c.args.id finds.node finds
          ∙ end_hears_row n c.args.id c.args.notice _ _ _ finds (sym c.is_status.ensures ∙ c.if-is_status.false)
          (sym c.is_get_status.ensures ∙ c.if-is_get_status.false);
      suits = c.end_received.ensures.suits c.args.node.now c.args.id finds;
    }
