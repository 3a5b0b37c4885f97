use Rattle.std.proofs.Common.{◌∙◌}
use Rattle.ba_node_plans.proofs.Planned.{complete_done, complete_refused, completed_nowhere, nothing_suits, scope_suits}
use Rattle.ba_node_steps.specs.Node.{NodeState}
use Rattle.ba_node_plans.proofs.decisions.complete.Goals as goal

pub returns-in_default : goal.returns-in_default
returns-in_default c =
    let n : NodeState = c.args.node.now.node in
    record {
      step = c.refused.ensures.step n ∙ completed_nowhere n c.args.id c.in_default.ensures.none;
      suits = nothing_suits c.args.node.now c.refused.result.change c.refused.ensures.change;
    }

pub returns-in-No : goal.returns-in-No
returns-in-No c =
    let n : NodeState = c.args.node.now.node in
    let found = c.in-Some.found in
    record {
      step = c.refused-in-No.ensures.step n
          ∙ complete_refused n c.args.id found.place found.scope.now found.end.now c.in-No.number c.in-No.shown
          c.in-Some.ensures.some c.in-No.ensures;
      suits = nothing_suits c.args.node.now c.refused-in-No.result.change c.refused-in-No.ensures.change;
    }

pub returns-in-Ok : goal.returns-in-Ok
returns-in-Ok c =
    let n : NodeState = c.args.node.now.node in
    let found = c.in-Some.found in
    let finds = c.in-Some.ensures.some in
    record {
      step = (rw c.counter.ensures at (c.kept.ensures.step n))
          ∙ complete_done n c.args.id found.place found.scope.now found.end.now finds.node finds c.in-Ok.ensures;
      suits = scope_suits c.args.node.now found.place found.scope.now _ c.kept.result.change finds.at tt c.kept.ensures.change;
    }
