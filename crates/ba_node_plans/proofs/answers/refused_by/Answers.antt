use Rattle.std.proofs.Common.{◌∙◌}
use Rattle.ba_node_plans.proofs.Planned.{nothing_suits}
use Rattle.ba_node_plans.proofs.Registered.{refused_nowhere}
use Rattle.ba_node_steps.specs.Node.{NodeState}
use Rattle.ba_node_plans.proofs.answers.refused_by.Goals as goal

pub returns-in-Some : goal.returns-in-Some
returns-in-Some c =
    let n : NodeState = c.args.node.now.node in
    let finds = c.in-Some.ensures.some in
    record {
      step = c.lone_refused.ensures.step n c.args.id finds.node finds;
      suits = c.lone_refused.ensures.suits c.args.node.now c.args.id finds;
    }

pub returns-in-None : goal.returns-in-None
returns-in-None c =
    let n : NodeState = c.args.node.now.node in
    record {
      step = c.refused.ensures.step n ∙ refused_nowhere n c.args.id c.args.code c.in-None.ensures.none;
      suits = nothing_suits c.args.node.now c.refused.result.change c.refused.ensures.change;
    }

pub returns-in-Some-find_up : goal.returns-in-Some-find_up
returns-in-Some-find_up c =
    let n : NodeState = c.args.node.now.node in
    let finds = c.in-Some-find_up.ensures.some in
    record {
      step = c.up_refused.ensures.step n c.args.id finds.node finds;
      suits = c.up_refused.ensures.suits c.args.node.now c.args.id finds;
    }
