use Rattle.std.proofs.Common.{◌∙◌}
use Rattle.ba_node_plans.proofs.Asked.{asks_at_end, asks_at_lone, asks_at_up, asks_nowhere}
use Rattle.ba_node_plans.proofs.Planned.{nothing_suits}
use Rattle.ba_node_steps.specs.Node.{NodeState}
use Rattle.ba_node_plans.proofs.asks.ask.Goals as goal

pub returns-in-Some : goal.returns-in-Some
returns-in-Some c =
    let n : NodeState = c.args.node.now.node in
    let finds = c.in-Some.ensures.some in
    record {
      step = c.ask_end.ensures.step n c.args.id finds.node finds ∙ asks_at_end n c.args.id _ _ _ finds;
      suits = c.ask_end.ensures.suits c.args.node.now c.args.id finds;
    }

pub returns-in-Some-find_lone : goal.returns-in-Some-find_lone
returns-in-Some-find_lone c =
    let n : NodeState = c.args.node.now.node in
    let finds = c.in-Some-find_lone.ensures.some in
    record {
      step = c.ask_lone.ensures.step n c.args.id finds.node finds ∙ asks_at_lone n c.args.id _ _ finds c.in_default.ensures.none;
      suits = c.ask_lone.ensures.suits c.args.node.now c.args.id finds;
    }

pub returns-in-None : goal.returns-in-None
returns-in-None c =
    let n : NodeState = c.args.node.now.node in
    record {
      step = c.refused.ensures.step n ∙ asks_nowhere n c.args.id c.in_default.ensures.none c.in-None.ensures.none;
      suits = nothing_suits c.args.node.now c.refused.result.change c.refused.ensures.change;
    }

pub returns-in-Some-find_up : goal.returns-in-Some-find_up
returns-in-Some-find_up c =
    let n : NodeState = c.args.node.now.node in
    let finds = c.in-Some-find_up.ensures.some in
    record {
      step = c.ask_up.ensures.step n c.args.id finds.node finds ∙ asks_at_up n c.args.id _ _ _ finds c.in_default.ensures.none;
      suits = c.ask_up.ensures.suits c.args.node.now c.args.id finds;
    }
