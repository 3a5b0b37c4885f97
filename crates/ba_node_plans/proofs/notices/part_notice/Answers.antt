use Rattle.std.proofs.Common.{◌∙◌, sym, ap}
use Rattle.ba_node_plans.proofs.Planned.{nothing_suits}
use Rattle.ba_node_steps.specs.Node.{NodeState, PartPlace}
use Rattle.ba_node_steps.specs.Steps.{on_place_notice}
use Rattle.ba_node_plans.proofs.notices.part_notice.Goals as goal

pub returns-in-Some : goal.returns-in-Some
returns-in-Some c =
    let n : NodeState = c.args.node.now.node in
    let finds = c.in-Some.ensures.some in
    record {
      step = c.lone_notice.ensures.step n c.args.id finds.node finds
          ∙ ap (λ (place : PartPlace). on_place_notice n place c.args.notice) (sym finds.placed);
      suits = c.lone_notice.ensures.suits c.args.node.now c.args.id finds;
    }

pub returns-in-None : goal.returns-in-None
returns-in-None c =
    let n : NodeState = c.args.node.now.node in
    record {
      step = c.fault.ensures.step n ∙ ap (λ (place : PartPlace). on_place_notice n place c.args.notice) (sym c.in-None.ensures.none);
      suits = nothing_suits c.args.node.now c.fault.result.change c.fault.ensures.change;
    }

pub returns-in-Some-find_up : goal.returns-in-Some-find_up
returns-in-Some-find_up c =
    let n : NodeState = c.args.node.now.node in
    let finds = c.in-Some-find_up.ensures.some in
    record {
      step = c.up_notice.ensures.step n c.args.id finds.node finds
          ∙ ap (λ (place : PartPlace). on_place_notice n place c.args.notice) (sym finds.placed);
      suits = c.up_notice.ensures.suits c.args.node.now c.args.id finds;
    }
