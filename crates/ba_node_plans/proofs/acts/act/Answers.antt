use Rattle.std.proofs.Common.{◌∙◌, sym}
use Rattle.ba_node_plans.proofs.Acted.{acts, acts_above, acts_nowhere, acts_wrongly}
use Rattle.ba_node_plans.proofs.Planned.{lone_suits, nothing_suits}
use Rattle.ba_node_steps.specs.Node.{NodeState}
use Rattle.ba_node_plans.proofs.acts.act.Goals as goal

pub returns-in-None : goal.returns-in-None
returns-in-None c =
    let n : NodeState = c.args.node.now.node in
    record {
      step = c.refused.ensures.step n ∙ acts_nowhere n c.args.id c.args.act c.in-None.ensures.none;
      suits = nothing_suits c.args.node.now c.refused.result.change c.refused.ensures.change;
    }

pub returns-in-Some-find_up : goal.returns-in-Some-find_up
returns-in-Some-find_up c =
    let n : NodeState = c.args.node.now.node in
    record {
      step = c.refused-in-Some-find_up.ensures.step n ∙ acts_above n c.args.id c.args.act _ _ _ c.in-Some-find_up.ensures.some;
      suits = nothing_suits c.args.node.now c.refused-in-Some-find_up.result.change c.refused-in-Some-find_up.ensures.change;
    }

pub returns-in-None-p_act : goal.returns-in-None-p_act
returns-in-None-p_act c =
    let n : NodeState = c.args.node.now.node in
    let found = c.in-Some.found in
    record {
      step = c.refused-in-None-p_act.ensures.step n
          ∙ acts_wrongly n c.args.id c.args.act found.place found.part.now c.in-Some.ensures.some (sym c.in-None-p_act.ensures);
      suits = nothing_suits c.args.node.now c.refused-in-None-p_act.result.change c.refused-in-None-p_act.ensures.change;
    }

pub returns-in-Some-p_act : goal.returns-in-Some-p_act
returns-in-Some-p_act c =
    let n : NodeState = c.args.node.now.node in
    let found = c.in-Some.found in
    record {
      step = (rw c.counter.ensures at (c.kept.ensures.step n))
          ∙ acts n c.args.id c.args.act found.place found.part.now c.in-Some-p_act.next c.in-Some.ensures.some.node c.in-Some.ensures.some
          (sym c.in-Some-p_act.ensures);
      suits = lone_suits c.args.node.now found.place found.part.now _ c.kept.result.change c.in-Some.ensures.some.at tt
          c.kept.ensures.change;
    }
