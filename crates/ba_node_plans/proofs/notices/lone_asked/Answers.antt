use Rattle.std.proofs.Common.{◌∙◌}
use Rattle.ba_node_plans.proofs.Asked.{part_owes_already, lone_owes}
use Rattle.ba_node_plans.proofs.Planned.{nothing_suits, lone_suits}
use Rattle.ba_node_steps.specs.Node.{lone}
use Rattle.ba_node_plans.proofs.notices.lone_asked.Goals as goal

pub returns-then-found : goal.returns-then-found
returns-then-found c =
    let f = c.args.found.now in
    record {
      step = λ n id fits finds. c.accepted.ensures.step n ∙ part_owes_already n (lone f.part.now) f.part.now c.if-found.true;
      suits = λ n id finds. nothing_suits n c.accepted.result.change c.accepted.ensures.change;
    }

pub returns : goal.returns
returns c =
    let f = c.args.found.now in
    record {
      step = λ n id fits finds. (rw c.counter.ensures at (c.kept.ensures.step n))
          ∙ lone_owes n id f.place f.part.now fits finds c.if-found.false;
      suits = λ n id finds. lone_suits n f.place f.part.now _ c.kept.result.change finds.at tt c.kept.ensures.change;
    }
