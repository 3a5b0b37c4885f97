use Rattle.std.proofs.Common.{◌∙◌}
use Rattle.ba_node_plans.proofs.Asked.{end_owes_already, end_owes}
use Rattle.ba_node_plans.proofs.Planned.{nothing_suits, scope_suits}
use Rattle.ba_node_plans.proofs.notices.end_asked.Goals as goal

pub returns-then-found : goal.returns-then-found
returns-then-found c =
    let f = c.args.found.now in
    record {
      step = λ n id fits finds. c.accepted.ensures.step n ∙ end_owes_already n f.scope.now f.end.now c.if-found.true;
      suits = λ n id finds. nothing_suits n c.accepted.result.change c.accepted.ensures.change;
    }

pub returns : goal.returns
returns c =
    let f = c.args.found.now in
    record {
      step = λ n id fits finds. (rw c.counter.ensures at (c.kept.ensures.step n))
          ∙ end_owes n id f.place f.scope.now f.end.now fits finds c.if-found.false;
      suits = λ n id finds. scope_suits n f.place f.scope.now _ c.kept.result.change finds.at tt c.kept.ensures.change;
    }
