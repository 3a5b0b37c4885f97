use Rattle.std.proofs.Common.{◌≡◌, ◌∙◌, false, true, sym}
use Rattle.ba_node_plans.proofs.Asked.{up_asks, part_asks_already, part_asks_nobody}
use Rattle.ba_node_plans.proofs.Planned.{nothing_suits, scope_suits}
use Rattle.ba_scope_ends.specs.Parts.{has_no_coordinator}
use Rattle.ba_node_steps.specs.Node.{upward}
use Rattle.ba_node_plans.proofs.asks.ask_up.Goals as goal

pub returns-then-lacks_coordinator : goal.returns-then-lacks_coordinator
returns-then-lacks_coordinator c =
    let f = c.args.found.now in
    let nobody : has_no_coordinator f.part.now.state ≡ true = sym c.lacks_coordinator.ensures ∙ c.if-lacks_coordinator.true in
    record {
      step = λ n id fits finds. c.refused.ensures.step n ∙ part_asks_nobody n (upward f.scope.now f.part.now) f.part.now nobody;
      suits = λ n id finds. nothing_suits n c.refused.result.change c.refused.ensures.change;
    }

pub returns-then-found : goal.returns-then-found
returns-then-found c =
    let f = c.args.found.now in
    let answered : has_no_coordinator f.part.now.state ≡ false = sym c.lacks_coordinator.ensures ∙ c.if-lacks_coordinator.false in
    record {
      step = λ n id fits finds. c.accepted.ensures.step n ∙ part_asks_already n (upward f.scope.now f.part.now) f.part.now answered
          c.if-found.true;
      suits = λ n id finds. nothing_suits n c.accepted.result.change c.accepted.ensures.change;
    }

pub returns : goal.returns
returns c =
    let f = c.args.found.now in
    let answered : has_no_coordinator f.part.now.state ≡ false = sym c.lacks_coordinator.ensures ∙ c.if-lacks_coordinator.false in
    record {
      step = λ n id fits finds. (rw c.counter.ensures at (c.kept.ensures.step n))
          ∙ up_asks n id f.place f.scope.now f.part.now fits finds answered c.if-found.false;
      suits = λ n id finds. scope_suits n f.place f.scope.now _ c.kept.result.change finds.at tt c.kept.ensures.change;
    }
