use Rattle.std.proofs.Common.{◌≡◌, ◌∙◌, false}
use Rattle.ba_node_plans.proofs.Asked.{part_owes_already, up_owes, not_true_is_false}
use Rattle.ba_node_plans.proofs.Planned.{nothing_suits, scope_suits}
use Rattle.ba_scope_ends.specs.Parts.{has_no_coordinator}
use Rattle.ba_node_steps.specs.Node.{upward}
use Rattle.ba_node_plans.proofs.notices.up_asked.Goals as goal

pub returns-then-found : goal.returns-then-found
returns-then-found c =
    let f = c.args.found.now in
    record {
      step = λ n id fits finds. c.accepted.ensures.step n ∙ part_owes_already n (upward f.scope.now f.part.now) f.part.now c.if-found.true;
      suits = λ n id finds. nothing_suits n c.accepted.result.change c.accepted.ensures.change;
    }

pub returns : goal.returns
returns c =
    let f = c.args.found.now in
    let answered : has_no_coordinator f.part.now.state ≡ false = not_true_is_false
    (has_no_coordinator f.part.now.state) c.requires.answered in
    record {
      step = λ n id fits finds. (rw c.counter.ensures at (c.kept.ensures.step n))
          ∙ up_owes n id f.place f.scope.now f.part.now fits finds answered c.if-found.false;
      suits = λ n id finds. scope_suits n f.place f.scope.now _ c.kept.result.change finds.at tt c.kept.ensures.change;
    }
