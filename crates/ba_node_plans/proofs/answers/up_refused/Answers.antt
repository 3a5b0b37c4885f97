use Rattle.std.proofs.Common.{◌≡◌, ◌∙◌, false, true, sym}
use Rattle.ba_node_plans.proofs.Planned.{scope_suits, nothing_suits}
use Rattle.ba_node_plans.proofs.Registered.{above_registers, up_refused, up_refusing, refused_already, refused_by_other}
use Rattle.ba_node_steps.specs.Node.{upward}
use Rattle.ba_node_steps.specs.Steps.{is_registering_state}
use Rattle.ba_node_plans.proofs.answers.up_refused.Goals as goal

pub returns-then-not-is_registering : goal.returns-then-not-is_registering
returns-then-not-is_registering c =
    let f = c.args.found.now in
    let gone : is_registering_state f.part.now.state ≡ false = sym c.is_registering.ensures ∙ c.if-not-is_registering.true in
    record {
      step = λ n id fits finds. c.accepted.ensures.step n ∙ refused_already n id c.args.code
          (upward f.scope.now f.part.now) f.part.now gone ∙ up_refusing n id c.args.code f.scope.now f.part.now finds.placed;
      suits = λ n id finds. nothing_suits n c.accepted.result.change c.accepted.ensures.change;
    }

pub returns-in-None : goal.returns-in-None
returns-in-None c =
    let f = c.args.found.now in
    let registers : is_registering_state f.part.now.state ≡ true = sym c.is_registering.ensures ∙ c.if-not-is_registering.false in
    record {
      step = λ n id fits finds. c.accepted-in-None.ensures.step n
          ∙ refused_by_other n id c.args.code (upward f.scope.now f.part.now) f.part.now registers (sym c.in-None.ensures)
          ∙ up_refusing n id c.args.code f.scope.now f.part.now finds.placed;
      suits = λ n id finds. nothing_suits n c.accepted-in-None.result.change c.accepted-in-None.ensures.change;
    }

pub returns-in-Some : goal.returns-in-Some
returns-in-Some c =
    let f = c.args.found.now in
    let registers : is_registering_state f.part.now.state ≡ true = sym c.is_registering.ensures ∙ c.if-not-is_registering.false in
    record {
      step = λ n id fits finds. (rw c.counter.ensures at (c.kept.ensures.step n))
          ∙ up_refused n id c.args.code f.place f.scope.now f.part.now c.in-Some.number fits finds registers (sym c.in-Some.ensures);
      suits = λ n id finds. scope_suits n f.place f.scope.now _ c.kept.result.change finds.at
          (above_registers f.scope.now f.part.now finds.up registers) c.kept.ensures.change;
    }
