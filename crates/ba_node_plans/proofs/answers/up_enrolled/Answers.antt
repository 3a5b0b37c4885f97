use Rattle.std.proofs.Common.{◌≡◌, ◌∙◌, false, true, sym, ap}
use Rattle.ba_message.specs.Dialing.{is_dialable}
use Rattle.ba_node_plans.proofs.Planned.{scope_suits, nothing_suits}
use Rattle.ba_node_plans.proofs.Registered.{above_registers, enrolled_already, enrolled_badly, up_enrolled, up_enrolling}
use Rattle.ba_node_steps.specs.Node.{upward}
use Rattle.ba_core.specs.declared.refusals.TheConstants.{BAD_ADDRESS}
use Rattle.ba_node_steps.specs.Steps.{is_registering_state, refusal_step}
use Rattle.ba_node_plans.proofs.answers.up_enrolled.Goals as goal

pub returns-then-not-is_registering : goal.returns-then-not-is_registering
returns-then-not-is_registering c =
    let f = c.args.found.now in
    let e = c.args.coordinator.now in
    let gone : is_registering_state f.part.now.state ≡ false = sym c.is_registering.ensures ∙ c.if-not-is_registering.true in
    record {
      step = λ n id fits finds. c.accepted.ensures.step n ∙ enrolled_already n id e (upward f.scope.now f.part.now) f.part.now gone
          ∙ up_enrolling n id e f.scope.now f.part.now finds.placed;
      suits = λ n id finds. nothing_suits n c.accepted.result.change c.accepted.ensures.change;
    }

pub returns-then-not-can_dial : goal.returns-then-not-can_dial
returns-then-not-can_dial c =
    let f = c.args.found.now in
    let e = c.args.coordinator.now in
    let registers : is_registering_state f.part.now.state ≡ true = sym c.is_registering.ensures ∙ c.if-not-is_registering.false in
    let bad : is_dialable e.address ≡ false = sym (rw c.as_slice.ensures at c.can_dial.ensures) ∙ c.if-not-can_dial.true in
    record {
      step = λ n id fits finds. c.refused.ensures.step n
          ∙ ap (refusal_step n BAD_ADDRESS) finds.is
          ∙ enrolled_badly n id e (upward f.scope.now f.part.now) f.part.now registers bad
          ∙ up_enrolling n id e f.scope.now f.part.now finds.placed;
      suits = λ n id finds. nothing_suits n c.refused.result.change c.refused.ensures.change;
    }

pub returns : goal.returns
returns c =
    let f = c.args.found.now in
    let e = c.args.coordinator.now in
    let registers : is_registering_state f.part.now.state ≡ true = sym c.is_registering.ensures ∙ c.if-not-is_registering.false in
    let good : is_dialable e.address ≡ true = sym (rw c.as_slice.ensures at c.can_dial.ensures) ∙ c.if-not-can_dial.false in
    record {
      step = λ n id fits finds. (rw (c.counter.ensures, c.in_ok-copies.ensures.first, c.in_ok-copies.ensures.second) at
          (c.kept.ensures.step n))
          ∙ up_enrolled n id e f.place f.scope.now f.part.now fits finds registers good;
      suits = λ n id finds. scope_suits n f.place f.scope.now _ c.kept.result.change finds.at
          (above_registers f.scope.now f.part.now finds.up registers) c.kept.ensures.change;
    }
