use Rattle.std.proofs.Common.{◌≡◌, ◌∙◌, false, true, sym}
use Rattle.ba_node_plans.proofs.Planned.{lone_suits, nothing_suits}
use Rattle.ba_node_plans.proofs.Registered.{lone_refused, lone_refusing, refused_already, refused_by_other}
use Rattle.ba_node_steps.specs.Node.{lone}
use Rattle.ba_node_steps.specs.Steps.{is_registering_state}
use Rattle.ba_node_plans.proofs.answers.lone_refused.Goals as goal

pub returns-then-not-is_registering : goal.returns-then-not-is_registering
returns-then-not-is_registering c =
    let f = c.args.found.now in
    let gone : is_registering_state f.part.now.state ≡ false = sym c.is_registering.ensures ∙ c.if-not-is_registering.true in
    record {
      step = λ n id fits finds. c.accepted.ensures.step n ∙ refused_already n id c.args.code (lone f.part.now) f.part.now gone
          ∙ lone_refusing n id c.args.code f.part.now finds.placed;
      suits = λ n id finds. nothing_suits n c.accepted.result.change c.accepted.ensures.change;
    }

pub returns-in-None : goal.returns-in-None
returns-in-None c =
    let f = c.args.found.now in
    let registers : is_registering_state f.part.now.state ≡ true = sym c.is_registering.ensures ∙ c.if-not-is_registering.false in
    record {
      step = λ n id fits finds. c.accepted-in-None.ensures.step n
          ∙ refused_by_other n id c.args.code (lone f.part.now) f.part.now registers (sym c.in-None.ensures)
          ∙ lone_refusing n id c.args.code f.part.now finds.placed;
      suits = λ n id finds. nothing_suits n c.accepted-in-None.result.change c.accepted-in-None.ensures.change;
    }

pub returns-in-Some : goal.returns-in-Some
returns-in-Some c =
    let f = c.args.found.now in
    let registers : is_registering_state f.part.now.state ≡ true = sym c.is_registering.ensures ∙ c.if-not-is_registering.false in
    record {
      step = λ n id fits finds. (rw c.counter.ensures at (c.kept.ensures.step n))
          ∙ lone_refused n id c.args.code f.place f.part.now c.in-Some.number fits finds registers (sym c.in-Some.ensures);
      suits = λ n id finds. lone_suits n f.place f.part.now _ c.kept.result.change finds.at tt c.kept.ensures.change;
    }
