use Rattle.ba_pair.proofs.Outcomes.{step_recorded}
use Rattle.ba_pair.proofs.Steps.{step_fits, step_in_place, step_moves}
use Rattle.ba_pair.proofs.pairs.Pair.step.Goals as goal

pub invariant_of-self : goal.invariant_of-self
invariant_of-self c =
    step_fits c.self.inside.sides c.args.e.now c.happen.new.self c.happen.result c.self.invariant
    (c.happen.ensures.step, c.happen.ensures.unchanged)

pub returns-clause-moves : goal.returns-clause-moves
returns-clause-moves c =
    rw (← c.self.view_is) (step_moves c.self.inside.sides c.args.e.now c.happen.new.self c.happen.result c.self.invariant
    (c.happen.ensures.step, c.happen.ensures.unchanged))

pub returns-clause-fits : goal.returns-clause-fits
returns-clause-fits c =
    step_fits c.self.inside.sides c.args.e.now c.happen.new.self c.happen.result c.self.invariant
    (c.happen.ensures.step, c.happen.ensures.unchanged)

pub returns-clause-in_place : goal.returns-clause-in_place
returns-clause-in_place c =
    step_in_place c.self.inside.sides c.args.e.now c.happen.new.self c.happen.result c.self.invariant
    (c.happen.ensures.step, c.happen.ensures.unchanged)

pub returns-clause-recorded : goal.returns-clause-recorded
returns-clause-recorded c =
    rw (← c.self.view_is) (step_recorded c.self.inside.sides c.args.e.now c.happen.new.self c.happen.result c.happen.ensures.step)
