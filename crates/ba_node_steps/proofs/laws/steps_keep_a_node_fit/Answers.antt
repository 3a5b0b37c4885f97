use Rattle.ba_node_steps.proofs.SameNode.{step_keeps}
use Rattle.ba_node_steps.proofs.StepsFit.{new_fits, step_fits, step_makes_few}
use Rattle.ba_node_steps.proofs.laws.steps_keep_a_node_fit.Goals as goal

pub returns-clause-new : goal.returns-clause-new
returns-clause-new c = new_fits

pub returns-clause-step : goal.returns-clause-step
returns-clause-step c = step_fits

pub returns-clause-few : goal.returns-clause-few
returns-clause-few c = step_makes_few

pub returns-clause-node : goal.returns-clause-node
returns-clause-node c = step_keeps
