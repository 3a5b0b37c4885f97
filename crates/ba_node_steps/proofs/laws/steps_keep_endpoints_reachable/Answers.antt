use Rattle.ba_node_steps.proofs.EndpointsKept.{new_reaches, step_reaches}
use Rattle.ba_node_steps.proofs.laws.steps_keep_endpoints_reachable.Goals as goal

pub returns-clause-new : goal.returns-clause-new
returns-clause-new c = new_reaches

pub returns-clause-step : goal.returns-clause-step
returns-clause-step c = step_reaches
