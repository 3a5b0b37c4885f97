use Rattle.ba_node_steps.proofs.Enacted.{step_of}
use Rattle.ba_node_steps.proofs.Reenacted.{after_of}
use Rattle.ba_node_steps.proofs.laws.a_record_tells_its_step.Goals as goal

pub returns-clause-step : goal.returns-clause-step
returns-clause-step c = λ n r after fits range h. step_of n r after range fits h

pub returns-clause-told : goal.returns-clause-told
returns-clause-told c = after_of
