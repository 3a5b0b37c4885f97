use Rattle.ba_world_runs.proofs.Generations.{run_generations, step_generations}
use Rattle.ba_world_runs.proofs.laws.children_follow_their_parents.Goals as goal

pub returns-clause-step : goal.returns-clause-step
returns-clause-step c = step_generations

pub returns-clause-run : goal.returns-clause-run
returns-clause-run c = run_generations
