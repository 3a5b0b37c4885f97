use Rattle.ba_world_runs.proofs.Completed.{close_told, run_closes}
use Rattle.ba_world_runs.proofs.SoundRuns.{sound_run}
use Rattle.ba_world_runs.proofs.laws.what_closes_was_completed.Goals as goal

pub returns-clause-state : goal.returns-clause-state
returns-clause-state c = run_closes

pub returns-clause-told : goal.returns-clause-told
returns-clause-told c = λ w before run. close_told w before run (sound_run w before run).net
