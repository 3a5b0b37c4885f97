use Rattle.ba_world_runs.proofs.OneReplay.{run_one}
use Rattle.ba_world_runs.proofs.Recorded.{run_keeps, step_keeps}
use Rattle.ba_world_runs.proofs.laws.each_world_is_its_records.Goals as goal

pub returns-clause-step : goal.returns-clause-step
returns-clause-step c = step_keeps

pub returns-clause-run : goal.returns-clause-run
returns-clause-run c = run_keeps

pub returns-clause-one : goal.returns-clause-one
returns-clause-one c = run_one
