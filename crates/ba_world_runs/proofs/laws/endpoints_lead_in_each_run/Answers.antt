use Rattle.ba_world_runs.proofs.AddressedRuns.{run_addressed, step_addressed}
use Rattle.ba_world_runs.proofs.laws.endpoints_lead_in_each_run.Goals as goal

pub returns-clause-step : goal.returns-clause-step
returns-clause-step c = step_addressed

pub returns-clause-run : goal.returns-clause-run
returns-clause-run c = run_addressed
