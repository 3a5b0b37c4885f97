use Rattle.ba_world_runs.proofs.OutcomeRecords.{outcomes_recorded}
use Rattle.ba_world_runs.proofs.OutcomesOnce.{outcomes_kept, outcomes_once}
use Rattle.ba_world_runs.proofs.OutcomesTold.{outcomes_told}
use Rattle.ba_world_runs.proofs.laws.outcomes_are_recorded.Goals as goal

pub returns-clause-received : goal.returns-clause-received
returns-clause-received c = outcomes_recorded

pub returns-clause-acted : goal.returns-clause-acted
returns-clause-acted c = outcomes_told

pub returns-clause-kept : goal.returns-clause-kept
returns-clause-kept c = outcomes_kept

pub returns-clause-once : goal.returns-clause-once
returns-clause-once c = outcomes_once
