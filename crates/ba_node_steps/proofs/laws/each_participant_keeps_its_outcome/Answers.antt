use Rattle.ba_node_steps.proofs.HistoryLemmas.{completed_by_act, outcome_stays, then_replays}
use Rattle.ba_node_steps.proofs.laws.each_participant_keeps_its_outcome.Goals as goal

pub returns-clause-ended : goal.returns-clause-ended
returns-clause-ended c = outcome_stays

pub returns-clause-completed : goal.returns-clause-completed
returns-clause-completed c = completed_by_act

pub returns-clause-replay : goal.returns-clause-replay
returns-clause-replay c = then_replays
