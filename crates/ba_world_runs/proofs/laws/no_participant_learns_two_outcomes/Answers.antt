use Rattle.ba_world_runs.proofs.HeadlineLemmas.{completed_first, is_recorded, one_outcome, told_the_roots}
use Rattle.ba_world_runs.proofs.laws.no_participant_learns_two_outcomes.Goals as goal

pub returns-clause-one : goal.returns-clause-one
returns-clause-one c = one_outcome

pub returns-clause-recorded : goal.returns-clause-recorded
returns-clause-recorded c = is_recorded

pub returns-clause-completed : goal.returns-clause-completed
returns-clause-completed c = completed_first

pub returns-clause-tree : goal.returns-clause-tree
returns-clause-tree c = told_the_roots
