use Rattle.ba_world_runs.proofs.Possible.{can_be_kept, can_fail, can_fail_to_open, can_happen, can_open, can_start, can_stop}
use Rattle.ba_world_runs.proofs.laws.what_is_possible_can_happen.Goals as goal

pub returns-clause-happens : goal.returns-clause-happens
returns-clause-happens c = can_happen

pub returns-clause-fails : goal.returns-clause-fails
returns-clause-fails c = can_fail

pub returns-clause-stops : goal.returns-clause-stops
returns-clause-stops c = can_stop

pub returns-clause-opens : goal.returns-clause-opens
returns-clause-opens c = can_open

pub returns-clause-fails_to_open : goal.returns-clause-fails_to_open
returns-clause-fails_to_open c = can_fail_to_open

pub returns-clause-kept : goal.returns-clause-kept
returns-clause-kept c = can_be_kept

pub returns-clause-starts : goal.returns-clause-starts
returns-clause-starts c = can_start
