use Rattle.ba_node_steps.proofs.Replayed.{lawful_goes_on, lawful_went_on, one_replay, replay_fits}
use Rattle.ba_node_steps.proofs.laws.a_lawful_list_has_one_replay.Goals as goal

pub returns-clause-fits : goal.returns-clause-fits
returns-clause-fits c = replay_fits

pub returns-clause-one : goal.returns-clause-one
returns-clause-one c = one_replay

pub returns-clause-goes_on : goal.returns-clause-goes_on
returns-clause-goes_on c = λ records n r ranges few replays range.
    (lawful_goes_on records n r ranges few replays range, lawful_went_on records n r ranges few replays)
