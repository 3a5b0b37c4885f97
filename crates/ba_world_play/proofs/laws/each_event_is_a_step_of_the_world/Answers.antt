use Rattle.ba_world_play.proofs.EventSteps.{steps_in_run}
use Rattle.ba_world_play.proofs.laws.each_event_is_a_step_of_the_world.Goals as goal

pub returns : goal.returns
returns c = λ p before e effect run spare is. (steps_in_run p before e effect run spare is).steps.step
