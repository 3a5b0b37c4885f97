use Rattle.ba_world_play.proofs.Posted.{occasion_gives, start_posts, step_posts}
use Rattle.ba_world_play.proofs.laws.messages_of_plays_can_be_posted.Goals as goal

pub returns-clause-start : goal.returns-clause-start
returns-clause-start c = start_posts

pub returns-clause-step : goal.returns-clause-step
returns-clause-step c = λ w w2 step records can. step_posts w records can w2 step

pub returns-clause-gives : goal.returns-clause-gives
returns-clause-gives c = λ w k o records can possible. occasion_gives w records can k o possible
