use Rattle.ba_world_play.proofs.Leading.{arrives_there, brings_there}
use Rattle.ba_world_play.proofs.laws.messages_arrive_where_they_lead.Goals as goal

pub returns-clause-arrives : goal.returns-clause-arrives
returns-clause-arrives c = arrives_there

pub returns-clause-brings : goal.returns-clause-brings
returns-clause-brings c = brings_there
