use Rattle.ba_http_chunks.proofs.Sights.{sights_once, sight_settles}
use Rattle.ba_http_chunks.proofs.laws.one_thing_shows_itself_of_a_body.Goals as goal

pub returns-clause-once : goal.returns-clause-once
returns-clause-once c = sights_once

pub returns-clause-settled : goal.returns-clause-settled
returns-clause-settled c = sight_settles
