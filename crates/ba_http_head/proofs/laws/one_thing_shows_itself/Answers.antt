use Rattle.ba_http_head.proofs.Once.{first_of, shows_once}
use Rattle.ba_http_head.proofs.laws.one_thing_shows_itself.Goals as goal

pub returns-clause-once : goal.returns-clause-once
returns-clause-once c = shows_once

pub returns-clause-settled : goal.returns-clause-settled
returns-clause-settled c = λ heading bytes n shown within shows all.
    all n within (first_of heading _ shown shows).0
