use Rattle.ba_http_head.specs.declared.headings.Heading.TheVariants.{Request, Reply}
use Rattle.ba_http.proofs.MessagesShow.{some_head, some_body, some_message}
use Rattle.ba_http.proofs.laws.any_bytes_say_something.Goals as goal

pub returns-clause-head : goal.returns-clause-head
returns-clause-head c = some_head

pub returns-clause-body : goal.returns-clause-body
returns-clause-body c = some_body

pub returns-clause-request : goal.returns-clause-request
returns-clause-request c = λ bytes. some_message Request bytes tt

pub returns-clause-reply : goal.returns-clause-reply
returns-clause-reply c = λ bytes. some_message Reply bytes tt
