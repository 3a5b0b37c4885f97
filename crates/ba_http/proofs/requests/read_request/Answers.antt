use Rattle.std.proofs.Common.{Some, Ok, Err}
use Rattle.ba_http_head.specs.declared.headings.Heading.TheVariants.{Request}
use Rattle.ba_http_head.specs.Heads.{asks}
use Rattle.ba_http.proofs.AfterHead.{no_head}
use Rattle.ba_http.proofs.WholeMessages.{whole_message}
use Rattle.ba_http.proofs.requests.read_request.Goals as goal

pub returns-in-Err-clause-request : goal.returns-in-Err-clause-request
returns-in-Err-clause-request g c =
    no_head Request (g.K.Link.left c.args.link.now) (g.K.Link.left c.read_head.new.link) c.in-Err.fault c.in-Err.ensures.head

pub returns-in-Ok-read_body-clause-request : goal.returns-in-Ok-read_body-clause-request
returns-in-Ok-read_body-clause-request g c =
    let left = g.K.Link.left in
    let head = c.in-Ok.head in
    whole_message Request (left c.args.link.now) (left c.read_head.new.link) (left c.read_body.new.link)
    (record { start = asks head.method head.path; length = Some head.length; rest = head.rest })
    c.new-body.result c.read_body.new.taker c.as_slice.result.now (Ok tt) c.new-body.ensures c.as_slice.ensures c.in-Ok.ensures.head
    c.in-Ok-read_body.ensures.body

pub returns-in-Err-read_body-clause-request : goal.returns-in-Err-read_body-clause-request
returns-in-Err-read_body-clause-request g c =
    let left = g.K.Link.left in
    let head = c.in-Ok.head in
    whole_message Request (left c.args.link.now) (left c.read_head.new.link) (left c.read_body.new.link)
    (record { start = asks head.method head.path; length = Some head.length; rest = head.rest })
    c.new-body.result c.read_body.new.taker c.as_slice.result.now (Err c.in-Err-read_body.fault) c.new-body.ensures c.as_slice.ensures
    c.in-Ok.ensures.head c.in-Err-read_body.ensures.body
