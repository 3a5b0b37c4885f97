use Rattle.std.proofs.Common.{Ok, Err}
use Rattle.ba_http_head.specs.declared.headings.Heading.TheVariants.{Reply}
use Rattle.ba_http_head.specs.Heads.{answers}
use Rattle.ba_http.proofs.AfterHead.{no_head}
use Rattle.ba_http.proofs.WholeMessages.{whole_message}
use Rattle.ba_http.proofs.replies.read_reply.Goals as goal

pub returns-in-Err-clause-reply : goal.returns-in-Err-clause-reply
returns-in-Err-clause-reply g c =
    no_head Reply (g.K.Link.left c.args.link.now) (g.K.Link.left c.read_reply_head.new.link) c.in-Err.fault c.in-Err.ensures.head

pub returns-in-Ok-read_reply_body-clause-reply : goal.returns-in-Ok-read_reply_body-clause-reply
returns-in-Ok-read_reply_body-clause-reply g c =
    let left = g.K.Link.left in
    let head = c.in-Ok.head in
    whole_message Reply (left c.args.link.now) (left c.read_reply_head.new.link) (left c.read_reply_body.new.link)
    (record { start = answers head.code; length = head.length; rest = head.rest })
    c.new-body.result c.read_reply_body.new.taker c.as_slice.result.now (Ok tt) c.new-body.ensures c.as_slice.ensures c.in-Ok.ensures.head
    c.in-Ok-read_reply_body.ensures.body

pub returns-clause-reply : goal.returns-clause-reply
returns-clause-reply g c =
    let left = g.K.Link.left in
    let head = c.in-Ok.head in
    whole_message Reply (left c.args.link.now) (left c.read_reply_head.new.link) (left c.read_reply_body.new.link)
    (record { start = answers head.code; length = head.length; rest = head.rest })
    c.new-body.result c.read_reply_body.new.taker c.as_slice.result.now (Err c.in-Err-read_reply_body.fault) c.new-body.ensures
    c.as_slice.ensures
    c.in-Ok.ensures.head c.in-Err-read_reply_body.ensures.body
