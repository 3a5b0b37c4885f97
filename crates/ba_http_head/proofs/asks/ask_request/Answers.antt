use Rattle.std.proofs.Common.{arith, length, ◌∙◌, ap, Err}
use Rattle.ba_http_head.proofs.Ends.{request_many, request_more}
use Rattle.ba_http_head.proofs.asks.ask_request.Goals as goal

pub unreachable-requires : goal.unreachable-requires
unreachable-requires c =
    let room = c.requires.room in
    let few = c.requires.few in
    let over = request_many (length c.args.room.now) c.args.prefix.now
    (c.parse_request.ensures.too_many (c.in-Err-TooManyHeaders.is ∙ ap Err c.in-Err-TooManyHeaders.field-0-is)) in
    omega (arith, room, few, over)

pub returns-in-Ok-Partial : goal.returns-in-Ok-Partial
returns-in-Ok-Partial c =
    let told = rw c.in-Ok-Partial.field-0-is at c.in-Ok-Partial.ensures in
    request_more c.args.prefix.now c.requires.line told.partial told.unfinished
