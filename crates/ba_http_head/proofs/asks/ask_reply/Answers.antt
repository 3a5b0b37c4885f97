use Rattle.std.proofs.Common.{arith, length, ◌∙◌, ap, Err}
use Rattle.ba_http_head.proofs.Ends.{response_many}
use Rattle.ba_http_head.proofs.asks.ask_reply.Goals as goal

pub unreachable-requires : goal.unreachable-requires
unreachable-requires c =
    let room = c.requires.room in
    let few = c.requires.few in
    let over = response_many (length c.args.room.now) c.args.prefix.now
    (c.parse_response.ensures.too_many (c.in-Err-TooManyHeaders.is ∙ ap Err c.in-Err-TooManyHeaders.field-0-is)) in
    omega (arith, room, few, over)
