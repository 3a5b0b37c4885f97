use Rattle.std.proofs.Common.{◌+◌, ◌<◌, length, arith}
use Rattle.ba_http_head.specs.declared.lengths.TheConstants.{MOST_BODY}
use Rattle.ba_http_body.proofs.Counting.{stops_after_all, after_all}
use Rattle.ba_http_body.proofs.remaining_bodies.read_remaining.Goals as goal

pub returns-in-Ok-vec-clause-body : goal.returns-in-Ok-vec-clause-body
returns-in-Ok-vec-clause-body g c =
    let b = c.remaining_by.ensures.body in
    let hand = c.args.hand.now in
    let within : length hand < MOST_BODY + 1 = omega arith in (
      b.0,
      b.1,
      stops_after_all hand b.0 (MOST_BODY + 1) within b.2,
      after_all hand b.0 (MOST_BODY + 1) within (g.T.Taker.stands c.args.taker.now) (g.T.Taker.stands c.take.new.self)
          (g.T.Taker.stands c.remaining_by.new.taker) (g.K.Link.left c.remaining_by.new.link) c.remaining_by.result c.in-Ok.ensures b.3,
    )
