use Rattle.std.proofs.Common.{◌≡◌, min, length}
use Rattle.ba_http_body.proofs.Counting.{stops_after, after_hand}
use Rattle.ba_http_body.proofs.counted_bodies.read_counted.Goals as goal

pub returns-in-Ok-vec-clause-body : goal.returns-in-Ok-vec-clause-body
returns-in-Ok-vec-clause-body g c =
    let b = c.count_by.ensures.body in
    let is : c.min-first.result ≡ min c.args.count (length c.args.hand.now) = c.min-first.ensures in
    let hand = c.args.hand.now in (
      b.0,
      b.1,
      stops_after hand b.0 c.args.count c.min-first.result is b.2,
      after_hand hand b.0 c.args.count c.min-first.result is (g.T.Taker.stands c.args.taker.now) (g.T.Taker.stands c.take.new.self)
          (g.T.Taker.stands c.count_by.new.taker) (g.K.Link.left c.count_by.new.link) c.count_by.result c.in-Ok.ensures b.3,
    )
