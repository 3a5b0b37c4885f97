use Rattle.std.proofs.Common.{◌-◌, ap}
use Rattle.ba_http_chunks.specs.declared.chunks.Spot.TheVariants.{Bytes}
use Rattle.ba_http_chunks.proofs.Feeding.{bytes_turned}
use Rattle.ba_http_chunks.proofs.chunks.take_bytes.Goals as goal

pub returns : goal.returns
returns g c =
    let a = c.args in
    let size = c.min-size.result in
    bytes_turned (g.T.Taker.stands a.taker.now) (g.T.Taker.stands c.take.new.self) a.chunks
    (record { spot = Bytes (a.left - c.min-size.result); got = a.chunks.got; count = c.saturating_add.result }) a.left c.min-size.result
    a.piece.now c.requires.here c.requires.more c.requires.some c.min-size.ensures
    (ap (λ k. record { spot = Bytes (a.left - c.min-size.result); got = a.chunks.got; count = k }) c.saturating_add.ensures) c.in-Ok.ensures
