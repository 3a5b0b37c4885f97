use Rattle.std.proofs.Common.{◌+◌, ◌-◌, ◌≤◌, ◌∙◌, length, drop, length-take, arith}
use Rattle.std.proofs.KnownBytes.{Appends-trans}
use Rattle.ba_ports.proofs.Due.{keeps_appends, part_so_far, longer_front, takes_some}
use Rattle.ba_ports.proofs.outputs.write_all.Goals as goal

pub returns-in-Ok-eq0-clause-part : goal.returns-in-Ok-eq0-clause-part
returns-in-Ok-eq0-clause-part g c =
    part_so_far (g.K.Sink.written c.args.sink.now) (g.K.Sink.written c.pieces.sink)
    (g.K.Sink.written c.write.new.self) c.args.bytes.now c.pieces.at
    c.pieces.invariant.front (rw c.in-Ok-eq0.field-0-test at c.in-Ok-eq0.ensures.bytes)

pub pieces-preserved : goal.pieces-preserved
pieces-preserved g c =
    let within : c.pieces.at + c.in-Ok.count ≤ length c.args.bytes.now = omega
    (arith, c.in-Ok.ensures.bound, length-take (length c.args.bytes.now - c.pieces.at) (drop c.pieces.at c.args.bytes.now)) in
    record {
      within = within;
      front = rw (← longer_front c.args.bytes.now c.pieces.at c.in-Ok.count within)
          (Appends-trans (g.K.Sink.written c.args.sink.now) (g.K.Sink.written c.pieces.sink)
          (g.K.Sink.written c.write.new.self) _ _ c.pieces.invariant.front c.in-Ok.ensures.bytes);
      stayed = c.in-Ok.ensures.cause.stayed (takes_some c.in-Ok.count _ c.in-Ok.count-test.1) ∙ c.pieces.invariant.stayed;
    }

pub returns-in-Err-clause-part : goal.returns-in-Err-clause-part
returns-in-Err-clause-part g c =
    part_so_far (g.K.Sink.written c.args.sink.now) (g.K.Sink.written c.pieces.sink)
    (g.K.Sink.written c.write.new.self) c.args.bytes.now c.pieces.at
    c.pieces.invariant.front (keeps_appends (g.K.Sink.written c.pieces.sink) (g.K.Sink.written c.write.new.self) c.in-Err.ensures.bytes)
