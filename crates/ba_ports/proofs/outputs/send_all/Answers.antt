use Rattle.std.proofs.Common.{◌+◌, ◌-◌, ◌≤◌, ◌∙◌, length, drop, length-take, arith}
use Rattle.std.proofs.KnownBytes.{Appends-trans, Keeps-trans}
use Rattle.ba_ports.proofs.Due.{keeps_appends, part_so_far, longer_front, takes_some}
use Rattle.ba_ports.proofs.outputs.send_all.Goals as goal

pub returns-in-Ok-eq0-clause-part : goal.returns-in-Ok-eq0-clause-part
returns-in-Ok-eq0-clause-part g c =
    part_so_far (g.L.Link.written c.args.link.now) (g.L.Link.written c.pieces.link)
    (g.L.Link.written c.write.new.self) c.args.bytes.now c.pieces.at
    c.pieces.invariant.front (rw c.in-Ok-eq0.field-0-test at c.in-Ok-eq0.ensures.bytes)

pub pieces-preserved : goal.pieces-preserved
pieces-preserved g c =
    let within : c.pieces.at + c.in-Ok.taken ≤ length c.args.bytes.now = omega
    (arith, c.in-Ok.ensures.bound, length-take (length c.args.bytes.now - c.pieces.at) (drop c.pieces.at c.args.bytes.now)) in
    record {
      within = within;
      front = rw (← longer_front c.args.bytes.now c.pieces.at c.in-Ok.taken within)
          (Appends-trans (g.L.Link.written c.args.link.now) (g.L.Link.written c.pieces.link)
          (g.L.Link.written c.write.new.self) _ _ c.pieces.invariant.front c.in-Ok.ensures.bytes);
      others = Keeps-trans (g.L.Link.left c.args.link.now) (g.L.Link.left c.pieces.link)
          (g.L.Link.left c.write.new.self) c.pieces.invariant.others c.in-Ok.ensures.others;
      stayed = c.in-Ok.ensures.cause.stayed (takes_some c.in-Ok.taken _ c.in-Ok.taken-test.1) ∙ c.pieces.invariant.stayed;
    }

pub returns-in-Err-clause-part : goal.returns-in-Err-clause-part
returns-in-Err-clause-part g c =
    part_so_far (g.L.Link.written c.args.link.now) (g.L.Link.written c.pieces.link)
    (g.L.Link.written c.write.new.self) c.args.bytes.now c.pieces.at
    c.pieces.invariant.front (keeps_appends (g.L.Link.written c.pieces.link) (g.L.Link.written c.write.new.self) c.in-Err.ensures.bytes)
