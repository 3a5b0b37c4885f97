use Rattle.ba_message.proofs.OwnEndpoints.{own_endpoint_fits}
use Rattle.ba_wire_short.proofs.glances.is_postable.Goals as goal

pub returns-then-is_own : goal.returns-then-is_own
returns-then-is_own c passes =
    let own = c.is_own.ensures c.if-is_own.true in
    record {
      fits = own_endpoint_fits c.args.letter.now.to own;
      dialable = own.dialable;
      message = c.is_postable_message.ensures passes;
    }
