use Rattle.ba_wire_limits.proofs.ReadMessages.{decoded_has_envelope}
use Rattle.table_envelopes.proofs.answers.canonical.Goals as goal

pub put_canonical-requires : goal.put_canonical-requires
put_canonical-requires c = decoded_has_envelope c.args.bytes.now c.in-Ok.decoded c.in-Ok.ensures.means
