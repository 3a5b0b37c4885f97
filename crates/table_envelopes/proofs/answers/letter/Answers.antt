use Rattle.ba_wire_limits.proofs.ReadMessages.{decoded_has_envelope}
use Rattle.table_envelopes.proofs.answers.letter.Goals as goal

pub put_letter-requires : goal.put_letter-requires
put_letter-requires c = decoded_has_envelope c.args.bytes.now c.in-Ok.decoded c.in-Ok.ensures.means
