use Rattle.ba_wire_limits.proofs.EncodedReplies.{reply_can_be_encoded, reply_has_envelope}
use Rattle.ba_wire_limits.proofs.laws.replies_can_be_encoded.Goals as goal

pub returns : goal.returns
returns c = record {
  envelope = λ related reply bare is. reply_has_envelope related bare reply is;
  encoding = λ related reply short is. reply_can_be_encoded related short reply is;
}
