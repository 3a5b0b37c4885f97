use Rattle.ba_wire_short.proofs.PostedMessages.{answer_encodes, answer_route, reply_numbered, reply_times}
use Rattle.ba_wire_short.proofs.codec.as_reply.Goals as goal

pub same_text-requires-clause-encodes : goal.same_text-requires-clause-encodes
same_text-requires-clause-encodes c =
    answer_encodes c.args.number.0 c.in_ok-number_urn.field-0 c.new.result c.args.message c.in_ok-number_urn.ensures c.new.ensures
    c.requires

pub same_text-requires-clause-numbered : goal.same_text-requires-clause-numbered
same_text-requires-clause-numbered c =
    reply_numbered (answer_route c.in_ok-number_urn.field-0 c.new.result) c.args.message c.requires

pub same_text-requires-clause-times : goal.same_text-requires-clause-times
same_text-requires-clause-times c = reply_times c.args.message c.requires
