use Rattle.ba_wire_short.proofs.PostedMessages.{answer_encodes, answer_route, reply_numbered, reply_times}
use Rattle.ba_world.proofs.mails.posted_answer.Goals as goal

pub through_text-requires-clause-encodes : goal.through_text-requires-clause-encodes
through_text-requires-clause-encodes c =
    answer_encodes c.args.number.0 c.in_ok-number_urn.field-0 c.new.result c.args.answer.now c.in_ok-number_urn.ensures c.new.ensures
    c.requires

pub through_text-requires-clause-numbered : goal.through_text-requires-clause-numbered
through_text-requires-clause-numbered c =
    reply_numbered (answer_route c.in_ok-number_urn.field-0 c.new.result) c.args.answer.now c.requires

pub through_text-requires-clause-times : goal.through_text-requires-clause-times
through_text-requires-clause-times c = reply_times c.args.answer.now c.requires
