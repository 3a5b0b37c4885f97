use Rattle.ba_wire.proofs.TextAnswers.{err_is_no_message, meant_is_answered, ok_is_meant}
use Rattle.ba_wire_short.proofs.codec.decode.Goals as goal

pub returns-clause-means : goal.returns-clause-means
returns-clause-means c = ok_is_meant c.args.bytes.now c.answer.result c.answer.ensures

pub returns-clause-only : goal.returns-clause-only
returns-clause-only c = meant_is_answered c.args.bytes.now c.answer.result c.answer.ensures

pub returns-clause-refusal : goal.returns-clause-refusal
returns-clause-refusal c = err_is_no_message c.args.bytes.now c.answer.result c.answer.ensures
