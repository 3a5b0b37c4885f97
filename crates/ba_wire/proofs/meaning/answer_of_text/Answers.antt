use Rattle.ba_wire.proofs.TextAnswers.{fault_read, tree_read}
use Rattle.ba_wire.proofs.meaning.answer_of_text.Goals as goal

pub returns-in-Err : goal.returns-in-Err
returns-in-Err c = fault_read c.args.bytes.now c.in-Err.fault c.unread.result c.in-Err.ensures.answer c.unread.ensures

pub returns-in-Ok : goal.returns-in-Ok
returns-in-Ok c = tree_read c.args.bytes.now c.in-Ok.tree c.answer.result c.in-Ok.ensures.answer c.answer.ensures
