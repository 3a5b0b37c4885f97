use Rattle.ba_soap.specs.Envelopes.{soap11}
use Rattle.ba_wire.specs.Meaning.{tree_answer}
use Rattle.ba_wire.proofs.Answered.{err_is_due, ok_is_meant}
use Rattle.ba_wire.proofs.meaning.decode_tree.Goals as goal

pub returns-clause-means : goal.returns-clause-means
returns-clause-means c = ok_is_meant (tree_answer soap11 c.args.tree.now) c.answer.result c.answer.ensures

pub returns-clause-refusal : goal.returns-clause-refusal
returns-clause-refusal c = err_is_due (tree_answer soap11 c.args.tree.now) c.answer.result c.answer.ensures
