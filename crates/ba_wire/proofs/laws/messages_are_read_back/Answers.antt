use Rattle.ba_wire.proofs.WrittenMessages.{text_means, tree_means}
use Rattle.ba_wire.proofs.laws.messages_are_read_back.Goals as goal

pub returns-clause-tree : goal.returns-clause-tree
returns-clause-tree c = tree_means

pub returns-clause-text : goal.returns-clause-text
returns-clause-text c = text_means
