use Rattle.ba_wire.proofs.WrittenMessages.{letter_means, letter_text_means}
use Rattle.ba_wire.proofs.laws.letters_are_read_back.Goals as goal

pub returns-clause-tree : goal.returns-clause-tree
returns-clause-tree c = letter_means

pub returns-clause-text : goal.returns-clause-text
returns-clause-text c = letter_text_means
