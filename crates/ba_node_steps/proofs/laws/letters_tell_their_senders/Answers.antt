use Rattle.ba_node_steps.proofs.LettersSent.{letter_is}
use Rattle.ba_node_steps.proofs.laws.letters_tell_their_senders.Goals as goal

pub returns : goal.returns
returns c = letter_is
