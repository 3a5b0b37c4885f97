use Rattle.ba_wire_limits.proofs.EncodedLetters.{letter_can_be_encoded}
use Rattle.ba_wire_limits.proofs.laws.postable_letters_can_be_encoded.Goals as goal

pub returns : goal.returns
returns c = letter_can_be_encoded
