use Rattle.ba_wire_limits.proofs.EncodedLetters.{letter_can_be_sent}
use Rattle.ba_wire_limits.proofs.PostedLetters.{letter_is_read}
use Rattle.ba_wire_limits.proofs.laws.letters_from_own_endpoints_can_be_encoded.Goals as goal

pub returns : goal.returns
returns c = record { encoding = letter_can_be_sent; reads_back = letter_is_read }
