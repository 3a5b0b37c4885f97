use Rattle.ba_wire_limits.proofs.FitEnvelopes.{keeps_rules}
use Rattle.ba_wire_limits.proofs.ReadMessages.{can_encode, has_envelope}
use Rattle.ba_wire_limits.proofs.laws.what_was_read_can_be_written.Goals as goal

pub returns : goal.returns
returns c = record { envelope = has_envelope; rules = keeps_rules; encoding = can_encode }
