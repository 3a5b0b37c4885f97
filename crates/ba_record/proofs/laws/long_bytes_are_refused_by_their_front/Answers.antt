use Rattle.std.proofs.Common.{arith}
use Rattle.ba_record.proofs.LongBytes.{told_by_front}
use Rattle.ba_record.proofs.laws.long_bytes_are_refused_by_their_front.Goals as goal

pub returns-clause-same : goal.returns-clause-same
returns-clause-same c = λ bytes long are. (told_by_front 65542 bytes (omega arith) (omega (arith, long)) are).0

pub returns-clause-refused : goal.returns-clause-refused
returns-clause-refused c = λ bytes long are. (told_by_front 65542 bytes (omega arith) (omega (arith, long)) are).1
