use Rattle.std.proofs.Common.{arith, rules}
use Rattle.ba_core.proofs.Decimals.{digits_of_zero}
use Rattle.ba_core.proofs.numbers.number_of.Goals as goal

pub returns-then-eq-clause-some : goal.returns-then-eq-clause-some
returns-then-eq-clause-some c = (digits_of_zero c.args.digits.now (search rules), omega arith)
