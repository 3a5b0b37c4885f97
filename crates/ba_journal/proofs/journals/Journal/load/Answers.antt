use Rattle.std.proofs.Common.{Err, ap}
use Rattle.ba_journal.proofs.journals.Journal.load.Goals as goal

pub returns-in-Err-clause-refused : goal.returns-in-Err-clause-refused
returns-in-Err-clause-refused g c = λ follows place is. c.in-Err.ensures.refused follows place (ap Err is)
