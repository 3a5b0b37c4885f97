use Rattle.ba_message.proofs.Dialed.{tells_dialable}
use Rattle.ba_message.proofs.FitTests.{tells_equal, tells_fits}
use Rattle.ba_message.proofs.laws.tests_of_endpoints_are_exact.Goals as goal

pub returns : goal.returns
returns c = record { equal = tells_equal; dialable = tells_dialable; fitting = tells_fits }
