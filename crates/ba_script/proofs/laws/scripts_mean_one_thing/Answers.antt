use Rattle.ba_script.proofs.OneReading.{script_is_one, pair_is_one, script_not_bad, bad_is_one, script_not_long, long_not_bad}
use Rattle.ba_script.proofs.SomeReading.{text_is_some}
use Rattle.ba_script.proofs.laws.scripts_mean_one_thing.Goals as goal

pub returns-clause-some : goal.returns-clause-some
returns-clause-some c = text_is_some

pub returns-clause-one : goal.returns-clause-one
returns-clause-one c = script_is_one

pub returns-clause-one_pair : goal.returns-clause-one_pair
returns-clause-one_pair c = pair_is_one

pub returns-clause-bad : goal.returns-clause-bad
returns-clause-bad c = script_not_bad

pub returns-clause-one_bad : goal.returns-clause-one_bad
returns-clause-one_bad c = bad_is_one

pub returns-clause-long : goal.returns-clause-long
returns-clause-long c = script_not_long

pub returns-clause-long_bad : goal.returns-clause-long_bad
returns-clause-long_bad c = long_not_bad
