use Rattle.ba_script_forms.proofs.Back.{line_is_one}
use Rattle.ba_script_forms.proofs.Meanings.{line_means, line_is_good}
use Rattle.ba_script_forms.proofs.laws.lines_mean_one_thing.Goals as goal

pub returns-clause-some : goal.returns-clause-some
returns-clause-some c = line_means

pub returns-clause-one : goal.returns-clause-one
returns-clause-one c = line_is_one

pub returns-clause-bad : goal.returns-clause-bad
returns-clause-bad c = λ chosen r line column is bad. absurd (cc (line_is_good chosen r line is))
