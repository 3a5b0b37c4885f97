use Rattle.ba_script_forms.proofs.FirstWords.{opening_if_some, opening_if_none, opening_if_alone}
use Rattle.ba_script_forms.proofs.line_words.OpeningWords.first.Goals as goal

pub returns-clause-some : goal.returns-clause-some
returns-clause-some c = opening_if_some c.opening_of.result c.args.word.now c.opening_of.ensures.told c.opening_of.ensures.begins

pub returns-clause-none : goal.returns-clause-none
returns-clause-none c = opening_if_none c.opening_of.result c.args.word.now c.opening_of.ensures.none

pub returns-clause-alone : goal.returns-clause-alone
returns-clause-alone c = opening_if_alone c.opening_of.result c.args.word.now c.opening_of.ensures.told c.opening_of.ensures.begins
