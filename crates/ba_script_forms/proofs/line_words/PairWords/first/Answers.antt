use Rattle.ba_script_forms.proofs.FirstWords.{pair_if_some, pair_if_none}
use Rattle.ba_script_forms.proofs.line_words.PairWords.first.Goals as goal

pub returns-clause-some : goal.returns-clause-some
returns-clause-some c = pair_if_some c.verb_of.result c.args.word.now c.verb_of.ensures.told c.verb_of.ensures.begins

pub returns-clause-none : goal.returns-clause-none
returns-clause-none c = pair_if_none c.verb_of.result c.args.word.now c.verb_of.ensures.none
