use Rattle.ba_script_forms.proofs.FirstWords.{world_if_some, world_if_none, world_if_fits}
use Rattle.ba_script_forms.proofs.world_words.WorldWords.first.Goals as goal

pub returns-clause-some : goal.returns-clause-some
returns-clause-some c = world_if_some c.verb_of.result c.args.word.now c.verb_of.ensures.told c.verb_of.ensures.begins

pub returns-clause-none : goal.returns-clause-none
returns-clause-none c = world_if_none c.verb_of.result c.args.word.now c.verb_of.ensures.none

pub returns-clause-fits : goal.returns-clause-fits
returns-clause-fits c = world_if_fits c.verb_of.result c.verb_of.ensures.begins
