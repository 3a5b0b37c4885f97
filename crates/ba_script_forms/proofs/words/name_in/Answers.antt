use Rattle.ba_script_forms.proofs.Names.{name_if_some, name_if_none}
use Rattle.ba_script_forms.proofs.words.name_in.Goals as goal

pub returns-clause-some : goal.returns-clause-some
returns-clause-some c = name_if_some c.of_text.result c.args.word.now c.of_text.ensures.some

pub returns-clause-none : goal.returns-clause-none
returns-clause-none c = name_if_none c.of_text.result c.args.word.now c.of_text.ensures.none
