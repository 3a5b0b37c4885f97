use Rattle.ba_script_forms.proofs.Choices.{kind_if_some, kind_if_none}
use Rattle.ba_script_forms.proofs.words.kind_in.Goals as goal

pub returns-clause-some : goal.returns-clause-some
returns-clause-some c = kind_if_some c.of_word.result c.args.word.now c.of_word.ensures.some

pub returns-clause-none : goal.returns-clause-none
returns-clause-none c = kind_if_none c.of_word.result c.args.word.now c.of_word.ensures.none
