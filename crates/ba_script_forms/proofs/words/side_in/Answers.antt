use Rattle.ba_script_forms.proofs.Choices.{side_if_some, side_if_none}
use Rattle.ba_script_forms.proofs.words.side_in.Goals as goal

pub returns-clause-some : goal.returns-clause-some
returns-clause-some c = side_if_some c.side_of.result c.args.word.now c.side_of.ensures.some

pub returns-clause-none : goal.returns-clause-none
returns-clause-none c = side_if_none c.side_of.result c.args.word.now c.side_of.ensures.none
