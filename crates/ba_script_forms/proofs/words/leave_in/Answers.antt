use Rattle.ba_script_forms.proofs.Choices.{leave_if_some, leave_if_none}
use Rattle.ba_script_forms.proofs.words.leave_in.Goals as goal

pub returns-clause-some : goal.returns-clause-some
returns-clause-some c = leave_if_some c.leave_of_word.result c.args.word.now c.leave_of_word.ensures.some

pub returns-clause-none : goal.returns-clause-none
returns-clause-none c = leave_if_none c.leave_of_word.result c.args.word.now c.leave_of_word.ensures.none
