use Rattle.ba_script_forms.proofs.Choices.{image_if_some, image_if_none}
use Rattle.ba_script_forms.proofs.words.image_in.Goals as goal

pub returns-clause-some : goal.returns-clause-some
returns-clause-some c = image_if_some c.image_of_word.result c.args.word.now c.image_of_word.ensures.some

pub returns-clause-none : goal.returns-clause-none
returns-clause-none c = image_if_none c.image_of_word.result c.args.word.now c.image_of_word.ensures.none
