use Rattle.ba_script_forms.proofs.Choices.{protocol_if_some, protocol_if_none}
use Rattle.ba_script_forms.proofs.words.protocol_in.Goals as goal

pub returns-clause-some : goal.returns-clause-some
returns-clause-some c = protocol_if_some c.of_word.result c.args.word.now c.of_word.ensures.some

pub returns-clause-none : goal.returns-clause-none
returns-clause-none c = protocol_if_none c.of_word.result c.args.word.now c.of_word.ensures.none
