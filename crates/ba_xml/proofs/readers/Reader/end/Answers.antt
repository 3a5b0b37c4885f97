use Rattle.std.proofs.Common.{sym, subst}
use Rattle.ba_xml.proofs.Feeding.{ended}
use Rattle.ba_xml_grammar.specs.Places.{IsAnswerOf}
use Rattle.ba_xml.proofs.readers.Reader.end.Goals as goal

pub returns-clause-answer : goal.returns-clause-answer
returns-clause-answer c = λ bytes fed. subst (λ answer. IsAnswerOf bytes answer) (sym c.answer.ensures)
    (ended c.args.self.progress bytes fed)
