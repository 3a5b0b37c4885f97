use Rattle.ba_xml_reader.proofs.Dead.{dead}
use Rattle.ba_xml_words.specs.declared.faults.Reason.TheVariants as reason
use Rattle.ba_xml_reader.proofs.laws.refused_fronts_are_dead.Goals as goal

pub returns-clause-utf8 : goal.returns-clause-utf8
returns-clause-utf8 c = λ bytes place is. dead bytes reason.NotUtf8 place tt is

pub returns-clause-syntax : goal.returns-clause-syntax
returns-clause-syntax c = λ bytes place is. dead bytes reason.Syntax place tt is
