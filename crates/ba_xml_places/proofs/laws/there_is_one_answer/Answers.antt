use Rattle.ba_xml_places.proofs.Answering.{holds, is_one}
use Rattle.ba_xml_places.proofs.laws.there_is_one_answer.Goals as goal
use Rattle.ba_xml_reader.specs.inside.Machine.{xml_answer}

pub returns-clause-some : goal.returns-clause-some
returns-clause-some c = λ bytes. (xml_answer bytes, holds bytes)

pub returns-clause-one : goal.returns-clause-one
returns-clause-one c = is_one
