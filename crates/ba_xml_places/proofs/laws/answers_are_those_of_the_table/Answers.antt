use Rattle.ba_xml_places.proofs.Answering.{holds}
use Rattle.ba_xml_places.proofs.laws.answers_are_those_of_the_table.Goals as goal

pub returns : goal.returns
returns c = holds
