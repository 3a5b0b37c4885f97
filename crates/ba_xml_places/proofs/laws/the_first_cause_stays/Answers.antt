use Rattle.ba_xml_places.proofs.Answering.{stays_first}
use Rattle.ba_xml_places.proofs.laws.the_first_cause_stays.Goals as goal

pub returns : goal.returns
returns c = stays_first
