use Rattle.ba_xml_places.proofs.Viable.{viable}
use Rattle.ba_xml_places.proofs.laws.what_is_taken_can_be_continued.Goals as goal

pub returns : goal.returns
returns c = viable
