use Rattle.ba_xml_places.proofs.Table.{has_cause}
use Rattle.ba_xml_places.proofs.laws.every_place_is_of_the_table.Goals as goal

pub returns : goal.returns
returns c = has_cause
