use Rattle.ba_xml_reader.proofs.Sound.{sound}
use Rattle.ba_xml_reader.proofs.laws.what_is_read_is_a_text.Goals as goal

pub returns : goal.returns
returns c = sound
