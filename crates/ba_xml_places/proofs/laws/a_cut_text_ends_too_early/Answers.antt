use Rattle.ba_xml_places.proofs.Cuts.{cut}
use Rattle.ba_xml_places.proofs.laws.a_cut_text_ends_too_early.Goals as goal

pub returns : goal.returns
returns c = cut
