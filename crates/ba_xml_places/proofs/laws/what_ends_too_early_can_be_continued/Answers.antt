use Rattle.ba_xml_places.proofs.Exact.{early_continues}
use Rattle.ba_xml_places.proofs.laws.what_ends_too_early_can_be_continued.Goals as goal

pub returns : goal.returns
returns c = early_continues
