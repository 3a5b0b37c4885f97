use Rattle.ba_xml_reader.proofs.ReadFit.{read_fit}
use Rattle.ba_xml_reader.proofs.laws.what_is_read_is_fit.Goals as goal

pub returns : goal.returns
returns c = read_fit
