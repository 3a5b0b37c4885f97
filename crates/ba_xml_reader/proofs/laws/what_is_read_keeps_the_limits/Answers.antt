use Rattle.ba_xml_reader.proofs.ReadLimits.{within_limits}
use Rattle.ba_xml_reader.proofs.laws.what_is_read_keeps_the_limits.Goals as goal

pub returns : goal.returns
returns c = within_limits
