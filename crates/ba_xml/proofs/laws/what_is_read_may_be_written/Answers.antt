use Rattle.ba_xml.proofs.Rewritten.{rewritten}
use Rattle.ba_xml.proofs.laws.what_is_read_may_be_written.Goals as goal

pub returns : goal.returns
returns c = rewritten
