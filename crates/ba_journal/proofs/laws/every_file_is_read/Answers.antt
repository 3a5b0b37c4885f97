use Rattle.ba_journal.proofs.Meanings.{each_read}
use Rattle.ba_journal.proofs.laws.every_file_is_read.Goals as goal

pub returns : goal.returns
returns c = each_read
