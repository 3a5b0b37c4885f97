use Rattle.ba_node.proofs.OwnRecords.{no_journal, refused_records}
use Rattle.ba_node.proofs.laws.a_file_tells_why_it_is_refused.Goals as goal

pub returns-clause-no_journal : goal.returns-clause-no_journal
returns-clause-no_journal c = no_journal

pub returns-clause-records : goal.returns-clause-records
returns-clause-records c = refused_records
