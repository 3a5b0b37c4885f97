use Rattle.ba_record.proofs.ExactRecords.{reads_back, same_record}
use Rattle.ba_record.proofs.laws.records_are_read_back.Goals as goal

pub returns-clause-reads_back : goal.returns-clause-reads_back
returns-clause-reads_back c = reads_back

pub returns-clause-one_each : goal.returns-clause-one_each
returns-clause-one_each c = same_record
