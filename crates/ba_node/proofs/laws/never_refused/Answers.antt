use Rattle.ba_node.proofs.OwnRecords.{own_file, own_records}
use Rattle.ba_node.proofs.laws.never_refused.Goals as goal

pub returns-clause-records : goal.returns-clause-records
returns-clause-records c = own_records

pub returns-clause-file : goal.returns-clause-file
returns-clause-file c = own_file
