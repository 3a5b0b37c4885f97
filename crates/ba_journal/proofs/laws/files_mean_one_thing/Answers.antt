use Rattle.ba_journal.proofs.Meanings.{one_list, one_rest, never_both, one_place}
use Rattle.ba_journal.proofs.laws.files_mean_one_thing.Goals as goal

pub returns-clause-one_list : goal.returns-clause-one_list
returns-clause-one_list c = one_list

pub returns-clause-one_rest : goal.returns-clause-one_rest
returns-clause-one_rest c = one_rest

pub returns-clause-never_both : goal.returns-clause-never_both
returns-clause-never_both c = never_both

pub returns-clause-one_place : goal.returns-clause-one_place
returns-clause-one_place c = one_place
