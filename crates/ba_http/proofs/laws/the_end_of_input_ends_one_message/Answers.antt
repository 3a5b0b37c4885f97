use Rattle.ba_http.proofs.AtInput.{at_input, one_at_input, whole_at_input, unfinished_at_input, cut_unfinished}
use Rattle.ba_http.proofs.laws.the_end_of_input_ends_one_message.Goals as goal

pub returns-clause-either : goal.returns-clause-either
returns-clause-either c = at_input

pub returns-clause-once : goal.returns-clause-once
returns-clause-once c = one_at_input

pub returns-clause-whole : goal.returns-clause-whole
returns-clause-whole c = whole_at_input

pub returns-clause-ends : goal.returns-clause-ends
returns-clause-ends c = unfinished_at_input

pub returns-clause-cut : goal.returns-clause-cut
returns-clause-cut c = cut_unfinished
