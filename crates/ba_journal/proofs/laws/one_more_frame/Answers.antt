use Rattle.ba_journal.proofs.OneMore.{seat_of, behind_it, another, one_more}
use Rattle.ba_journal.proofs.laws.one_more_frame.Goals as goal

pub returns-clause-behind_the_gate : goal.returns-clause-behind_the_gate
returns-clause-behind_the_gate c = λ file records behind rest. behind_it file records (seat_of file records rest) behind

pub returns-clause-another_gate : goal.returns-clause-another_gate
returns-clause-another_gate c = λ file records gate behind rest shut. another file records (seat_of file records rest) gate behind shut

pub returns-clause-open_gate : goal.returns-clause-open_gate
returns-clause-open_gate c = λ file records last rest in_range. one_more file records (seat_of file records rest) last in_range
