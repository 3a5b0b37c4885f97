use Rattle.ba_node_steps.proofs.HistoryLemmas.{close_after_completed, end_keeps, scope_keeps}
use Rattle.ba_node_steps.proofs.HistoryLemmas.{tells_its_verdict, told_one, told_one_in_scope}
use Rattle.ba_node_steps.proofs.TellingLemmas.{closes_have_counters, first_closes, first_undone}
use Rattle.ba_node_steps.proofs.TellingLemmas.{second_closes, second_undone, undone_have_counters}
use Rattle.ba_node_steps.proofs.laws.each_node_keeps_its_word.Goals as goal

pub returns-clause-scopes : goal.returns-clause-scopes
returns-clause-scopes c = scope_keeps

pub returns-clause-ends : goal.returns-clause-ends
returns-clause-ends c = end_keeps

pub returns-clause-told : goal.returns-clause-told
returns-clause-told c = tells_its_verdict

pub returns-clause-one : goal.returns-clause-one
returns-clause-one c = told_one

pub returns-clause-one_in_scope : goal.returns-clause-one_in_scope
returns-clause-one_in_scope c = told_one_in_scope

pub returns-clause-completed : goal.returns-clause-completed
returns-clause-completed c = close_after_completed

pub returns-clause-close : goal.returns-clause-close
returns-clause-close c = (closes_have_counters, first_closes, second_closes)

pub returns-clause-undo : goal.returns-clause-undo
returns-clause-undo c = (undone_have_counters, first_undone, second_undone)
