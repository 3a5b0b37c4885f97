use Rattle.ba_ports_memory.proofs.Turns.{faults_in_turn, run_of_all, run_of_counted, starved_in_turn}
use Rattle.ba_ports_memory.proofs.laws.requests_in_turn_are_run.Goals as goal

pub returns-clause-made : goal.returns-clause-made
returns-clause-made c = λ requests failed calls a b turn leads. run_of_all requests failed calls a b turn leads

pub returns-clause-looks : goal.returns-clause-looks
returns-clause-looks c = λ requests failed calls a b turn leads. run_of_counted requests failed calls a b turn leads

pub returns-clause-faults : goal.returns-clause-faults
returns-clause-faults c = λ requests failed calls a b turn leads. faults_in_turn requests failed calls a b turn leads

pub returns-clause-starved : goal.returns-clause-starved
returns-clause-starved c = λ calls a b leads. starved_in_turn calls a b leads
