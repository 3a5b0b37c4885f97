use Rattle.ba_ports_memory.proofs.Turns.{none_fails, runs_well, runs_untroubled}
use Rattle.ba_ports_memory.proofs.laws.nothing_fails_by_itself.Goals as goal

pub returns-clause-call : goal.returns-clause-call
returns-clause-call c = λ request m free. none_fails request m free

pub returns-clause-run : goal.returns-clause-run
returns-clause-run c = λ requests m free. runs_well requests m free

pub returns-clause-stays : goal.returns-clause-stays
returns-clause-stays c = λ requests m free. runs_untroubled requests m free
