use Rattle.ba_ports_memory.proofs.Turns.{run_of_both}
use Rattle.ba_ports_memory.proofs.laws.a_run_goes_on.Goals as goal

pub returns : goal.returns
returns c = λ first second m. run_of_both first second m
