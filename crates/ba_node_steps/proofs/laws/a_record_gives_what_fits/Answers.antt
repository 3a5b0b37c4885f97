use Rattle.ba_node_steps.proofs.RecordsGive.{after_reaches, gives_fit}
use Rattle.ba_node_steps.proofs.laws.a_record_gives_what_fits.Goals as goal

pub returns-clause-fits : goal.returns-clause-fits
returns-clause-fits c = gives_fit

pub returns-clause-reachable : goal.returns-clause-reachable
returns-clause-reachable c = after_reaches
