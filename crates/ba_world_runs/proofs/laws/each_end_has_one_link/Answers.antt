use Rattle.ba_world_runs.proofs.SafeLemmas.{run_one_link, run_own_end, run_scope_fits}
use Rattle.ba_world_runs.proofs.laws.each_end_has_one_link.Goals as goal

pub returns-clause-ends : goal.returns-clause-ends
returns-clause-ends c = run_one_link

pub returns-clause-parts : goal.returns-clause-parts
returns-clause-parts c = run_own_end

pub returns-clause-scopes : goal.returns-clause-scopes
returns-clause-scopes c = run_scope_fits
