use Rattle.ba_world_runs.proofs.SoundRuns.{links_move, links_stay_in_runs, links_stay_there, links_step_in_runs}
use Rattle.ba_world_runs.proofs.laws.each_link_moves_by_its_table.Goals as goal

pub returns-clause-net : goal.returns-clause-net
returns-clause-net c = links_move

pub returns-clause-run : goal.returns-clause-run
returns-clause-run c = links_step_in_runs

pub returns-clause-stays : goal.returns-clause-stays
returns-clause-stays c = links_stay_there

pub returns-clause-stays_in_run : goal.returns-clause-stays_in_run
returns-clause-stays_in_run c = links_stay_in_runs
