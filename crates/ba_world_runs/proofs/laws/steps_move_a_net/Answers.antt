use Rattle.ba_world_runs.proofs.Nets.{bag_grows, net_moves, records_grow}
use Rattle.ba_world_runs.proofs.laws.steps_move_a_net.Goals as goal

pub returns-clause-moves : goal.returns-clause-moves
returns-clause-moves c = net_moves

pub returns-clause-sent : goal.returns-clause-sent
returns-clause-sent c = bag_grows

pub returns-clause-records : goal.returns-clause-records
returns-clause-records c = records_grow
