use Rattle.ba_world_play.proofs.Holding.{arming_fits, call_fits, opening_fits, stop_fits}
use Rattle.ba_world_play.proofs.laws.disks_hold_their_nodes.Goals as goal

pub returns-clause-call : goal.returns-clause-call
returns-clause-call c = λ n disk o fits in_range. call_fits n o disk fits in_range

pub returns-clause-opening : goal.returns-clause-opening
returns-clause-opening c = opening_fits

pub returns-clause-stop : goal.returns-clause-stop
returns-clause-stop c = stop_fits

pub returns-clause-arming : goal.returns-clause-arming
returns-clause-arming c = arming_fits
