use Rattle.std.proofs.Common.{refl}
use Rattle.ba_world_play.proofs.Spent.{call_spends, lost_spends, opening_spends}
use Rattle.ba_world_play.proofs.laws.calls_spend_what_is_armed.Goals as goal

pub returns-clause-call : goal.returns-clause-call
returns-clause-call c = call_spends

pub returns-clause-lost : goal.returns-clause-lost
returns-clause-lost c = lost_spends

pub returns-clause-opening : goal.returns-clause-opening
returns-clause-opening c = opening_spends

pub returns-clause-stop : goal.returns-clause-stop
returns-clause-stop c = λ n disk. refl

pub returns-clause-arming : goal.returns-clause-arming
returns-clause-arming c = λ armament n disk. refl
