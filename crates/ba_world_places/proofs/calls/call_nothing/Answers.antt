use Rattle.std.proofs.Common.{subst}
use Rattle.ba_world_places.proofs.CallCases.{lost_down, lost_up}
use Rattle.ba_world_places.specs.Places.{Matches}
use Rattle.ba_world_places.proofs.calls.call_nothing.Goals as goal

pub returns-in-Down : goal.returns-in-Down
returns-in-Down c = λ n disk matches.
    lost_down n disk c.in-Down.disk c.in-Down.known c.rested.result (subst (Matches n disk) c.in-Down.is matches) c.rested.ensures

pub returns-in-Up : goal.returns-in-Up
returns-in-Up c = λ n disk matches.
    lost_up n disk c.in-Up.node c.ready.result (subst (Matches n disk) c.in-Up.is matches) c.ready.ensures.place
