use Rattle.std.proofs.Common.{◌∙◌, ap}
use Rattle.ba_node_plans.proofs.Ticked.{next_is, next_is_there}
use Rattle.ba_node_steps.specs.Steps.{same_part_state}
use Rattle.ba_node_plans.proofs.ticks.stays_at_tick.Goals as goal

pub returns-in-None : goal.returns-in-None
returns-in-None c up = absurd (next_is_there c.args.found.now.scope.now c.args.found.now.part.now c.in-None.ensures up)

pub returns-in-Some : goal.returns-in-Some
returns-in-Some c up =
    let f = c.args.found.now in
    c.same_part.ensures ∙ ap (same_part_state f.part.now.state) (next_is f.scope.now f.part.now c.in-Some.next c.in-Some.ensures up)
