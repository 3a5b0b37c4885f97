use Rattle.std.proofs.Common.{ap}
use Rattle.ba_world.proofs.EventLemmas.{tick_called}
use Rattle.ba_world.proofs.PlaceLemmas.{can_be_put}
use Rattle.ba_world.specs.Worlds.{StageValue}
use Rattle.ba_world.proofs.stages.Stage.tick_object.Goals as goal

pub put-requires : goal.put-requires
put-requires c = can_be_put _ _ _ _ c.in_ok-held.ensures.taken

pub returns-clause-called : goal.returns-clause-called
returns-clause-called c = λ p stage.
    tick_called _ _ _ _ _ _ c.in_ok-held.ensures.taken c.put.ensures p stage c.self.inside.clock
    (ap (λ (v : StageValue). v.clock) c.self.view_is)
    c.args.id c.node-node.ensures c.in_ok-after.answer c.in_ok-after.ensures
