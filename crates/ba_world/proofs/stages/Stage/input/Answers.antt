use Rattle.std.proofs.Common.{ap}
use Rattle.ba_world.proofs.EventLemmas.{input_called, input_made}
use Rattle.ba_world.proofs.PlaceLemmas.{can_be_put}
use Rattle.ba_world.specs.Worlds.{StageValue}
use Rattle.ba_world.proofs.stages.Stage.input.Goals as goal

pub put-requires : goal.put-requires
put-requires c = can_be_put _ _ _ _ c.in_ok-held.ensures.taken

pub returns-clause-called : goal.returns-clause-called
returns-clause-called c = λ p o stage is.
    input_called _ _ _ _ _ _ c.in_ok-held.ensures.taken c.put.ensures p stage c.self.inside.clock
    (ap (λ (v : StageValue). v.clock) c.self.view_is)
    c.args.input c.in_ok-after.answer c.in_ok-after.ensures o is

pub returns-clause-makes : goal.returns-clause-makes
returns-clause-makes c = λ p stage.
    input_made _ _ _ _ _ _ c.in_ok-held.ensures.taken c.put.ensures p stage c.args.input c.is_child.result c.is_child.ensures
    c.next_of-makes.result c.next_of-makes.ensures
