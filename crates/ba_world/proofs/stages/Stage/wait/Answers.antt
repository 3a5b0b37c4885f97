use Rattle.std.proofs.Common.{refl, sym, subst, arith}
use Rattle.ba_world.proofs.EventLemmas.{waited}
use Rattle.ba_world.specs.Worlds.{IsSetAs, StageValue}
use Rattle.ba_world.specs.contracts.stages.Stage.{the_view}
use Rattle.ba_world.proofs.stages.Stage.wait.Goals as goal

pub returns : goal.returns
returns c = λ p stage. (
  refl,
  waited (the_view c.self.inside) p (subst (λ (v : StageValue). IsSetAs v p) (sym c.self.view_is) stage.set) c.args.time
      c.saturating_add-self-inside.result (omega (arith, c.saturating_add-self-inside.ensures, c.from.ensures)),
)
