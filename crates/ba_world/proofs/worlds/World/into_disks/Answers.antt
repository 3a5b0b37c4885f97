use Rattle.std.proofs.Common.{sym, subst}
use Rattle.std.proofs.lemmas.Result.{IfOk-weaker}
use Rattle.ba_world.specs.Worlds.{IsStageOf, WorldValue}
use Rattle.ba_world.proofs.worlds.World.into_disks.Goals as goal

pub returns : goal.returns
returns c =
    IfOk-weaker c.into_disks.result _ _
    (λ disks each p world. each p (subst (λ (w : WorldValue). IsStageOf w.stage p) (sym c.self.view_is) world.1)) c.into_disks.ensures
