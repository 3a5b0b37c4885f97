use Rattle.std.proofs.Common.{refl}
use Rattle.ba_world.proofs.StageAnswers.{stage_at_start}
use Rattle.ba_world.proofs.stages.Stage.make.Goals as goal

pub returns : goal.returns
returns c = stage_at_start _ c.args.nodes c.ranges.nodes.fits refl c.new.ensures c.in_ok-first_places.ensures
