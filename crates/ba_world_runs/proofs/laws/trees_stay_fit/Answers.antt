use Rattle.ba_world_runs.proofs.TreeSteps.{trees_fit}
use Rattle.ba_world_runs.proofs.laws.trees_stay_fit.Goals as goal

pub returns : goal.returns
returns c = trees_fit
