use Rattle.ba_scope.proofs.Sealed.{stays_sealed}
use Rattle.ba_scope.proofs.laws.what_is_sealed_stays_sealed.Goals as goal

pub returns : goal.returns
returns c = stays_sealed
