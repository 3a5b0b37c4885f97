use Rattle.std.proofs.Common.{subst, sym}
use Rattle.ba_scope.specs.Fits.{ScopeFits}
use Rattle.ba_scope.specs.contracts.fields.Fields.{the_view}
use Rattle.ba_scope.proofs.Owned.{own_states}
use Rattle.ba_scope.proofs.fields.Fields.up_receive.Goals as goal

pub set_verdict_if_any-requires : goal.set_verdict_if_any-requires
set_verdict_if_any-requires c = own_states (the_view c.self.inside) (subst ScopeFits (sym c.self.view_is) c.requires.fits)
