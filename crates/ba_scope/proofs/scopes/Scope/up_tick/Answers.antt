use Rattle.std.proofs.Common.{subst}
use Rattle.ba_scope.specs.Fits.{ScopeFits}
use Rattle.ba_scope_ends.specs.Ends.{Tick}
use Rattle.ba_scope.specs.Scope.{ScopeState}
use Rattle.ba_scope.proofs.Calls.{tick_up_fits}
use Rattle.ba_scope.proofs.scopes.Scope.up_tick.Goals as goal

pub invariant_of-self : goal.invariant_of-self
invariant_of-self c =
    subst (λ (r : Tick ScopeState). ScopeFits r.after) c.up_tick.ensures (tick_up_fits c.self.inside.fields c.self.invariant)
