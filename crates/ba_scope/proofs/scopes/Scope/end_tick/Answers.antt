use Rattle.std.proofs.Common.{subst}
use Rattle.ba_scope.specs.Fits.{ScopeFits}
use Rattle.ba_scope_ends.specs.Ends.{Tick}
use Rattle.ba_scope.specs.Scope.{ScopeState}
use Rattle.ba_scope.proofs.Calls.{tick_end_fits}
use Rattle.ba_scope.proofs.scopes.Scope.end_tick.Goals as goal

pub invariant_of-self : goal.invariant_of-self
invariant_of-self c =
    subst (λ (r : Tick ScopeState). ScopeFits r.after) c.end_tick.ensures (tick_end_fits c.self.inside.fields c.args.end c.self.invariant)
