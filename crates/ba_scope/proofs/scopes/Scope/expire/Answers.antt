use Rattle.std.proofs.Common.{Bool, subst}
use Rattle.ba_scope.specs.Fits.{ScopeFits}
use Rattle.ba_scope.specs.Rules.{ScopeStep}
use Rattle.ba_scope.proofs.Calls.{expire_fits}
use Rattle.ba_scope.proofs.scopes.Scope.expire.Goals as goal

pub invariant_of-self : goal.invariant_of-self
invariant_of-self c =
    subst (λ (r : ScopeStep Bool). ScopeFits r.after) c.expire.ensures (expire_fits c.self.inside.fields c.args.now c.self.invariant)
