use Rattle.std.proofs.Common.{subst}
use Rattle.ba_scope.specs.declared.answers.Said.{Said}
use Rattle.ba_scope.specs.Fits.{ScopeFits}
use Rattle.ba_scope.specs.Rules.{ScopeStep}
use Rattle.ba_scope.proofs.Calls.{choose_fits}
use Rattle.ba_scope.proofs.scopes.Scope.choose.Goals as goal

pub invariant_of-self : goal.invariant_of-self
invariant_of-self c =
    subst (λ (r : ScopeStep Said). ScopeFits r.after) c.choose.ensures
    (choose_fits c.self.inside.fields c.args.end c.args.verdict c.self.invariant)
