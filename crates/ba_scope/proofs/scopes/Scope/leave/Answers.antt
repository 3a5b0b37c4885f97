use Rattle.std.proofs.Common.{subst}
use Rattle.ba_scope.specs.declared.answers.Said.{Said}
use Rattle.ba_scope.specs.Fits.{ScopeFits}
use Rattle.ba_scope.specs.Rules.{ScopeStep}
use Rattle.ba_scope.proofs.Calls.{leave_fits}
use Rattle.ba_scope.proofs.scopes.Scope.leave.Goals as goal

pub invariant_of-self : goal.invariant_of-self
invariant_of-self c =
    subst (λ (r : ScopeStep Said). ScopeFits r.after) c.leave.ensures (leave_fits c.self.inside.fields c.args.how c.self.invariant)
