use Rattle.std.proofs.Common.{subst}
use Rattle.ba_core.specs.declared.rows.PRow.{PRow}
use Rattle.ba_scope.specs.Fits.{ScopeFits}
use Rattle.ba_scope.specs.Rules.{ScopeStep}
use Rattle.ba_scope.proofs.Calls.{up_receive_fits}
use Rattle.ba_scope.proofs.scopes.Scope.up_receive.Goals as goal

pub invariant_of-self : goal.invariant_of-self
invariant_of-self c =
    subst (λ (r : ScopeStep PRow). ScopeFits r.after) c.up_receive.ensures
    (up_receive_fits c.self.inside.fields c.args.notice c.self.invariant)
