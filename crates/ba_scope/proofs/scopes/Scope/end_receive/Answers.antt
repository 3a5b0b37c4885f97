use Rattle.std.proofs.Common.{subst}
use Rattle.ba_core.specs.declared.rows.CRow.{CRow}
use Rattle.ba_scope.specs.Fits.{ScopeFits}
use Rattle.ba_scope.specs.Rules.{ScopeStep}
use Rattle.ba_scope.proofs.Calls.{end_receive_fits}
use Rattle.ba_scope.proofs.scopes.Scope.end_receive.Goals as goal

pub invariant_of-self : goal.invariant_of-self
invariant_of-self c =
    subst (λ (r : ScopeStep CRow). ScopeFits r.after) c.end_receive.ensures
    (end_receive_fits c.self.inside.fields c.args.end c.args.notice c.self.invariant)
