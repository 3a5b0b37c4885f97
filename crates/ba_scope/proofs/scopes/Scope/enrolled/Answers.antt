use Rattle.std.proofs.Common.{IsTrue, subst, sym}
use Rattle.ba_scope.specs.Fits.{ScopeFits}
use Rattle.ba_scope_ends.specs.Parts.{is_registering}
use Rattle.ba_scope.specs.Scope.{ScopeState}
use Rattle.ba_scope.proofs.Calls.{enrolled_fits}
use Rattle.ba_scope.proofs.scopes.Scope.enrolled.Goals as goal

pub invariant_of-self : goal.invariant_of-self
invariant_of-self c =
    let registering = subst (λ (s : ScopeState). IsTrue (is_registering s.up)) (sym c.self.view_is) c.requires in
    subst (λ (s : ScopeState). ScopeFits s) (sym c.enrolled.ensures)
    (enrolled_fits c.self.inside.fields c.args.coordinator registering c.self.invariant)
