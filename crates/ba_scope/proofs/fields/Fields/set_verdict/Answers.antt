use Rattle.std.proofs.Common.{sym, subst, IsTrue}
use Rattle.std.specs.List.{AllByRecursion}
use Rattle.ba_scope_ends.specs.Ends.{has_own_state}
use Rattle.ba_scope.specs.Scope.{ScopeState}
use Rattle.ba_scope.proofs.fields.Fields.set_verdict.Goals as goal

pub set_verdicts-requires : goal.set_verdicts-requires
set_verdicts-requires c =
    rw c.deref_mut.ensures.value
    (subst (λ (s : ScopeState). AllByRecursion (λ e. IsTrue (has_own_state e)) s.ends) (sym c.self.view_is) c.requires)
