use Rattle.std.proofs.Common.{◌≡◌, None, true, not, subst, sym}
use Rattle.ba_scope.specs.Fits.{ScopeFits}
use Rattle.ba_scope.specs.Rules.{enrol_refusal}
use Rattle.ba_scope_ends.specs.Ends.{end_of}
use Rattle.ba_scope.specs.Scope.{ScopeState, has_id}
use Rattle.ba_scope.proofs.Calls.{enrol_fits}
use Rattle.ba_scope.proofs.scopes.Scope.enrol.Goals as goal

pub invariant_of-self : goal.invariant_of-self
invariant_of-self c =
    let allowed = subst (λ (s : ScopeState). enrol_refusal s ≡ None) (sym c.self.view_is) c.requires.allowed in
    let new_participant = subst (λ (s : ScopeState). end_of s.ends c.args.participant ≡ None) (sym c.self.view_is)
    c.requires.new_participant in
    let new_id = subst (λ (s : ScopeState). not (has_id s c.args.id) ≡ true) (sym c.self.view_is) c.requires.new_id in
    subst ScopeFits (sym c.enrol.ensures)
    (enrol_fits c.self.inside.fields c.args.id c.args.protocol c.args.participant new_participant new_id allowed c.self.invariant)
