use Rattle.std.proofs.Common.{◌≡◌, Option, Some, IfSome, IsTrue, true, subst}
use Rattle.ba_scope_ends.specs.Parts.{is_registering}
use Rattle.ba_scope_ends.specs.declared.parts.Part.{Part}
use Rattle.ba_scope.proofs.Calls.{new_scope_fits}
use Rattle.ba_scope.proofs.scopes.Scope.make.Goals as goal

registering_at : (up : Option Part) → IfSome up (λ part. IsTrue (is_registering (Some part))) → (p : Part) → up ≡ Some p
    → is_registering (Some p) ≡ true
registering_at up h p is = subst (λ (u : Option Part). IfSome u (λ part. IsTrue (is_registering (Some part)))) is h

pub invariant_of-result : goal.invariant_of-result
invariant_of-result c =
    rw c.new.ensures.items
    (new_scope_fits c.args.id c.args.kind c.args.deadline c.args.up (registering_at c.args.up c.requires.registering) c.requires.up_fits)
