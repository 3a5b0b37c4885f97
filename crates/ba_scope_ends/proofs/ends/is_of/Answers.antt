use Rattle.std.proofs.Common.{◌≡◌, ◌↔◌, Bool, true, false, IsTrue, refl, sym, ◌∙◌, subst}
use Rattle.ba_message.specs.Endpoints.{same_epr}
use Rattle.ba_message.specs.declared.endpoints.Epr.{Epr}
use Rattle.ba_message.proofs.FitTests.{endpoints_equal, endpoint_itself}
use Rattle.ba_scope_ends.proofs.ends.is_of.Goals as goal

as_tested : (r test : Bool) (a b : Epr) → test ≡ same_epr a b → (IsTrue r ↔ (a ≡ b)) → r ≡ test
as_tested true test a b is h = sym (is ∙ subst (λ (x : Epr). same_epr a x ≡ true) (h.0 refl) (endpoint_itself a))
as_tested false true a b is h = h.1 (endpoints_equal a b (sym is))
as_tested false false a b is h = refl

pub returns : goal.returns
returns c = as_tested _ _ c.args.end.now.participant c.args.participant.now refl c.equals.ensures
