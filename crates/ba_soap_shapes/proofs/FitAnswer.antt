-- An answer that says whether an endpoint reference fits is the value of its test: for the forms of endpoints.
use Rattle.std.proofs.Common.{◌≡◌, Bool, true, false, refl, sym}
use Rattle.ba_message.specs.declared.endpoints.Epr.{Epr}
use Rattle.ba_message.specs.Endpoints.{Fits, fits_endpoint}
use Rattle.ba_message.proofs.FitTests.{fits_by_tests, tests_by_fits}

-- an answer that says whether something passes tests which say the same
said_by :
    {P : Type 0} (answer test : Bool) → (answer ≡ true → P) → (P → answer ≡ true) → (test ≡ true → P) → (P → test ≡ true) → answer ≡ test
said_by true true to from by back = refl
said_by false false to from by back = refl
said_by true false to from by back = sym (back (to refl))
said_by false true to from by back = from (by refl)

pub says_fit : (e : Epr) (answer : Bool) → (answer ≡ true → Fits e) × (Fits e → answer ≡ true) → answer ≡ fits_endpoint e
says_fit e answer is = said_by answer (fits_endpoint e) is.0 is.1 (fits_by_tests e) (tests_by_fits e)
