-- What an answer says of the tree: for the clauses of `decode_tree`.
use Rattle.std.proofs.Common.{◌≡◌, ◌≢◌, Result, Ok, Err, refl, sym}
use Rattle.std.specs.Prelude.{IfOk, IfErr}
use Rattle.ba_wire.specs.declared.faults.WireFault.{WireFault}
use Rattle.ba_wire.specs.declared.faults.WireFault.TheVariants as fault
use Rattle.ba_wire.specs.Meaning.{IsWireAnswer}

pub ok_is_meant : {X : Type 0} (expected answer : Result X WireFault) → IsWireAnswer expected answer → IfOk answer (λ x. expected ≡ Ok x)
ok_is_meant expected (Ok x) is = sym is
ok_is_meant expected (Err f) is = tt

refused : {X : Type 0} (expected : Result X WireFault) (f : WireFault) → IsWireAnswer expected (Err f) → f ≢ fault.Memory → expected ≡ Err f
refused expected fault.Memory is other = absurd (other refl)
refused expected (fault.Xml reason place) is other = sym is
refused expected (fault.Soap f) is other = sym is
refused expected fault.OnlyAnonymous is other = sym is
refused expected (fault.EprLimit n) is other = sym is
refused expected fault.ActionNotSupported is other = sym is
refused expected (fault.BodyMismatch n) is other = sym is

pub err_is_due :
    {X : Type 0} (expected answer : Result X WireFault) → IsWireAnswer expected answer
    → IfErr answer (λ f. f ≢ fault.Memory → expected ≡ Err f)
err_is_due expected (Ok x) is = tt
err_is_due expected (Err f) is = refused expected f is
