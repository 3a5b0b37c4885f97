use Rattle.std.proofs.Common.{sym, ◌∙◌, arith}
use Rattle.std.proofs.lemmas.Fmt.{decimal_injective}
use Rattle.ba_core.proofs.identifiers.object_of.Goals as goal

pub returns-in-Err-clause-none : goal.returns-in-Err-clause-none
returns-in-Err-clause-none c = λ n m small low same other.
    let held = c.in-Some-Some.ensures.some in
    let one = decimal_injective n c.in-Some-Some.node (omega arith) held.1 (sym same ∙ held.0) in
    absurd (omega (arith, c.in-Err.ensures))
