use Rattle.std.proofs.Common.{◌≡◌, ℕ, ◌+◌, ◌-◌, ◌<◌, List, length, take, sym, ap, ◌∙◌, subst, arith}
use Rattle.std.proofs.lemmas.List.{length-take-le, take-take}
use Rattle.ba_http_head.specs.Looks.{IsLooked}
use Rattle.ba_http_head.proofs.scans.scan.Goals as goal

one_less : (at : ℕ) (bytes : List ℕ) → at < length bytes → take (length (take (at + 1) bytes) - 1) (take (at + 1) bytes) ≡ take at bytes
one_less at bytes less =
    let size : length (take (at + 1) bytes) - 1 ≡ at = omega (arith, length-take-le (at + 1) bytes (omega (arith, less))) in
    ap (λ n. take n (take (at + 1) bytes)) size ∙ take-take at (at + 1) bytes (omega arith)

pub look-shown-requires-clause-so_far : goal.look-shown-requires-clause-so_far
look-shown-requires-clause-so_far c =
    subst (λ v. IsLooked c.args.heading v c.looking.line)
    (sym (one_less c.looking.at c.args.bytes.now c.looking-test.true)) c.looking.invariant.so_far
