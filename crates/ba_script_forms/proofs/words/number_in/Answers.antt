use Rattle.std.proofs.Common.{arith}
use Rattle.ba_script_forms.proofs.Fits.{number_fits, no_number, out_of_bounds}
use Rattle.ba_script_forms.proofs.words.number_in.Goals as goal

pub returns-in_default-clause-none : goal.returns-in_default-clause-none
returns-in_default-clause-none c = no_number c.args.least c.args.most c.args.word.now (omega arith) c.in_default.ensures.none

pub returns-then-n-least-clause-none : goal.returns-then-n-least-clause-none
returns-then-n-least-clause-none c =
    out_of_bounds c.args.least c.args.most c.in-Some.n c.args.word.now c.in-Some.ensures.some.0 c.in-Some.ensures.some.1
    (λ above below. omega arith)

pub returns-then-n-most-clause-none : goal.returns-then-n-most-clause-none
returns-then-n-most-clause-none c =
    out_of_bounds c.args.least c.args.most c.in-Some.n c.args.word.now c.in-Some.ensures.some.0 c.in-Some.ensures.some.1
    (λ above below. omega arith)

pub returns-clause-some : goal.returns-clause-some
returns-clause-some c =
    number_fits c.args.least c.args.most c.in-Some.n c.args.word.now c.in-Some.ensures.some.0 c.in-Some.ensures.some.1 (omega arith)
    (omega arith)
