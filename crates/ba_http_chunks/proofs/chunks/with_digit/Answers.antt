use Rattle.std.proofs.Common.{sym}
use Rattle.ba_http_chunks.proofs.Leading.{digit_is, no_digit_is}
use Rattle.ba_http_chunks.proofs.chunks.with_digit.Goals as goal

pub returns-in-Some : goal.returns-in-Some
returns-in-Some c =
    digit_is c.args.size c.args.byte c.in-Some.digit c.saturating_mul.result c.saturating_add.result
    (sym c.in-Some.ensures.found) c.in-Some.ensures.value.0 c.saturating_mul.ensures c.saturating_add.ensures

pub returns-in-None : goal.returns-in-None
returns-in-None c = no_digit_is c.args.size c.args.byte (sym c.in-None.ensures.found)
