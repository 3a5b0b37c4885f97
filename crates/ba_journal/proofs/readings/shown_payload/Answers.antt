use Rattle.std.proofs.Common.{◌≡◌, ◌∷◌, ◌++◌, length, arith, rules}
use Rattle.ba_journal.proofs.FrameFronts.{counts, shown_are}
use Rattle.ba_journal.proofs.readings.shown_payload.Goals as goal

pub returns-clause-some : goal.returns-clause-some
returns-clause-some c = λ all begins.
    let gate = c.in-Some.gate.now in
    let behind = c.in-Some.behind.now in
    let digits = c.in-Some-split_first_chunk.digits.now in
    let rest = c.in-Some-split_first_chunk.rest.now in
    let parts : c.args.bytes.now ≡ gate ∷ behind = search rules in
    let split : behind ≡ digits ++ rest = search rules in
    let four : length digits ≡ 4 = search rules in
    counts c.args.bytes.now behind digits rest all gate c.args.left c.from_le_bytes-size.result c.min.result parts (search rules) split four
    c.from_le_bytes-size.ensures (omega arith) c.requires c.min.ensures begins

pub returns-clause-are : goal.returns-clause-are
returns-clause-are c =
    let gate = c.in-Some.gate.now in
    let behind = c.in-Some.behind.now in
    let digits = c.in-Some-split_first_chunk.digits.now in
    let rest = c.in-Some-split_first_chunk.rest.now in
    let parts : c.args.bytes.now ≡ gate ∷ behind = search rules in
    let split : behind ≡ digits ++ rest = search rules in
    shown_are c.args.bytes.now behind digits rest gate c.min.result (λ i. let small = c.type_inv.bytes i in small.fits) parts split
