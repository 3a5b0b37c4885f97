use Rattle.std.proofs.Common.{◌+◌, ◌≤◌, ap, sym, ◌∙◌, arith}
use Rattle.ba_xml_reader.specs.inside.Machine.{reading_at}
use Rattle.ba_xml.proofs.Pieces.{goes_on, stops, ends, taken_few}
use Rattle.ba_xml.proofs.readers.read_piece.Goals as goal

pub returns-in-Some : goal.returns-in-Some
returns-in-Some c =
    let refused = ap (λ refusal. reading_at c.read_on.new.self (c.loop-at.taken + c.in-Ok.field-0.count) refusal) c.in-Some.is in
    sym c.loop-at.invariant.1
    ∙ stops _ _ c.loop-at.at c.in-Ok.field-0.count _ _ _ c.args.piece.now c.in-Ok.ensures.read refused

pub overflow_add-taken : goal.overflow_add-taken
overflow_add-taken c =
    let going = ap (λ refusal. reading_at c.read_on.new.self (c.loop-at.taken + c.in-Ok.field-0.count) refusal) c.in_default-refusal.is in
    let few : c.loop-at.taken + c.in-Ok.field-0.count ≤ 262144 = taken_few _ _ _ _ c.loop-at.at c.in-Ok.field-0.count _ c.args.piece.now
    c.in-Ok.ensures.some c.in-Ok.ensures.within c.in-Ok.ensures.read going in
    omega (arith, few)

pub loop-at-preserved : goal.loop-at-preserved
loop-at-preserved c =
    let going = ap (λ refusal. reading_at c.read_on.new.self (c.loop-at.taken + c.in-Ok.field-0.count) refusal) c.in_default-refusal.is in (
      omega (arith, c.loop-at.invariant.0, c.in-Ok.ensures.within),
      goes_on _ _ _ _ c.loop-at.at c.in-Ok.field-0.count _ c.args.piece.now c.in-Ok.ensures.read going ∙ c.loop-at.invariant.1,
    )

pub returns : goal.returns
returns c = sym c.loop-at.invariant.1 ∙ ends _ _ _ _ c.loop-at-test.false
