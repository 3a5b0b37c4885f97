use Rattle.std.proofs.Common.{◌+◌, arith, get_or, sym}
use Rattle.std.proofs.lemmas.Int.Digits.{digits_value_more}
use Rattle.std.proofs.lemmas.Str.{digit_value_digit}
use Rattle.std.proofs.lemmas.Str.Parse.{digits_value-take-le}
use Rattle.ba_http_head.proofs.Digits.{digit_at, digit_range, both, too_many}
use Rattle.ba_http_head.proofs.lengths.counted_length.Goals as goal

pub overflow_sub-value : goal.overflow_sub-value
overflow_sub-value c = (digit_range _ (digit_at c.args.text.now c.loop-digit.digit-index c.loop-digit-test.true (both _ _ c.requires).1)).0

pub returns-then-value-gt-MOST_BODY : goal.returns-then-value-gt-MOST_BODY
returns-then-value-gt-MOST_BODY c =
    let d = digit_value_digit (get_or c.args.text.now c.loop-digit.digit-index 0)
    (digit_range (get_or c.args.text.now c.loop-digit.digit-index 0)
    (digit_at c.args.text.now c.loop-digit.digit-index c.loop-digit-test.true (both _ _ c.requires).1)) in
    let more = digits_value_more 10 c.args.text.now c.loop-digit.digit-index c.loop-digit-test.true in
    let all = digits_value-take-le 10 c.args.text.now (c.loop-digit.digit-index + 1) (omega arith) in
    let over = c.if-value-gt-MOST_BODY.true in
    let value = c.loop-digit.invariant.value in
    sym (too_many _ (omega (arith, d, more, all, over, value)))

pub loop-digit-preserved : goal.loop-digit-preserved
loop-digit-preserved c =
    let d = digit_value_digit (get_or c.args.text.now c.loop-digit.digit-index 0)
    (digit_range (get_or c.args.text.now c.loop-digit.digit-index 0)
    (digit_at c.args.text.now c.loop-digit.digit-index c.loop-digit-test.true (both _ _ c.requires).1)) in
    let more = digits_value_more 10 c.args.text.now c.loop-digit.digit-index c.loop-digit-test.true in
    let under = c.if-value-gt-MOST_BODY.false in
    let value = c.loop-digit.invariant.value in
    record { value = omega (arith, d, more, value); small = omega (arith, under) }
