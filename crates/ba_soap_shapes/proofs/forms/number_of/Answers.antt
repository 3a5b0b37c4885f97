use Rattle.std.proofs.Common.{◌≡◌, ◌<◌, ◌+◌, ◌-◌, ◌^◌, min, arith, length, take}
use Rattle.std.proofs.lemmas.Int.Digits.{digits_value_more}
use Rattle.std.specs.Str.Parse.{digits_value}
use Rattle.ba_message.proofs.Dialed.{digit_at}
use Rattle.ba_soap_shapes.proofs.forms.number_of.Goals as goal

pub loop-digit-preserved : goal.loop-digit-preserved
loop-digit-preserved c =
    let digits = c.args.digits.now in
    let index = c.loop-digit.digit-index in
    let within : index < length digits = omega (arith, c.loop-digit-test.true) in
    let more = digits_value_more 10 digits index within in
    let value = digit_at digits index c.requires within in
    let next : c.saturating_add-number.result ≡ min (digits_value 10 (take (index + 1) digits)) (2 ^ 64 - 1) =
    omega (
      arith,
      more,
      value.0,
      c.loop-digit.invariant,
      c.saturating_add-number.ensures,
      c.saturating_mul.ensures,
      c.from.ensures,
      c.saturating_sub.ensures,
    ) in
    next
