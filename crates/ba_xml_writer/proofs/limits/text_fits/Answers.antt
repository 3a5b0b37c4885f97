use Rattle.std.proofs.Common.{◌≡◌, ◌<◌, ◌≤◌, ◌+◌, length, ap, ◌∙◌, arith}
use Rattle.ba_xml_writer.specs.Namespaces.{further}
use Rattle.ba_xml_writer.proofs.Numbers.{crowded, short_is, le_is, is_le, text_is}
use Rattle.ba_xml_writer.proofs.limits.text_fits.Goals as goal

pub returns-in_default : goal.returns-in_default
returns-in_default c =
    let many : 28 < length (further c.args.tree.now) = c.in_default.ensures.many in
    (λ h. absurd (cc), λ both. absurd (crowded c.args.tree.now (omega arith) both))

pub returns-then-len : goal.returns-then-len
returns-then-len c =
    let count : length c.in-Ok.row.items ≡ length (further c.args.tree.now) = ap length c.in-Ok.ensures.row in
    (λ h. absurd (cc), λ both. absurd (crowded c.args.tree.now (omega (arith, c.len-2.ensures.value, c.len.ensures)) both))

pub returns : goal.returns
returns c =
    let count : length c.in-Ok.row.items ≡ length (further c.args.tree.now) = ap length c.in-Ok.ensures.row in
    let room : length c.args.tree.now.attributes + length (further c.args.tree.now) ≤ 28 =
    omega (arith, c.len-2.ensures.value, c.len.ensures) in
    let both = short_is c.args.tree.now c.text_length.result
    (text_is c.as_slice.result.now c.args.tree.now c.text_length.result c.text_length.ensures
    (c.as_slice.ensures.value ∙ c.in-Ok.ensures.row)) room in
    (λ h. both.0 (le_is c.text_length.result 262144 h), λ fits. is_le c.text_length.result 262144 (both.1 fits))
