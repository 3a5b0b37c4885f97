use Rattle.std.proofs.Common.{◌≡◌, [], sym, ap, ◌∙◌, refl, Err, map}
use Rattle.std.specs.Prelude.{codes}
use Rattle.httparse.specs.Grammar.{status_code}
use Rattle.httparse.specs.Spans.{name_and_value}
use Rattle.ba_http_head.specs.declared.headings.Heading.TheVariants.{Reply}
use Rattle.ba_http_head.specs.Heads.{answers}
use Rattle.ba_http_head.specs.Lengths.{length_of, values_of}
use Rattle.ba_http_head.proofs.HeadParts.{few_fields_of_reply, says_fault}
use Rattle.ba_http_head.proofs.heads.reply_head.Goals as goal

pub unreachable-requires : goal.unreachable-requires
unreachable-requires c =
    let whole = c.requires.whole in
    let told = rw c.in-Ok-Partial.field-0-is at c.in-Ok-Partial.ensures in
    told.found whole.0 [] whole.1 (few_fields_of_reply c.args.prefix.now whole.0 whole.1 c.requires.few)

pub unreachable-requires-in-Err : goal.unreachable-requires-in-Err
unreachable-requires-in-Err c =
    let whole = c.requires.whole in
    c.in-Err.ensures.found whole.0 [] whole.1 (few_fields_of_reply c.args.prefix.now whole.0 whole.1 c.requires.few)

pub returns-in-Err-length_in : goal.returns-in-Err-length_in
returns-in-Err-length_in c =
    let whole = c.requires.whole in
    let told = rw c.in-Ok-Complete.field-0-is at c.in-Ok-Complete.ensures in
    let at = told.found whole.0 [] whole.1 (few_fields_of_reply c.args.prefix.now whole.0 whole.1 c.requires.few) in
    let result : c.length_in.result ≡ length_of (map name_and_value whole.0.fields) = c.length_in.ensures ∙ ap length_of at.fields in
    let is : length_of (map name_and_value whole.0.fields) ≡ Err c.in-Err-length_in.fault = sym result ∙ c.in-Err-length_in.is in
    says_fault Reply c.args.prefix.now c.args.rest.now (answers (status_code whole.0)) c.in-Err-length_in.fault
    (values_of (codes "content-length") (map name_and_value whole.0.fields))
    (values_of (codes "transfer-encoding") (map name_and_value whole.0.fields)) is (whole.0, whole.1, refl, sym is)

pub returns : goal.returns
returns c =
    let whole = c.requires.whole in
    let told = rw c.in-Ok-Complete.field-0-is at c.in-Ok-Complete.ensures in
    let at = told.found whole.0 [] whole.1 (few_fields_of_reply c.args.prefix.now whole.0 whole.1 c.requires.few) in
    let result : c.length_in.result ≡ length_of (map name_and_value whole.0.fields) = c.length_in.ensures ∙ ap length_of at.fields in
    ((whole.0, whole.1, ap answers at.code, sym c.in-Ok.is ∙ result), c.in-Ok-copied.ensures)
