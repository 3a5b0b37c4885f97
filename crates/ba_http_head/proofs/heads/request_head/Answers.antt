use Rattle.std.proofs.Common.{◌≡◌, [], sym, ap, ◌∙◌, refl, Ok, Err, Some, None, map}
use Rattle.std.specs.Prelude.{codes}
use Rattle.httparse.specs.Spans.{name_and_value}
use Rattle.ba_http_head.specs.declared.headings.Heading.TheVariants.{Request}
use Rattle.ba_http_head.specs.Heads.{asks}
use Rattle.ba_http_head.specs.Lengths.{length_of, needed_length, values_of}
use Rattle.ba_http_head.proofs.HeadParts.{few_fields, says_fault}
use Rattle.ba_http_head.proofs.heads.request_head.Goals as goal

pub unreachable-requires : goal.unreachable-requires
unreachable-requires c =
    let whole = c.requires.whole in
    let told = rw c.in-Ok-Partial.field-0-is at c.in-Ok-Partial.ensures in
    told.found whole.0 [] whole.1 (few_fields c.args.prefix.now whole.0 whole.1 c.requires.few)

pub unreachable-requires-in-Err : goal.unreachable-requires-in-Err
unreachable-requires-in-Err c =
    let whole = c.requires.whole in
    c.in-Err.ensures.found whole.0 [] whole.1 (few_fields c.args.prefix.now whole.0 whole.1 c.requires.few)

pub returns-in-Ok-None : goal.returns-in-Ok-None
returns-in-Ok-None c =
    let whole = c.requires.whole in
    let told = rw c.in-Ok-Complete.field-0-is at c.in-Ok-Complete.ensures in
    let at = told.found whole.0 [] whole.1 (few_fields c.args.prefix.now whole.0 whole.1 c.requires.few) in
    let result : c.length_in.result ≡ length_of (map name_and_value whole.0.fields) = c.length_in.ensures ∙ ap length_of at.fields in
    let none : length_of (map name_and_value whole.0.fields) ≡ Ok None = sym result ∙ c.in-Ok-None.is ∙ ap Ok c.in-Ok-None.field-0-is in
    (asks whole.0.method whole.0.target, (whole.0, whole.1, refl, sym (ap needed_length none)))

pub returns-in-Err-length_in : goal.returns-in-Err-length_in
returns-in-Err-length_in c =
    let whole = c.requires.whole in
    let told = rw c.in-Ok-Complete.field-0-is at c.in-Ok-Complete.ensures in
    let at = told.found whole.0 [] whole.1 (few_fields c.args.prefix.now whole.0 whole.1 c.requires.few) in
    let result : c.length_in.result ≡ length_of (map name_and_value whole.0.fields) = c.length_in.ensures ∙ ap length_of at.fields in
    let is : length_of (map name_and_value whole.0.fields) ≡ Err c.in-Err-length_in.fault = sym result ∙ c.in-Err-length_in.is in
    says_fault Request c.args.prefix.now c.args.rest.now (asks whole.0.method whole.0.target) c.in-Err-length_in.fault
    (values_of (codes "content-length") (map name_and_value whole.0.fields))
    (values_of (codes "transfer-encoding") (map name_and_value whole.0.fields)) is (whole.0, whole.1, refl, sym (ap needed_length is))

pub returns : goal.returns
returns c =
    let whole = c.requires.whole in
    let told = rw c.in-Ok-Complete.field-0-is at c.in-Ok-Complete.ensures in
    let at = told.found whole.0 [] whole.1 (few_fields c.args.prefix.now whole.0 whole.1 c.requires.few) in
    let result : c.length_in.result ≡ length_of (map name_and_value whole.0.fields) = c.length_in.ensures ∙ ap length_of at.fields in
    let some : length_of (map name_and_value whole.0.fields) ≡ Ok (Some c.in-Ok-Some.length) =
    sym result ∙ c.in-Ok-Some.is ∙ ap Ok c.in-Ok-Some.field-0-is in
    let method : c.in-Ok.method ≡ whole.0.method = c.in-Ok.ensures ∙ (c.of.ensures ∙ at.method) in
    let path : c.in-Ok-copied.path ≡ whole.0.target = c.in-Ok-copied.ensures ∙ (c.of-2.ensures ∙ at.path) in (
      (whole.0, whole.1, ap (λ v. asks v c.in-Ok-copied.path) method ∙ ap (asks whole.0.method) path, sym (ap needed_length some)),
      c.in-Ok-copied-2.ensures,
    )
