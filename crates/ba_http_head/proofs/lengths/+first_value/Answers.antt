use Rattle.std.proofs.Common.{◌≡◌, false, get_or, sym, ap, ◌∙◌}
use Rattle.std.specs.Str.{str_eq_ignore_ascii_case}
use Rattle.httparse.specs.declared.spans.HeaderSpan.{HeaderSpan}
use Rattle.httparse.specs.Spans.{header_bytes}
use Rattle.ba_http_head.proofs.FieldValues.{names_is, first_on}
use Rattle.ba_http_head.proofs.lengths.«+first_value».Goals as goal

pub returns-else-eq_ignore_ascii_case : goal.returns-else-eq_ignore_ascii_case
returns-else-eq_ignore_ascii_case t c =
    let none : HeaderSpan = record { name = record { start = 0; end = 0 }; value = record { start = 0; end = 0 } } in
    let is : str_eq_ignore_ascii_case (header_bytes c.args.prefix.now (get_or c.args.headers.now 0 none)).0 c.args.name.now ≡ false =
    ap (λ v. str_eq_ignore_ascii_case v c.args.name.now) (sym c.of.ensures)
    ∙ names_is c.of.result.now c.args.name.now c.eq_ignore_ascii_case.result c.eq_ignore_ascii_case.ensures.test
    ∙ c.if-eq_ignore_ascii_case.false in
    c.first_value.ensures ∙ first_on (header_bytes c.args.prefix.now) c.args.name.now c.args.headers.now none c.in-len1-up.len_at_least is
