use Rattle.std.proofs.Common.{◌≡◌, false, get_or, sym, ap, ◌∙◌}
use Rattle.std.specs.Prelude.{codes}
use Rattle.std.specs.Str.{str_eq_ignore_ascii_case}
use Rattle.httparse.specs.declared.spans.HeaderSpan.{HeaderSpan}
use Rattle.httparse.specs.Spans.{header_bytes}
use Rattle.ba_http_head.specs.Lengths.{is_chunked}
use Rattle.ba_http_head.proofs.FieldValues.{names_is, all_on}
use Rattle.ba_http_head.proofs.lengths.«+are_chunked».Goals as goal
use Rattle.ba_http_head.proofs.lengths.«+are_chunked».Goals.{else-named-via-then-named+else-not-eq_ignore_ascii_case}
use Rattle.ba_http_head.proofs.lengths.«+are_chunked».Goals.{else-named-via-else-named}

pub returns-else-named : goal.returns-else-named
returns-else-named t c =
    let none : HeaderSpan = record { name = record { start = 0; end = 0 }; value = record { start = 0; end = 0 } } in
    let name = codes "transfer-encoding" in
    let named = c.eq_ignore_ascii_case-named.result in
    let is : str_eq_ignore_ascii_case (header_bytes c.args.prefix.now (get_or c.args.headers.now 0 none)).0 name ≡ named =
    ap (λ v. str_eq_ignore_ascii_case v name) (sym c.of.ensures)
    ∙ names_is c.of.result.now name named c.eq_ignore_ascii_case-named.ensures.test in
    c.are_chunked.ensures ∙ elim c.else-named.branch [
      | else-named-via-then-named+else-not-eq_ignore_ascii_case w ↦ all_on
          (header_bytes c.args.prefix.now) name is_chunked c.args.headers.now none named c.in-len1-up.len_at_least is
          (λ _. ap is_chunked (sym w.of-then-named.ensures)
          ∙ names_is w.of-then-named.result.now (codes "chunked") w.eq_ignore_ascii_case.result w.eq_ignore_ascii_case.ensures.test
          ∙ w.if-not-eq_ignore_ascii_case.false)
      | else-named-via-else-named w ↦ all_on
          (header_bytes c.args.prefix.now) name is_chunked c.args.headers.now none named c.in-len1-up.len_at_least is
          (λ yes. let no : named ≡ false = w.if-named.false in absurd (cc))
    ]
