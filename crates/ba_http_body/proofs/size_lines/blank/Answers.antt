use Rattle.std.proofs.Common.{sym, ◌∙◌}
use Rattle.ba_http_body.proofs.LineSteps.{next_blank}
use Rattle.ba_http_body.proofs.Walks.{dead_blank}
use Rattle.ba_http_body.proofs.size_lines.blank.Goals as goal

pub returns-then-is_blank : goal.returns-then-is_blank
returns-then-is_blank c = λ bytes h. next_blank c.args.byte bytes h (sym c.is_blank.ensures ∙ c.if-is_blank.true)

pub returns : goal.returns
returns c = λ bytes h. dead_blank bytes c.args.byte h
    (sym c.is_blank.ensures ∙ c.if-is_blank.false) c.if-byte-eq59.false c.if-byte-eq13.false
