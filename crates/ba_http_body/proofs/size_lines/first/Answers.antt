use Rattle.std.proofs.Common.{sym, ◌∙◌}
use Rattle.ba_http_body.proofs.Walks.{dead_first}
use Rattle.ba_http_body.proofs.size_lines.first.Goals as goal

pub returns : goal.returns
returns c = λ bytes h. dead_first bytes c.args.byte h (sym c.is_ascii_hexdigit.ensures.value ∙ c.if-is_ascii_hexdigit.false)
