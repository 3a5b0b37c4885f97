use Rattle.ba_core.specs.EndRows.{end_row}
use Rattle.ba_scope_ends.specs.declared.ends.End.{End}
use Rattle.ba_scope_ends.proofs.Rows.{invalid_after, row_after}
use Rattle.ba_scope_ends.proofs.ends.End.receive.Goals as goal

pub returns-in-Invalid : goal.returns-in-Invalid
returns-in-Invalid c =
    let e : End = c.args.self.now in
    record { end = invalid_after (end_row e.protocol e.state c.args.notice) e c.in-Invalid.ensures; row = c.in-Invalid.ensures }

pub returns-in-Row : goal.returns-in-Row
returns-in-Row c =
    let e : End = c.args.self.now in
    record {
      end = row_after (end_row e.protocol e.state c.args.notice) e c.in-Row.next c.in-Row.prompt c.in-Row.ensures;
      row = c.in-Row.ensures;
    }
