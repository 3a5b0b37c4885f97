use Rattle.ba_cmd_journal.proofs.Growing.{grown}
use Rattle.ba_cmd_journal.proofs.lines.put_lines.Goals as goal

pub loop-index-preserved : goal.loop-index-preserved
loop-index-preserved c =
    let item = c.index-records-index in
    grown _ _ _ c.args.records.now c.loop-index.index item.result c.loop-index-test.true item.is
    c.loop-index.invariant c.in_ok-put_line.ensures.ok
