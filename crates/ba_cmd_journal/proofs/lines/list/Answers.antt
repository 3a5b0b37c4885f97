use Rattle.ba_cmd_journal.specs.Listing.{records_of}
use Rattle.ba_cmd_journal.proofs.Growing.{whole_lines, so_err}
use Rattle.ba_cmd_journal.proofs.lines.list.Goals as goal

pub returns-clause-err : goal.returns-clause-err
returns-clause-err c =
    so_err c.put_end.result
    (whole_lines c.args.out.now c.put_lines.new.out c.put_end.new.out c.found_in.result.now (records_of c.args.scan.now)
    c.found_in.ensures c.in_ok-put_lines.ensures.ok)
    c.put_end.ensures.err
