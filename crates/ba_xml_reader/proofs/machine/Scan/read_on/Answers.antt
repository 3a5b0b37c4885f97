use Rattle.std.proofs.Common.{arith}
use Rattle.ba_xml_reader.proofs.PutOn.{first_put_on}
use Rattle.ba_xml_reader.proofs.machine.Scan.read_on.Goals as goal

pub returns-clause-read : goal.returns-clause-read
returns-clause-read c =
    first_put_on c.args.self.now c.put_span.new.self c.args.bytes.now c.args.taken c.run_length-count.result c.run_length-count.ensures.run
    c.run_length-count.ensures.within (λ e. c.if-count-eq0.false e)
    (omega (arith, c.run_length-count.ensures.most, c.saturating_sub-most.ensures)) c.in_ok-put_span.ensures
