use Rattle.ba_soap.proofs.WrittenEnvelopes.{ok_reads_back}
use Rattle.ba_soap.proofs.elements.write_as.Goals as goal

pub returns-clause-reads_back : goal.returns-clause-reads_back
returns-clause-reads_back g c plain =
    ok_reads_back (g.D.Dialect.sheet c.args.dialect.now) c.args.envelope.now c.envelope_element.result c.envelope_element.ensures plain
