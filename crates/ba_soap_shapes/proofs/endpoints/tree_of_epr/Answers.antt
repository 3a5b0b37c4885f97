use Rattle.ba_soap_shapes.proofs.WrittenEndpoints.{ok_reads_back}
use Rattle.ba_soap_shapes.proofs.endpoints.tree_of_epr.Goals as goal

pub returns-clause-reads_back : goal.returns-clause-reads_back
returns-clause-reads_back c = ok_reads_back c.args.name.now c.args.epr.now c.requires c.endpoint_element.result c.endpoint_element.ensures
