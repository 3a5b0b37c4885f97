use Rattle.ba_node_addresses.proofs.PathLemmas.{rest_found, rest_is}
use Rattle.ba_node_addresses.proofs.paths.rest_after.Goals as goal

pub returns-clause-its : goal.returns-clause-its
returns-clause-its c = rest_is c.args.bytes.now c.args.beginning.now c.strip_prefix.result c.strip_prefix.ensures.cases

pub returns-clause-found : goal.returns-clause-found
returns-clause-found c = rest_found c.args.bytes.now c.args.beginning.now c.strip_prefix.result c.strip_prefix.ensures.cases
