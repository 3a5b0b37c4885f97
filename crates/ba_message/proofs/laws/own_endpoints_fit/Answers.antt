use Rattle.ba_message.proofs.OwnEndpoints.{own_endpoint_fits}
use Rattle.ba_message.proofs.laws.own_endpoints_fit.Goals as goal

pub returns : goal.returns
returns c = own_endpoint_fits
