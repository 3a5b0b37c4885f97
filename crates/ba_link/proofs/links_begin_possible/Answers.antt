use Rattle.ba_link.proofs.Begins.{registering_link_fits, active_link_fits}
use Rattle.ba_link.proofs.links_begin_possible.Goals as goal

pub returns-clause-registering : goal.returns-clause-registering
returns-clause-registering c = registering_link_fits

pub returns-clause-active : goal.returns-clause-active
returns-clause-active c = active_link_fits
