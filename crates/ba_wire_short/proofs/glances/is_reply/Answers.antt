use Rattle.std.proofs.Common.{sym, subst}
use Rattle.ba_message.proofs.OwnEndpoints.{own_endpoint_fits}
use Rattle.ba_message.specs.Letters.{IsReply}
use Rattle.ba_wire_short.proofs.glances.is_reply.Goals as goal

pub returns-in-Registered : goal.returns-in-Registered
returns-in-Registered c passes = subst IsReply (sym c.in-Registered.is)
    (own_endpoint_fits c.in-Registered.coordinator (c.is_own.ensures passes))
