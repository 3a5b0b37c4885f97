use Rattle.std.proofs.Common.{codes}
use Rattle.ba_node_steps.proofs.RoutingLemmas.{object_of}
use Rattle.ba_node_steps.proofs.laws.addresses_end_with_their_objects.Goals as goal

pub returns-clause-scopes : goal.returns-clause-scopes
returns-clause-scopes c = λ base id small. object_of base (codes "/registration/") id small

pub returns-clause-ends : goal.returns-clause-ends
returns-clause-ends c = λ base id small. object_of base (codes "/coordinator/") id small

pub returns-clause-participants : goal.returns-clause-participants
returns-clause-participants c = λ base id small. object_of base (codes "/participant/") id small
