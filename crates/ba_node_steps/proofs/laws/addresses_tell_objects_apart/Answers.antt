use Rattle.ba_node_steps.proofs.Hyphens.{coordinators_apart, participants_apart, registrations_apart, sides_apart}
use Rattle.ba_node_steps.proofs.Members.{id_by_number}
use Rattle.ba_node_steps.proofs.laws.addresses_tell_objects_apart.Goals as goal

pub returns-clause-scopes : goal.returns-clause-scopes
returns-clause-scopes c = λ base other a b small small_too same. id_by_number a b (registrations_apart a b base other small small_too same)

pub returns-clause-ends : goal.returns-clause-ends
returns-clause-ends c = λ base other a b small small_too same. id_by_number a b (coordinators_apart a b base other small small_too same)

pub returns-clause-participants : goal.returns-clause-participants
returns-clause-participants c = λ base other a b small small_too same. id_by_number a b
    (participants_apart a b base other small small_too same)

pub returns-clause-sides : goal.returns-clause-sides
returns-clause-sides c = λ base other a b. sides_apart a b base other
