use Rattle.ba_node_steps.proofs.RoutingLemmas.{text_is_its, text_is_read}
use Rattle.ba_node_steps.proofs.laws.texts_tell_identifiers.Goals as goal

pub returns-clause-its : goal.returns-clause-its
returns-clause-its c = text_is_its

pub returns-clause-read : goal.returns-clause-read
returns-clause-read c = text_is_read
