use Rattle.std.proofs.Common.{refl}
use Rattle.ba_message.specs.Dialing.{is_dialable}
use Rattle.ba_node_steps.specs.Addresses.{hyphenated}
use Rattle.uuid.specs.Text.{by_index}
use Rattle.ba_node_steps.proofs.laws.each_end_its_own_choice.Goals as goal

pub returns-clause-chosen : goal.returns-clause-chosen
unfolding hyphenated by_index is_dialable
returns-clause-chosen c = refl

pub returns-clause-once : goal.returns-clause-once
unfolding hyphenated by_index is_dialable
returns-clause-once c = refl
