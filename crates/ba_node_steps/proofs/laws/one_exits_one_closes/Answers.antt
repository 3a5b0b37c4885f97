use Rattle.std.proofs.Common.{refl}
use Rattle.ba_message.specs.Dialing.{is_dialable}
use Rattle.ba_node_steps.specs.Addresses.{hyphenated}
use Rattle.uuid.specs.Text.{by_index}
use Rattle.ba_node_steps.proofs.laws.one_exits_one_closes.Goals as goal

pub returns-clause-not_yet : goal.returns-clause-not_yet
unfolding hyphenated by_index is_dialable
returns-clause-not_yet c = refl

pub returns-clause-closes : goal.returns-clause-closes
unfolding hyphenated by_index is_dialable
returns-clause-closes c = refl
