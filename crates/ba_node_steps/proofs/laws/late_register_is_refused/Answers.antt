use Rattle.std.proofs.Common.{refl}
use Rattle.ba_message.specs.Dialing.{is_dialable}
use Rattle.ba_node_steps.specs.Addresses.{hyphenated}
use Rattle.uuid.specs.Text.{by_index}
use Rattle.ba_node_steps.proofs.laws.late_register_is_refused.Goals as goal

pub returns-clause-again : goal.returns-clause-again
unfolding hyphenated by_index is_dialable
returns-clause-again c = refl

pub returns-clause-late : goal.returns-clause-late
unfolding hyphenated by_index is_dialable
returns-clause-late c = refl
