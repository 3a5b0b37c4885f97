use Rattle.std.proofs.Common.{refl}
use Rattle.ba_message.specs.Dialing.{is_dialable}
use Rattle.ba_node_steps.specs.Addresses.{hyphenated}
use Rattle.uuid.specs.Text.{by_index}
use Rattle.ba_node_steps.proofs.laws.fail_climbs_a_tree.Goals as goal

pub returns-clause-not_yet : goal.returns-clause-not_yet
unfolding hyphenated by_index is_dialable
returns-clause-not_yet c = refl

pub returns-clause-below : goal.returns-clause-below
unfolding hyphenated by_index is_dialable
returns-clause-below c = refl

pub returns-clause-above : goal.returns-clause-above
unfolding hyphenated by_index is_dialable
returns-clause-above c = refl

pub returns-clause-records : goal.returns-clause-records
unfolding hyphenated by_index is_dialable
returns-clause-records c = refl

pub returns-clause-below_again : goal.returns-clause-below_again
unfolding hyphenated by_index is_dialable
returns-clause-below_again c = refl

pub returns-clause-above_again : goal.returns-clause-above_again
unfolding hyphenated by_index is_dialable
returns-clause-above_again c = refl
