-- What is told in the worked examples of histories; for the law that each node keeps its word.
use Rattle.std.proofs.Common.{inl, inr, ℕ, refl, arith}
use Rattle.ba_core.specs.declared.notices.Notice.{Notice}
use Rattle.ba_core.specs.declared.notices.Notice.TheVariants as notice
use Rattle.ba_core.specs.declared.protocols.Verdict.TheVariants.{Close, Undo}
use Rattle.ba_message.specs.Dialing.{is_dialable}
use Rattle.ba_message.specs.declared.messages.Letter.{Letter}
use Rattle.ba_node_steps.specs.Addresses.{hyphenated, participant_of}
use Rattle.ba_node_steps.specs.Examples.{first_base, object, second_base}
use Rattle.ba_node_steps.specs.Histories.{HasCounters, IsTold, letters_of}
use Rattle.ba_node_steps.specs.Tellings.{two_closes, two_undone}
use Rattle.ba_node_steps.specs.Ticks.{notice_letter}
use Rattle.uuid.specs.Text.{by_index}

-- the notice that the end with this counter tells the participant of the second node with that counter
abbrev its_letter : ℕ → ℕ → Notice → Letter
its_letter c p m = notice_letter (object 1 c) (participant_of second_base (object 2 p)) m

pub closes_have_counters : HasCounters 1 two_closes
closes_have_counters = record { is_number = omega arith; few = omega arith }

pub undone_have_counters : HasCounters 1 two_undone
undone_have_counters = record { is_number = omega arith; few = omega arith }

pub first_closes : IsTold (letters_of 1 first_base two_closes) (object 1 2) Close
unfolding hyphenated by_index is_dialable
first_closes = record { letter = its_letter 2 1 notice.Close; went = inr (inl refl); sender = refl; word = refl }

pub second_closes : IsTold (letters_of 1 first_base two_closes) (object 1 3) Close
unfolding hyphenated by_index is_dialable
second_closes = record { letter = its_letter 3 2 notice.Close; went = inl refl; sender = refl; word = refl }

pub first_undone : IsTold (letters_of 1 first_base two_undone) (object 1 2) Undo
unfolding hyphenated by_index is_dialable
first_undone = record { letter = its_letter 2 1 notice.Compensate; went = inr (inl refl); sender = refl; word = refl }

pub second_undone : IsTold (letters_of 1 first_base two_undone) (object 1 3) Undo
unfolding hyphenated by_index is_dialable
second_undone = record { letter = its_letter 3 2 notice.Cancel; went = inl refl; sender = refl; word = refl }
