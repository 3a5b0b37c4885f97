-- Believe: tests of states: whether a state is among some others.
use Rattle.std.specs.Prelude.{ℕ, Bool, List, nat_eq}
use Rattle.std.specs.List.{list_any}
use Rattle.ba_core.specs.declared.states.How.TheVariants.{Canceled, Closed, Compensated, Failed, Exited, NotCompleted, Refused}
use Rattle.ba_core.specs.declared.states.CState.{CState}
use Rattle.ba_core.specs.declared.states.CState.TheVariants as end
use Rattle.ba_core.specs.declared.states.PState.{PState}
use Rattle.ba_core.specs.declared.states.PState.TheVariants as part

-- each state of an end has a number of its own
abbrev pub end_number : CState → ℕ
end_number end.Active = 0
end_number end.Completing = 1
end_number end.Canceling = 2
end_number end.CancelingActive = 3
end_number end.CancelingCompleting = 4
end_number end.Completed = 5
end_number end.Closing = 6
end_number end.Compensating = 7
end_number end.FailingActive = 8
end_number end.FailingCompleting = 9
end_number end.FailingCanceling = 10
end_number end.FailingCompensating = 11
end_number end.NotCompleting = 12
end_number end.Exiting = 13
end_number (end.Ended Canceled) = 14
end_number (end.Ended Closed) = 15
end_number (end.Ended Compensated) = 16
end_number (end.Ended Failed) = 17
end_number (end.Ended Exited) = 18
end_number (end.Ended NotCompleted) = 19
end_number (end.Ended Refused) = 20

-- each state of a participant has a number of its own
abbrev pub part_number : PState → ℕ
part_number part.Registering = 0
part_number part.Active = 1
part_number part.Completing = 2
part_number part.Canceling = 3
part_number part.Completed = 4
part_number part.Closing = 5
part_number part.Compensating = 6
part_number part.FailingActive = 7
part_number part.FailingCompleting = 8
part_number part.FailingCanceling = 9
part_number part.FailingCompensating = 10
part_number part.NotCompleting = 11
part_number part.Exiting = 12
part_number (part.Ended Canceled) = 13
part_number (part.Ended Closed) = 14
part_number (part.Ended Compensated) = 15
part_number (part.Ended Failed) = 16
part_number (part.Ended Exited) = 17
part_number (part.Ended NotCompleted) = 18
part_number (part.Ended Refused) = 19

-- the end's state is one of these
abbrev pub end_among : List CState → CState → Bool
end_among states s = list_any (λ other. nat_eq (end_number s) (end_number other)) states

-- the participant's state is one of these
abbrev pub part_among : List PState → PState → Bool
part_among states p = list_any (λ other. nat_eq (part_number p) (part_number other)) states
