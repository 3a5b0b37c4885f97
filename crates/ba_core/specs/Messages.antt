-- Believe: the names of notices and of states, after WS-BusinessActivity 1.2; the codes of notices and the names of
-- split states are this project's own.
use Rattle.std.specs.Prelude.{ℕ, Bool, true, false, List, codes}
use Rattle.ba_core.specs.declared.notices.Notice.{Notice}
use Rattle.ba_core.specs.declared.notices.Notice.TheVariants as notice
use Rattle.ba_core.specs.declared.states.CState.{CState}
use Rattle.ba_core.specs.declared.states.CState.TheVariants as end
use Rattle.ba_core.specs.declared.states.PState.{PState}
use Rattle.ba_core.specs.declared.states.PState.TheVariants as part
use Rattle.ba_core.specs.declared.states.StateName.{StateName}
use Rattle.ba_core.specs.declared.states.StateName.TheVariants as shown

-- codes 1 to 7 come from the coordinator, 8 to 14 from the participant, 15 and 16 from either
abbrev pub notice_code : Notice → ℕ
notice_code notice.Complete = 1
notice_code notice.Close = 2
notice_code notice.Cancel = 3
notice_code notice.Compensate = 4
notice_code notice.Failed = 5
notice_code notice.Exited = 6
notice_code notice.NotCompleted = 7
notice_code notice.Completed = 8
notice_code notice.Closed = 9
notice_code notice.Canceled = 10
notice_code notice.Compensated = 11
notice_code notice.Fail = 12
notice_code notice.Exit = 13
notice_code notice.CannotComplete = 14
notice_code notice.GetStatus = 15
notice_code (notice.Status name) = 16

abbrev pub notice_name : Notice → List ℕ
notice_name notice.Complete = codes "Complete"
notice_name notice.Close = codes "Close"
notice_name notice.Cancel = codes "Cancel"
notice_name notice.Compensate = codes "Compensate"
notice_name notice.Failed = codes "Failed"
notice_name notice.Exited = codes "Exited"
notice_name notice.NotCompleted = codes "NotCompleted"
notice_name notice.Completed = codes "Completed"
notice_name notice.Closed = codes "Closed"
notice_name notice.Canceled = codes "Canceled"
notice_name notice.Compensated = codes "Compensated"
notice_name notice.Fail = codes "Fail"
notice_name notice.Exit = codes "Exit"
notice_name notice.CannotComplete = codes "CannotComplete"
notice_name notice.GetStatus = codes "GetStatus"
notice_name (notice.Status name) = codes "Status"

-- an end's state as a Status notice names it
abbrev pub end_name : CState → StateName
end_name end.Active = shown.Active
end_name end.Completing = shown.Completing
end_name end.Canceling = shown.Canceling
end_name end.CancelingActive = shown.CancelingActive
end_name end.CancelingCompleting = shown.CancelingCompleting
end_name end.Completed = shown.Completed
end_name end.Closing = shown.Closing
end_name end.Compensating = shown.Compensating
end_name end.FailingActive = shown.FailingActive
end_name end.FailingCompleting = shown.FailingCompleting
end_name end.FailingCanceling = shown.FailingCanceling
end_name end.FailingCompensating = shown.FailingCompensating
end_name end.NotCompleting = shown.NotCompleting
end_name end.Exiting = shown.Exiting
end_name (end.Ended how) = shown.Ended

-- a participant's state as a Status notice names it; Registering shows as Active
abbrev pub part_name : PState → StateName
part_name part.Registering = shown.Active
part_name part.Active = shown.Active
part_name part.Completing = shown.Completing
part_name part.Canceling = shown.Canceling
part_name part.Completed = shown.Completed
part_name part.Closing = shown.Closing
part_name part.Compensating = shown.Compensating
part_name part.FailingActive = shown.FailingActive
part_name part.FailingCompleting = shown.FailingCompleting
part_name part.FailingCanceling = shown.FailingCanceling
part_name part.FailingCompensating = shown.FailingCompensating
part_name part.NotCompleting = shown.NotCompleting
part_name part.Exiting = shown.Exiting
part_name (part.Ended how) = shown.Ended

-- the notice is a column of one of the two state tables; GetStatus and Status are not
abbrev pub is_column : Notice → Bool
is_column notice.GetStatus = false
is_column (notice.Status name) = false
is_column n = true
