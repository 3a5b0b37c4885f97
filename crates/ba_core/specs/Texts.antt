-- Believe: the texts by which lines, notices and faults show states, codes and identifiers.
use Rattle.std.specs.Prelude.{ℕ, List, ◌++◌, ◌≢◌, All, codes}
use Rattle.std.specs.Fmt.{decimal}
use Rattle.ba_core.specs.declared.codes.Code.{Code}
use Rattle.ba_core.specs.declared.codes.Code.TheVariants as code
use Rattle.ba_core.specs.declared.states.How.{How}
use Rattle.ba_core.specs.declared.states.How.TheVariants as how
use Rattle.ba_core.specs.declared.states.CState.{CState}
use Rattle.ba_core.specs.declared.states.CState.TheVariants as end
use Rattle.ba_core.specs.declared.states.PState.{PState}
use Rattle.ba_core.specs.declared.states.PState.TheVariants as part
use Rattle.ba_core.specs.declared.states.StateName.{StateName}
use Rattle.ba_core.specs.declared.states.StateName.TheVariants as state
use Rattle.ba_core.specs.Numbers.{node_of, counter_of}

abbrev pub how_text : How → List ℕ
how_text how.Canceled = codes "Canceled"
how_text how.Closed = codes "Closed"
how_text how.Compensated = codes "Compensated"
how_text how.Failed = codes "Failed"
how_text how.Exited = codes "Exited"
how_text how.NotCompleted = codes "NotCompleted"
how_text how.Refused = codes "Refused"

-- a split state is written with a hyphen, an ended one with how it ended
abbrev pub end_text : CState → List ℕ
end_text end.Active = codes "Active"
end_text end.Completing = codes "Completing"
end_text end.Canceling = codes "Canceling"
end_text end.CancelingActive = codes "Canceling-Active"
end_text end.CancelingCompleting = codes "Canceling-Completing"
end_text end.Completed = codes "Completed"
end_text end.Closing = codes "Closing"
end_text end.Compensating = codes "Compensating"
end_text end.FailingActive = codes "Failing-Active"
end_text end.FailingCompleting = codes "Failing-Completing"
end_text end.FailingCanceling = codes "Failing-Canceling"
end_text end.FailingCompensating = codes "Failing-Compensating"
end_text end.NotCompleting = codes "NotCompleting"
end_text end.Exiting = codes "Exiting"
end_text (end.Ended h) = codes "Ended/" ++ how_text h

abbrev pub part_text : PState → List ℕ
part_text part.Registering = codes "Registering"
part_text part.Active = codes "Active"
part_text part.Completing = codes "Completing"
part_text part.Canceling = codes "Canceling"
part_text part.Completed = codes "Completed"
part_text part.Closing = codes "Closing"
part_text part.Compensating = codes "Compensating"
part_text part.FailingActive = codes "Failing-Active"
part_text part.FailingCompleting = codes "Failing-Completing"
part_text part.FailingCanceling = codes "Failing-Canceling"
part_text part.FailingCompensating = codes "Failing-Compensating"
part_text part.NotCompleting = codes "NotCompleting"
part_text part.Exiting = codes "Exiting"
part_text (part.Ended h) = codes "Ended/" ++ how_text h

-- a state as a Status notice names it (WS-BusinessActivity 1.2, section 3.3)
abbrev pub state_text : StateName → List ℕ
state_text state.Active = codes "Active"
state_text state.Completing = codes "Completing"
state_text state.Canceling = codes "Canceling"
state_text state.CancelingActive = codes "Canceling-Active"
state_text state.CancelingCompleting = codes "Canceling-Completing"
state_text state.Completed = codes "Completed"
state_text state.Closing = codes "Closing"
state_text state.Compensating = codes "Compensating"
state_text state.FailingActive = codes "Failing-Active"
state_text state.FailingCompleting = codes "Failing-Completing"
state_text state.FailingCanceling = codes "Failing-Canceling"
state_text state.FailingCompensating = codes "Failing-Compensating"
state_text state.NotCompleting = codes "NotCompleting"
state_text state.Exiting = codes "Exiting"
state_text state.Ended = codes "Ended"
state_text state.Other = codes "Other"

abbrev pub code_text : Code → List ℕ
code_text code.VersionMismatch = codes "VersionMismatch"
code_text code.MustUnderstand = codes "MustUnderstand"
code_text code.Client = codes "Client"
code_text code.Server = codes "Server"
code_text code.InvalidState = codes "InvalidState"
code_text code.InvalidProtocol = codes "InvalidProtocol"
code_text code.InvalidParameters = codes "InvalidParameters"
code_text code.CannotCreateContext = codes "CannotCreateContext"
code_text code.CannotRegisterParticipant = codes "CannotRegisterParticipant"
code_text code.InvalidAddressingHeader = codes "InvalidAddressingHeader"
code_text code.MessageAddressingHeaderRequired = codes "MessageAddressingHeaderRequired"
code_text code.DestinationUnreachable = codes "DestinationUnreachable"
code_text code.ActionNotSupported = codes "ActionNotSupported"
code_text code.EndpointUnavailable = codes "EndpointUnavailable"
code_text code.Other = codes "Other"

-- an object's name: its node's number, a dot, its counter
abbrev pub id_text : ℕ → List ℕ
id_text id = decimal (node_of id) ++ (codes "." ++ decimal (counter_of id))

-- no dot is among the bytes
abbrev pub HasNoDot : List ℕ → Type 0
HasNoDot = All (λ byte. byte ≢ 46)
