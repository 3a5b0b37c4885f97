-- Believe: what fits a link: the states of its sides, the verdict of its end, and what each message that was ever
-- sent on it says of them now.
use Rattle.std.specs.Prelude.{◌≡◌, ◌≢◌, Bool, true, false, not, ◌&&◌, List, [], ◌∷◌, Option, None, Some, IsTrue, is_some, is_none}
use Rattle.std.specs.List.{AllByRecursion}
use Rattle.ba_core.specs.EndRows.{end_row}
use Rattle.ba_core.specs.PartRows.{part_row}
use Rattle.ba_core.specs.declared.protocols.Protocol.{Protocol}
use Rattle.ba_core.specs.declared.protocols.Protocol.TheVariants.{Pc, Cc}
use Rattle.ba_core.specs.declared.notices.Notice.{Notice}
use Rattle.ba_core.specs.declared.notices.Notice.TheVariants as notice
use Rattle.ba_core.specs.declared.rows.CRow.TheVariants as crow
use Rattle.ba_core.specs.declared.rows.PRow.TheVariants as prow
use Rattle.ba_core.specs.declared.states.How.TheVariants.{Canceled, Closed, Compensated, Failed, Exited, NotCompleted}
use Rattle.ba_core.specs.declared.states.CState.{CState}
use Rattle.ba_core.specs.declared.states.CState.TheVariants as end
use Rattle.ba_core.specs.declared.states.PState.TheVariants as part
use Rattle.ba_link.specs.Link.{End, LinkState, Link, Message, register, registered, refused_for_good, refused_for_now, to_part, to_end}
use Rattle.ba_link.specs.Pairs.{is_possible_pair, is_undo, is_close, verdict_fits}
use Rattle.ba_link.specs.States.{end_among, part_among}

abbrev pub is_cc : Protocol → Bool
is_cc Pc = false
is_cc Cc = true

-- there is an end, and its state is one of these
abbrev pub end_in : List CState → Option End → Bool
end_in states None = false
end_in states (Some e) = end_among states e.state

-- there is an end, and its state is none of these
abbrev pub end_beyond : List CState → Option End → Bool
end_beyond states None = false
end_beyond states (Some e) = not (end_among states e.state)

-- there is an end, and it has the verdict Undo, the verdict Close
abbrev pub end_undoes : Option End → Bool
end_undoes None = false
end_undoes (Some e) = is_undo e.verdict

abbrev pub end_closes : Option End → Bool
end_closes None = false
end_closes (Some e) = is_close e.verdict

-- what holds now where a message was ever sent, a line a message; what is false was never sent
abbrev pub message_fits : LinkState → Message → Bool
message_fits l register = true
message_fits l registered = is_some l.end
message_fits l refused_for_good = is_none l.end && l.sealed
message_fits l refused_for_now = true
message_fits l (to_part notice.Complete) = is_cc l.protocol && end_beyond (end.Active ∷ end.CancelingActive ∷ []) l.end
message_fits l (to_part notice.Cancel) = end_undoes l.end && end_beyond (end.Active ∷ end.Completing ∷ []) l.end
message_fits l (to_part notice.Close) = end_closes l.end && end_in (end.Closing ∷ end.Ended Closed ∷ []) l.end
message_fits l (to_part notice.Compensate) =
    end_undoes l.end && end_in (end.Compensating ∷ end.FailingCompensating ∷ end.Ended Compensated ∷ end.Ended Failed ∷ []) l.end
    && part_among (part.Completed ∷ part.Compensating ∷ part.FailingCompensating ∷ part.Ended Compensated ∷ part.Ended Failed ∷ []) l.part
message_fits l (to_part notice.Failed) = end_in (end.Ended Failed ∷ []) l.end
message_fits l (to_part notice.Exited) = end_in (end.Ended Exited ∷ []) l.end
message_fits l (to_part notice.NotCompleted) = end_in (end.Ended NotCompleted ∷ []) l.end
message_fits l (to_part notice.GetStatus) = true
message_fits l (to_part (notice.Status name)) = true
message_fits l (to_part n) = false
message_fits l (to_end notice.Completed) =
    part_among (part.Completed ∷ part.Closing ∷ part.Compensating ∷ part.FailingCompensating ∷ part.Ended Closed ∷ part.Ended Compensated
    ∷ part.Ended Failed ∷ []) l.part
message_fits l (to_end notice.Closed) = part_among (part.Ended Closed ∷ []) l.part
message_fits l (to_end notice.Canceled) = part_among (part.Ended Canceled ∷ []) l.part
message_fits l (to_end notice.Compensated) = part_among (part.Ended Compensated ∷ []) l.part
message_fits l (to_end notice.Fail) =
    part_among (part.FailingActive ∷ part.FailingCompleting ∷ part.FailingCanceling ∷ part.FailingCompensating
    ∷ part.Ended Failed ∷ []) l.part
message_fits l (to_end notice.Exit) = part_among (part.Exiting ∷ part.Ended Exited ∷ []) l.part
message_fits l (to_end notice.CannotComplete) = part_among (part.NotCompleting ∷ part.Ended NotCompleted ∷ []) l.part
message_fits l (to_end notice.GetStatus) = true
message_fits l (to_end (notice.Status name)) = true
message_fits l (to_end n) = false

-- the two sides are in states that go together
abbrev pub PossiblePair : LinkState → Type 0
PossiblePair l = IsTrue (is_possible_pair l)

-- the verdict of the end goes with its state
abbrev pub VerdictFits : LinkState → Type 0
VerdictFits l = IsTrue (verdict_fits l.end)

-- what a message that was sent says holds now
abbrev pub MessageFits : LinkState → Message → Type 0
MessageFits l m = IsTrue (message_fits l m)

-- the link is as its moves make it
pub record LinkFits (link : Link) : Type 0 where
  pub pair : PossiblePair link.state
  pub verdict : VerdictFits link.state
  pub messages : AllByRecursion (MessageFits link.state) link.sent

-- the table has a row for the notice at the participant
abbrev pub HasPartRow : LinkState → Notice → Type 0
HasPartRow l n = part_row l.protocol l.part n ≢ prow.Invalid

-- there is an end, and the table has a row for the notice at it
abbrev pub HasEndRow : LinkState → Notice → Type 0
HasEndRow l n = (e : End) × (l.end ≡ Some e) × (end_row l.protocol e.state n ≢ crow.Invalid)
