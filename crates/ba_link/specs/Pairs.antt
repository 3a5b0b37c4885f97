-- Believe: which states the two sides of a link may be in together, and which verdict an end's state goes with.
use Rattle.std.specs.Prelude.{Bool, true, false, not, ◌&&◌, ◌||◌, List, [], ◌∷◌, Option, None, Some}
use Rattle.ba_core.specs.declared.protocols.Protocol.{Protocol}
use Rattle.ba_core.specs.declared.protocols.Protocol.TheVariants.{Pc, Cc}
use Rattle.ba_core.specs.declared.protocols.Verdict.{Verdict}
use Rattle.ba_core.specs.declared.protocols.Verdict.TheVariants.{Close, Undo}
use Rattle.ba_core.specs.declared.states.How.TheVariants.{Canceled, Closed, Compensated, Failed, Exited, NotCompleted, Refused}
use Rattle.ba_core.specs.declared.states.CState.{CState}
use Rattle.ba_core.specs.declared.states.CState.TheVariants as end
use Rattle.ba_core.specs.declared.states.PState.{PState}
use Rattle.ba_core.specs.declared.states.PState.TheVariants.{Registering, Active, Completing, Canceling, Completed, Closing, Compensating}
use Rattle.ba_core.specs.declared.states.PState.TheVariants.{FailingActive, FailingCompleting, FailingCanceling, FailingCompensating}
use Rattle.ba_core.specs.declared.states.PState.TheVariants.{NotCompleting, Exiting, Ended}
use Rattle.ba_link.specs.States.{part_among}
use Rattle.ba_link.specs.Link.{End, LinkState}

-- the states of a participant that go with a state of its end, a line a row
abbrev pub partners : Protocol → CState → List PState
partners Pc end.Active = Registering ∷ Active ∷ FailingActive ∷ NotCompleting ∷ Exiting ∷ Completed ∷ []
partners Cc end.Active = Registering ∷ Active ∷ FailingActive ∷ NotCompleting ∷ Exiting ∷ []
partners Cc end.Completing = Registering ∷ Active ∷ Completing ∷ Completed ∷ FailingActive ∷ FailingCompleting
    ∷ NotCompleting ∷ Exiting ∷ []
partners Pc end.Canceling = Registering ∷ Active ∷ Canceling ∷ Completed ∷ FailingActive ∷ FailingCanceling ∷ NotCompleting ∷ Exiting
    ∷ Ended Canceled ∷ []
partners Cc end.CancelingActive = Registering ∷ Active ∷ Canceling ∷ FailingActive ∷ FailingCanceling ∷ NotCompleting ∷ Exiting
    ∷ Ended Canceled ∷ []
partners Cc end.CancelingCompleting = Registering ∷ Active ∷ Canceling ∷ Completed ∷ FailingActive ∷ FailingCanceling ∷ NotCompleting
    ∷ Exiting ∷ Ended Canceled ∷ Completing ∷ FailingCompleting ∷ []
partners protocol end.Completed = Completed ∷ []
partners protocol end.Closing = Completed ∷ Closing ∷ Ended Closed ∷ []
partners protocol end.Compensating = Completed ∷ Compensating ∷ FailingCompensating ∷ Ended Compensated ∷ []
partners protocol end.FailingActive = FailingActive ∷ []
partners Cc end.FailingCompleting = FailingActive ∷ FailingCompleting ∷ []
partners Pc end.FailingCanceling = FailingActive ∷ FailingCanceling ∷ []
partners Cc end.FailingCanceling = FailingActive ∷ FailingCanceling ∷ FailingCompleting ∷ []
partners protocol end.FailingCompensating = FailingCompensating ∷ []
partners protocol end.NotCompleting = NotCompleting ∷ []
partners protocol end.Exiting = Exiting ∷ []
partners protocol (end.Ended Canceled) = Ended Canceled ∷ []
partners protocol (end.Ended Closed) = Ended Closed ∷ []
partners protocol (end.Ended Compensated) = Ended Compensated ∷ []
partners Pc (end.Ended Failed) = FailingActive ∷ FailingCanceling ∷ FailingCompensating ∷ Ended Failed ∷ []
partners Cc (end.Ended Failed) = FailingActive ∷ FailingCompleting ∷ FailingCanceling ∷ FailingCompensating ∷ Ended Failed ∷ []
partners protocol (end.Ended Exited) = Exiting ∷ Ended Exited ∷ []
partners protocol (end.Ended NotCompleted) = NotCompleting ∷ Ended NotCompleted ∷ []
partners protocol s = []

-- Without an end the participant is Registering, or it was refused by a scope that takes no new end.
abbrev pub fits_end : Protocol → Bool → Option End → PState → Bool
fits_end protocol sealed None p = part_among (Registering ∷ []) p || (sealed && part_among (Ended Refused ∷ []) p)
fits_end protocol sealed (Some e) p = part_among (partners protocol e.state) p

-- the two sides are in states that go together
abbrev pub is_possible_pair : LinkState → Bool
is_possible_pair l = fits_end l.protocol l.sealed l.end l.part

abbrev pub is_undo : Option Verdict → Bool
is_undo (Some Undo) = true
is_undo (Some Close) = false
is_undo None = false

abbrev pub is_close : Option Verdict → Bool
is_close (Some Close) = true
is_close (Some Undo) = false
is_close None = false

abbrev pub is_open : Option Verdict → Bool
is_open None = true
is_open (Some v) = false

-- the verdicts that go with a state of an end
abbrev pub verdict_fits_state : CState → Option Verdict → Bool
verdict_fits_state end.Active v = is_open v
verdict_fits_state end.Completing v = is_open v
verdict_fits_state end.Completed v = is_open v
verdict_fits_state end.Closing v = is_close v
verdict_fits_state (end.Ended Closed) v = is_close v
verdict_fits_state end.Canceling v = is_undo v
verdict_fits_state end.CancelingActive v = is_undo v
verdict_fits_state end.CancelingCompleting v = is_undo v
verdict_fits_state end.Compensating v = is_undo v
verdict_fits_state end.FailingCanceling v = is_undo v
verdict_fits_state end.FailingCompensating v = is_undo v
verdict_fits_state (end.Ended Canceled) v = is_undo v
verdict_fits_state (end.Ended Compensated) v = is_undo v
verdict_fits_state end.Exiting v = true
verdict_fits_state (end.Ended Exited) v = true
verdict_fits_state s v = not (is_close v)

-- the end's verdict goes with its state
abbrev pub verdict_fits : Option End → Bool
verdict_fits None = true
verdict_fits (Some e) = verdict_fits_state e.state e.verdict
