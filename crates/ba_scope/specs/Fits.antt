-- Believe: what holds of each scope, whatever was done to it.
use Rattle.std.specs.Prelude.{◌≡◌, ◌≤◌, Bool, true, false, not, ◌&&◌, List, [], ◌∷◌, length, Option, None, Some, IsTrue}
use Rattle.std.specs.List.{AllByRecursion, list_all}
use Rattle.ba_core.specs.EndRows.{is_end_state}
use Rattle.ba_core.specs.declared.protocols.Kind.{Kind}
use Rattle.ba_core.specs.declared.protocols.Kind.TheVariants.{Atomic, Mixed}
use Rattle.ba_core.specs.declared.protocols.Protocol.{Protocol}
use Rattle.ba_core.specs.declared.protocols.Verdict.{Verdict}
use Rattle.ba_core.specs.declared.protocols.Verdict.TheVariants.{Close, Undo}
use Rattle.ba_core.specs.declared.states.How.TheVariants.{Canceled, Closed, Compensated, Failed, Exited, Refused}
use Rattle.ba_core.specs.declared.states.CState.{CState}
use Rattle.ba_core.specs.declared.states.CState.TheVariants as end
use Rattle.ba_core.specs.declared.states.PState.{PState}
use Rattle.ba_core.specs.declared.states.PState.TheVariants as part
use Rattle.ba_link.specs.Pairs.{is_close, is_undo, is_open, verdict_fits_state}
use Rattle.ba_link.specs.States.{end_among}
use Rattle.ba_message.specs.Endpoints.{same_epr}
use Rattle.ba_scope.specs.Rules.{own_choice}
use Rattle.ba_scope_ends.specs.Ends.{same_id, is_ended_state}
use Rattle.ba_scope_ends.specs.Parts.{part_fits}
use Rattle.ba_scope.specs.Scope.{ScopeState, is_own_id}
use Rattle.ba_scope.specs.declared.answers.TheConstants.{MOST_ENDS}
use Rattle.ba_scope_ends.specs.declared.ends.End.{End}
use Rattle.ba_scope_ends.specs.declared.parts.Part.{Part}

-- what an end sees of its scope: the state of the upward part, the scope's kind and verdict
pub record Above : Type 0 where
  pub up : Option PState
  pub kind : Kind
  pub verdict : Option Verdict

-- ---- the verdicts of ends that go with the scope's

-- the same verdict, or none in both
abbrev pub same_verdict : Option Verdict → Option Verdict → Bool
same_verdict None v = is_open v
same_verdict (Some Close) v = is_close v
same_verdict (Some Undo) v = is_undo v

-- An end's verdict is the scope's, but in a MixedOutcome root: there each end has one once the scope has. The
-- fifth value is the end's own choice.
abbrev pub verdict_fits_scope : Option PState → Kind → Option Verdict → Option Verdict → Option Verdict → Bool
verdict_fits_scope None Mixed None v choice = true
verdict_fits_scope None Mixed (Some w) v choice = not (is_open v)
verdict_fits_scope None Atomic scope v choice = same_verdict scope v
verdict_fits_scope (Some up) kind scope v choice = same_verdict scope v

-- ---- the states of ends that go with the state of the upward part

-- completed, or told to close, or gone
abbrev pub is_below_completed : CState → Bool
is_below_completed = end_among (end.Completed ∷ end.Closing ∷ end.Ended Closed ∷ end.Exiting ∷ end.Ended Exited ∷ [])

-- Below a participant that is at work, or undoes its work, an end may be in any state; below one that is completed
-- or closes, in those that go with it; below one that isn't enrolled there is none; below each other it is Ended. The
-- second value is the end's verdict.
abbrev pub state_fits_above : Option PState → Option Verdict → CState → Bool
state_fits_above None v s = true
state_fits_above (Some part.Registering) v s = false
state_fits_above (Some (part.Ended Refused)) v s = false
state_fits_above (Some part.Active) v s = true
state_fits_above (Some part.Completing) v s = true
state_fits_above (Some part.Canceling) v s = true
state_fits_above (Some part.Compensating) v s = true
state_fits_above (Some part.Completed) v s = is_below_completed s
state_fits_above (Some part.Closing) v s = is_below_completed s
state_fits_above (Some (part.Ended Closed)) v s = is_below_completed s && is_ended_state s
state_fits_above (Some p) v s = is_ended_state s

-- ---- the verdict of a scope that goes with the state of its upward part

-- A MixedOutcome root has none or Undo; a child has Close where it was told to close, Undo where it was told to
-- undo its work, and none before.
abbrev pub verdict_fits_above : Option PState → Kind → Option Verdict → Bool
verdict_fits_above None Atomic v = true
verdict_fits_above None Mixed v = not (is_close v)
verdict_fits_above (Some part.Closing) kind v = is_close v
verdict_fits_above (Some (part.Ended Closed)) kind v = is_close v
verdict_fits_above (Some part.Canceling) kind v = is_undo v
verdict_fits_above (Some part.Compensating) kind v = is_undo v
verdict_fits_above (Some part.FailingCanceling) kind v = is_undo v
verdict_fits_above (Some part.FailingCompensating) kind v = is_undo v
verdict_fits_above (Some (part.Ended Canceled)) kind v = is_undo v
verdict_fits_above (Some (part.Ended Compensated)) kind v = is_undo v
verdict_fits_above (Some (part.Ended Failed)) kind v = not (is_close v)
verdict_fits_above (Some p) kind v = is_open v

abbrev pub verdict_goes : Above → Bool
verdict_goes a = verdict_fits_above a.up a.kind a.verdict

-- ---- an end, a participant, a scope

-- the state is one of the protocol, and the verdict and the state go together, with what the end sees of its scope
abbrev pub goes_with : Above → Protocol → CState → Option Verdict → Option Verdict → Bool
goes_with a protocol s v choice =
    (is_end_state protocol s && verdict_fits_state s v)
    && (verdict_fits_scope a.up a.kind a.verdict v choice && state_fits_above a.up v s)

abbrev pub end_fits : Above → End → Bool
end_fits a e = goes_with a e.protocol e.state e.verdict (own_choice e)

abbrev pub up_state : Option Part → Option PState
up_state None = None
up_state (Some p) = Some p.state

abbrev pub above : ScopeState → Above
above s = record { up = up_state s.up; kind = s.kind; verdict = s.verdict }

abbrev pub up_fits : Option Part → Bool
up_fits None = true
up_fits (Some p) = part_fits p

-- the end has neither the Id nor the participant of this one
abbrev pub is_other_end : End → End → Bool
is_other_end e other = not (same_id e.id other.id) && not (same_epr e.participant other.participant)

-- no two ends have one Id, or one participant
abbrev pub are_apart : List End → Bool
are_apart [] = true
are_apart (e ∷ es) = list_all (is_other_end e) es && are_apart es

-- no end has the Id of its scope, or of the upward part
abbrev pub are_ids_free : ScopeState → List End → Bool
are_ids_free s es = list_all (λ e. not (is_own_id s e.id)) es

pub record ScopeFits (s : ScopeState) : Type 0 where
  pub ends : AllByRecursion (λ e. IsTrue (end_fits (above s) e)) s.ends
  pub verdict : IsTrue (verdict_goes (above s))
  pub up : IsTrue (up_fits s.up)
  pub apart : IsTrue (are_apart s.ends)
  pub ids : IsTrue (are_ids_free s s.ends)
  pub few : length s.ends ≤ s.limit
  pub limit : s.limit ≡ MOST_ENDS
