-- Believe: a coordinator's end by itself, what verdicts, notices and ticks make of it, and look-ups in a list of ends.
use Rattle.std.specs.List.{find}
use Rattle.std.specs.Option.{option_map}
use Rattle.std.specs.Prelude.{Bool, true, false, not, List, [], ◌∷◌, nat_eq, Option, None, Some, is_none, unwrap_or, if◌then◌else◌}
use Rattle.ba_core.specs.EndRows.{end_row, end_tick, chosen_state, completed_state, is_end_state}
use Rattle.ba_core.specs.Messages.{end_name}
use Rattle.ba_core.specs.declared.identifiers.Id.{Id}
use Rattle.ba_core.specs.declared.notices.Notice.{Notice}
use Rattle.ba_core.specs.declared.notices.Notice.TheVariants as notice
use Rattle.ba_core.specs.declared.protocols.Protocol.{Protocol}
use Rattle.ba_core.specs.declared.protocols.Verdict.{Verdict}
use Rattle.ba_core.specs.declared.protocols.Verdict.TheVariants.{Close, Undo}
use Rattle.ba_core.specs.declared.rows.CRow.{CRow}
use Rattle.ba_core.specs.declared.rows.CRow.TheVariants as crow
use Rattle.ba_core.specs.declared.states.CState.{CState}
use Rattle.ba_core.specs.declared.states.CState.TheVariants as end
use Rattle.ba_core.specs.declared.states.How.TheVariants.{Exited}
use Rattle.ba_scope_ends.specs.declared.ends.End.{End}
use Rattle.ba_link.specs.Link.{settled_state}
use Rattle.ba_link.specs.States.{end_among}
use Rattle.ba_message.specs.Endpoints.{same_epr}
use Rattle.ba_message.specs.declared.endpoints.Epr.{Epr}

-- what a tick makes of an object, and the notice that it sends
pub record Tick (A : Type 0) : Type 0 where
  pub after : A
  pub says : Option Notice

-- ---- in a list of ends

abbrev pub same_id : Id → Id → Bool
same_id a b = nat_eq a.0 b.0

abbrev pub end_with_id : List End → Id → Option End
end_with_id ends id = find (λ e. same_id e.id id) ends

-- the end of a participant: a participant is the same where its whole endpoint reference is
abbrev pub end_of : List End → Epr → Option End
end_of ends participant = find (λ e. same_epr e.participant participant) ends

-- the Id of the first end whose state fails the test
abbrev pub first_failing : (CState → Bool) → List End → Option Id
first_failing test ends = option_map (λ e. e.id) (find (λ e. not (test e.state)) ends)

-- ---- states

-- the end's state is one of its protocol
abbrev pub has_own_state : End → Bool
has_own_state e = is_end_state e.protocol e.state

-- an end in this state is no hindrance to closing
abbrev pub is_ready_state : CState → Bool
is_ready_state = end_among (end.Completed ∷ end.Exiting ∷ end.Ended Exited ∷ [])

abbrev pub is_ended_state : CState → Bool
is_ended_state (end.Ended how) = true
is_ended_state s = false

-- an end in this state is no hindrance to a verdict on its scope
abbrev pub is_ready_for : Verdict → CState → Bool
is_ready_for Close s = is_ready_state s
is_ready_for Undo s = true

-- ---- a new end, and what verdicts, notices and ticks make of an end

abbrev pub new_end : Id → Protocol → Epr → End
new_end id protocol participant =
    record { id = id; protocol = protocol; participant = participant; state = end.Active; verdict = None; owes = false; asks = false }

abbrev pub end_in_state : CState → End → End
end_in_state next e = record e { state = next }

-- the end with a verdict set on it: it keeps the verdict, and moves where its state lets it
abbrev pub end_with_verdict : Verdict → End → End
end_with_verdict v e = record e { state = unwrap_or (chosen_state e.protocol e.state v) e.state; verdict = Some v }

-- the same, where the end has none
abbrev pub end_with_verdict_if_none : Verdict → End → End
end_with_verdict_if_none v e = if is_none e.verdict then end_with_verdict v e else e

-- an end whose participant is asked to complete, where its state lets it
abbrev pub completing_end : End → End
completing_end e = record e { state = unwrap_or (completed_state e.protocol e.state) e.state }

-- the end after a row, settled by its verdict
abbrev pub end_after_row : CRow → End → End
end_after_row crow.Invalid e = e
end_after_row (crow.Row next prompt) e = record e { state = settled_state e.protocol next e.verdict }

-- the row as it stands for the end, once the end has settled
abbrev pub settled_row : CRow → End → CRow
settled_row crow.Invalid e = crow.Invalid
settled_row (crow.Row next prompt) e = crow.Row (settled_state e.protocol next e.verdict) prompt

-- the end after a notice
abbrev pub end_after_notice : Notice → End → End
end_after_notice n e = end_after_row (end_row e.protocol e.state n) e

-- the tick of an end: its Status where it owes one, GetStatus where it asks, else what its state lets it say
abbrev pub tick_of_end : End → Tick End
tick_of_end e =
    if e.owes then record { after = record e { owes = false }; says = Some (notice.Status (end_name e.state)) }
    else if e.asks then record { after = record e { asks = false }; says = Some notice.GetStatus }
    else record { after = end_in_state (end_tick e.state).0 e; says = (end_tick e.state).1 }

abbrev pub end_owing : End → End
end_owing e = record e { owes = true }

abbrev pub end_asking : End → End
end_asking e = record e { asks = true }
