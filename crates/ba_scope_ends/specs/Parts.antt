-- Believe: a participant by itself, and what its coordinator's answers and notices, its own acts and ticks make of it.
use Rattle.std.specs.Prelude.{Bool, true, false, not, [], ◌∷◌, Option, None, Some, is_some, ◌&&◌, is_none, unwrap_or, if◌then◌else◌}
use Rattle.ba_core.specs.Messages.{part_name}
use Rattle.ba_core.specs.PartRows.{part_says, acted_state, is_part_state}
use Rattle.ba_core.specs.declared.identifiers.Id.{Id}
use Rattle.ba_core.specs.declared.notices.Act.{Act}
use Rattle.ba_core.specs.declared.notices.Act.TheVariants as act
use Rattle.ba_core.specs.declared.notices.Notice.TheVariants as notice
use Rattle.ba_core.specs.declared.protocols.Protocol.{Protocol}
use Rattle.ba_core.specs.declared.protocols.Verdict.{Verdict}
use Rattle.ba_core.specs.declared.protocols.Verdict.TheVariants.{Close, Undo}
use Rattle.ba_core.specs.declared.rows.PRow.{PRow}
use Rattle.ba_core.specs.declared.rows.PRow.TheVariants as prow
use Rattle.ba_core.specs.declared.states.How.TheVariants.{Refused}
use Rattle.ba_core.specs.declared.states.PState.{PState}
use Rattle.ba_core.specs.declared.states.PState.TheVariants as part
use Rattle.ba_scope_ends.specs.declared.parts.Part.{Part}
use Rattle.ba_link.specs.States.{part_among}
use Rattle.ba_message.specs.declared.endpoints.Epr.{Epr}
use Rattle.ba_scope_ends.specs.Ends.{Tick, same_id}

-- ---- states

-- there is a participant, and it isn't enrolled yet
abbrev pub is_registering : Option Part → Bool
is_registering None = false
is_registering (Some p) = part_among (part.Registering ∷ []) p.state

-- in this state a participant has no coordinator
abbrev pub has_no_coordinator : PState → Bool
has_no_coordinator = part_among (part.Registering ∷ part.Ended Refused ∷ [])

-- the state is one of the protocol, and a participant keeps a coordinator exactly where it was enrolled
abbrev pub part_fits : Part → Bool
part_fits p =
    is_part_state p.protocol p.state
    && (if has_no_coordinator p.state then is_none p.coordinator else is_some p.coordinator)

-- it has this Id and a coordinator, to which it may owe its Status or whose Status it may ask for
abbrev pub is_enrolled_as : Id → Part → Bool
is_enrolled_as id p = same_id p.id id && not (has_no_coordinator p.state)

-- ---- what changes it

-- the participant enrolled, with the coordinator's endpoint
abbrev pub enrolled_part : Epr → Part → Part
enrolled_part coordinator p = record p { state = part.Active; coordinator = Some coordinator }

-- the participant refused for good
abbrev pub refused_part : Part → Part
refused_part p = record p { state = part.Ended Refused }

abbrev pub part_in_state : PState → Part → Part
part_in_state next p = record p { state = next }

-- its state after a row
abbrev pub state_after_row : PState → PRow → PState
state_after_row before prow.Invalid = before
state_after_row before (prow.Row next prompt) = next

-- what a drained scope came to, as an act of its own participant
abbrev pub act_when_drained : PState → Bool → Option Act
act_when_drained part.Closing failed = Some act.Closed
act_when_drained part.Canceling failed = Some (if failed then act.Fail else act.Canceled)
act_when_drained part.Compensating failed = Some (if failed then act.Fail else act.Compensated)
act_when_drained p failed = None

-- the state that an act leads to, where there is an act
abbrev pub state_after_act : Protocol → PState → Option Act → PState
state_after_act protocol p None = p
state_after_act protocol p (Some a) = unwrap_or (acted_state protocol p a) p

-- a participant that acts, where its state lets it
abbrev pub acting_part : Act → Part → Part
acting_part a p = record p { state = state_after_act p.protocol p.state (Some a) }

-- the tick of a participant: its Status where it owes one, GetStatus where it asks, else what its state lets it say
abbrev pub tick_of_part : Part → Tick Part
tick_of_part p =
    if p.owes then record { after = record p { owes = false }; says = Some (notice.Status (part_name p.state)) }
    else if p.asks then record { after = record p { asks = false }; says = Some notice.GetStatus }
    else record { after = p; says = part_says p.state }

abbrev pub part_owing : Part → Part
part_owing p = record p { owes = true }

abbrev pub part_asking : Part → Part
part_asking p = record p { asks = true }

-- ---- the verdict that comes from above

-- the verdict that a participant's new state hands to its scope
abbrev pub verdict_for_ends : PState → Option Verdict
verdict_for_ends part.Closing = Some Close
verdict_for_ends part.Canceling = Some Undo
verdict_for_ends part.Compensating = Some Undo
verdict_for_ends p = None

-- the verdict that comes from above as a participant goes from one state to the next: none where it stays
abbrev pub verdict_on_the_way : PState → PState → Option Verdict
verdict_on_the_way before next = if part_among (before ∷ []) next then None else verdict_for_ends next
