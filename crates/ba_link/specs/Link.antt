-- Believe: one link of an activity: what it is at a moment, what was sent on it, how it begins, and its moves.
-- A link joins a participant and the scope that its registration names; the end is the scope's, once it
-- has enrolled the participant.
use Rattle.std.specs.Prelude.{◌≡◌, Bool, true, false, List, [], ◌++◌, Option, None, Some, IfSome, unwrap_or, Contains, if◌then◌else◌}
use Rattle.std.specs.Option.{option_map, option_to_list}
use Rattle.ba_core.specs.EndRows.{end_row, end_tick, chosen_state, completed_state}
use Rattle.ba_core.specs.PartRows.{part_row, part_says, acted_state}
use Rattle.ba_core.specs.declared.protocols.Protocol.{Protocol}
use Rattle.ba_core.specs.declared.protocols.Verdict.{Verdict}
use Rattle.ba_core.specs.declared.notices.Act.{Act}
use Rattle.ba_core.specs.declared.notices.Notice.{Notice}
use Rattle.ba_core.specs.declared.notices.Notice.TheVariants as notice
use Rattle.ba_core.specs.declared.states.How.TheVariants.{Refused}
use Rattle.ba_core.specs.declared.states.CState.{CState}
use Rattle.ba_core.specs.declared.states.CState.TheVariants as end
use Rattle.ba_core.specs.declared.states.PState.{PState}
use Rattle.ba_core.specs.declared.states.PState.TheVariants as part
use Rattle.ba_core.specs.declared.states.StateName.{StateName}
use Rattle.ba_core.specs.declared.rows.CRow.{CRow}
use Rattle.ba_core.specs.declared.rows.CRow.TheVariants as crow
use Rattle.ba_core.specs.declared.rows.PRow.{PRow}
use Rattle.ba_core.specs.declared.rows.PRow.TheVariants as prow

-- the coordinator's end: its state, and the verdict that was set on it
pub record End : Type 0 where
  pub state : CState
  pub verdict : Option Verdict

-- a link at a moment; its scope is sealed where it takes no new end
pub record LinkState : Type 0 where
  pub protocol : Protocol
  pub end : Option End
  pub part : PState
  pub sealed : Bool

-- a message of a link (WS-Coordination 1.2, section 3.2, and the notices of WS-BusinessActivity 1.2):
-- a Register, its answer, the fault that refuses it for good (CannotRegisterParticipant), a fault that
-- refuses it for now, a notice to the participant, a notice to the end
pub data Message : Type 0 where
  register registered refused_for_good refused_for_now : Message
  to_part to_end : Notice → Message

-- a link: its state now, and all that was ever sent on it, the first of it first
pub record Link : Type 0 where
  pub state : LinkState
  pub sent : List Message

-- a link that begins: its participant is Registering, and has no end yet at a scope that may be sealed
abbrev pub registering_link : Protocol → Bool → List Message → Link
registering_link protocol sealed sent = record
    { state = record { protocol = protocol; end = None; part = part.Registering; sealed = sealed }; sent = sent }

-- a link that begins with both sides Active, no verdict and nothing sent
abbrev pub active_link : Protocol → Bool → Link
active_link protocol sealed = record {
  state = record { protocol = protocol; end = Some (record { state = end.Active; verdict = None }); part = part.Active; sealed = sealed };
  sent = [];
}

-- a move of one side of a link
pub data Move : Type 0 where
  -- the scope hears a Register: it enrols, answers again, refuses for good, refuses for now
  enrols answers_again refuses_for_good refuses_for_now : Move
  -- the participant is told that it is enrolled, or that it is refused for good
  is_enrolled is_refused : Move
  -- a notice that was sent arrives
  part_receives end_receives : Notice → Move
  -- a verdict is set on the end, its participant is asked to complete
  chooses : Verdict → Move
  completes : Move
  -- the participant's work comes to something
  acts : Act → Move
  -- a side says what its state lets it say
  end_ticks part_ticks : Move
  -- the scope takes no new end from now on
  seals : Move
  -- GetStatus or Status goes out, to the participant or to the end
  asks_part asks_end : Move
  tells_part tells_end : StateName → Move

-- what has to have been sent for a move
abbrev pub heard_by : Move → Option Message
heard_by enrols = Some register
heard_by answers_again = Some register
heard_by refuses_for_good = Some register
heard_by refuses_for_now = Some register
heard_by is_enrolled = Some registered
heard_by is_refused = Some refused_for_good
heard_by (part_receives n) = Some (to_part n)
heard_by (end_receives n) = Some (to_end n)
heard_by _ = None

-- what a move leads to: the state after it, and the message that it sends; None where there is no such move
abbrev pub Moved : Type 0
Moved = Option (LinkState × Option Message)

-- the link with this state and verdict of its end
abbrev pub with_end : LinkState → CState → Option Verdict → LinkState
with_end l s v = record l { end = Some (record { state = s; verdict = v }) }

-- the link with this state of its participant
abbrev pub with_part : LinkState → PState → LinkState
with_part l p = record l { part = p }

-- a move that needs an end
abbrev pub at_end : (End → Moved) → Option End → Moved
at_end move None = None
at_end move (Some e) = move e

-- a scope that isn't sealed enrols a participant that it hasn't enrolled
abbrev pub enrolled_link : LinkState → Option End → Bool → Moved
enrolled_link l None false = Some (with_end l end.Active None, Some registered)
enrolled_link l None true = None
enrolled_link l (Some e) sealed = None

-- a sealed scope refuses a participant that it hasn't enrolled
abbrev pub refused_link : LinkState → Option End → Bool → Moved
refused_link l None true = Some (l, Some refused_for_good)
refused_link l None false = None
refused_link l (Some e) sealed = None

-- a participant that is Registering is told where it stands
abbrev pub told_link : LinkState → PState → PState → Moved
told_link l part.Registering next = Some (with_part l next, None)
told_link l p next = None

-- the participant moves by its row
abbrev pub part_moved_link : LinkState → PRow → Moved
part_moved_link l prow.Invalid = None
part_moved_link l (prow.Row next prompt) = Some (with_part l next, None)

-- An end that a row puts into Completed and that has a verdict moves on by that verdict in the same step.
abbrev pub settled_state : Protocol → CState → Option Verdict → CState
settled_state protocol end.Completed (Some v) = unwrap_or (chosen_state protocol end.Completed v) end.Completed
settled_state protocol end.Completed None = end.Completed
settled_state protocol s verdict = s

-- the end moves by its row
abbrev pub end_moved_link : LinkState → Option Verdict → CRow → Moved
end_moved_link l verdict crow.Invalid = None
end_moved_link l verdict (crow.Row next prompt) = Some (with_end l (settled_state l.protocol next verdict) verdict, None)

-- a verdict is set once, where the state lets it be
abbrev pub chosen_link : LinkState → Verdict → Option Verdict → Option CState → Moved
chosen_link l v None (Some next) = Some (with_end l next (Some v), None)
chosen_link l v None None = None
chosen_link l v (Some before) next = None

-- a participant is asked to complete before there is a verdict, where the state lets it be
abbrev pub completed_link : LinkState → Option Verdict → Option CState → Moved
completed_link l None (Some next) = Some (with_end l next None, None)
completed_link l None None = None
completed_link l (Some verdict) next = None

-- the participant's work comes to something, where the state lets it
abbrev pub acted_link : LinkState → Option PState → Moved
acted_link l None = None
acted_link l (Some next) = Some (with_part l next, None)

-- what a participant's tick sends
abbrev pub part_message : PState → Option Message
part_message part.Registering = Some register
part_message p = option_map to_end (part_says p)

abbrev pub moved_link : LinkState → Move → Moved
moved_link l enrols = enrolled_link l l.end l.sealed
moved_link l answers_again = at_end (λ e. Some (l, Some registered)) l.end
moved_link l refuses_for_good = refused_link l l.end l.sealed
moved_link l refuses_for_now = Some (l, Some refused_for_now)
moved_link l is_enrolled = told_link l l.part part.Active
moved_link l is_refused = told_link l l.part (part.Ended Refused)
moved_link l (part_receives n) = part_moved_link l (part_row l.protocol l.part n)
moved_link l (end_receives n) = at_end (λ e. end_moved_link l e.verdict (end_row l.protocol e.state n)) l.end
moved_link l (chooses v) = at_end (λ e. chosen_link l v e.verdict (chosen_state l.protocol e.state v)) l.end
moved_link l completes = at_end (λ e. completed_link l e.verdict (completed_state l.protocol e.state)) l.end
moved_link l (acts a) = acted_link l (acted_state l.protocol l.part a)
moved_link l end_ticks = at_end (λ e. Some (with_end l (end_tick e.state).0 e.verdict, option_map to_part (end_tick e.state).1)) l.end
moved_link l part_ticks = Some (l, part_message l.part)
moved_link l seals = Some (record l { sealed = true }, None)
moved_link l asks_part = Some (l, Some (to_part notice.GetStatus))
moved_link l asks_end = Some (l, Some (to_end notice.GetStatus))
moved_link l (tells_part name) = Some (l, Some (to_part (notice.Status name)))
moved_link l (tells_end name) = Some (l, Some (to_end (notice.Status name)))

-- One move: what it hears was sent, the state moves by it, and its message joins what was sent, or is lost
-- before it ever went out.
pub record LinkStep (before after : Link) : Type 0 where
  pub move : Move
  pub joined : Bool
  pub message : Option Message
  pub heard : IfSome (heard_by move) (Contains before.sent)
  pub moves : moved_link before.state move ≡ Some (after.state, message)
  pub sent : after.sent ≡ before.sent ++ (if joined then option_to_list message else [])
