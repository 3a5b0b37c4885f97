-- Believe: what each call of a scope answers, and the scope after it. A refusal changes nothing; the refusals
-- of a call stand in their order.
use Rattle.std.specs.Prelude.{ℕ, Bool, true, false, not, ◌&&◌, ◌||◌, [], ◌∷◌, ◌++◌, map, nat_le, Option, None, Some, is_some, is_none}
use Rattle.std.specs.Prelude.{unwrap_or, if◌then◌else◌}
use Rattle.std.specs.Option.{option_map}
use Rattle.ba_core.specs.EndRows.{end_row, chosen_state, completed_state}
use Rattle.ba_core.specs.PartRows.{part_row, acted_state}
use Rattle.ba_core.specs.declared.identifiers.Id.{Id}
use Rattle.ba_core.specs.declared.notices.Act.{Act}
use Rattle.ba_core.specs.declared.notices.Act.TheVariants as act
use Rattle.ba_core.specs.declared.notices.Leave.{Leave}
use Rattle.ba_core.specs.declared.notices.Leave.TheVariants as leave
use Rattle.ba_core.specs.declared.notices.Notice.{Notice}
use Rattle.ba_core.specs.declared.protocols.Kind.{Kind}
use Rattle.ba_core.specs.declared.protocols.Kind.TheVariants.{Atomic, Mixed}
use Rattle.ba_core.specs.declared.protocols.Protocol.{Protocol}
use Rattle.ba_core.specs.declared.protocols.Verdict.{Verdict}
use Rattle.ba_core.specs.declared.protocols.Verdict.TheVariants.{Close, Undo}
use Rattle.ba_core.specs.declared.rows.CRow.{CRow}
use Rattle.ba_core.specs.declared.rows.CRow.TheVariants as crow
use Rattle.ba_core.specs.declared.rows.PRow.{PRow}
use Rattle.ba_core.specs.declared.rows.PRow.TheVariants as prow
use Rattle.ba_core.specs.declared.states.CState.{CState}
use Rattle.ba_core.specs.declared.states.PState.{PState}
use Rattle.ba_core.specs.declared.states.PState.TheVariants as part
use Rattle.ba_link.specs.States.{part_among}
use Rattle.ba_message.specs.declared.endpoints.Epr.{Epr}
use Rattle.ba_scope_ends.specs.Ends.{same_id, end_with_id, first_failing, is_ready_state, is_ended_state, Tick, end_with_verdict}
use Rattle.ba_scope_ends.specs.Ends.{end_with_verdict_if_none, is_ready_for, end_in_state, settled_row, end_after_notice, tick_of_end, end_owing}
use Rattle.ba_scope_ends.specs.Ends.{end_asking, new_end}
use Rattle.ba_scope_ends.specs.Parts.{is_registering, part_in_state, verdict_on_the_way, state_after_row, tick_of_part, act_when_drained}
use Rattle.ba_scope_ends.specs.Parts.{state_after_act, part_owing, part_asking, is_enrolled_as, enrolled_part, refused_part}
use Rattle.ba_scope.specs.Scope.{ScopeState, is_drained, any_failed, is_sealed, is_full}
use Rattle.ba_scope.specs.declared.answers.Drained.{Drained}
use Rattle.ba_scope.specs.declared.answers.EnrolFault.{EnrolFault}
use Rattle.ba_scope.specs.declared.answers.EnrolFault.TheVariants.{NotYetEnrolled, Sealed, Full}
use Rattle.ba_scope.specs.declared.answers.Said.{Said}
use Rattle.ba_scope.specs.declared.answers.Said.TheVariants as said
use Rattle.ba_core.specs.declared.refusals.TheConstants.{ALREADY_DECIDED, NOT_READY, NOT_A_ROOT, WRONG_KIND, NO_SUCH_END, NOT_A_CHILD}
use Rattle.ba_core.specs.declared.refusals.TheConstants.{NOT_DRAINED, WRONG_STATE}
use Rattle.ba_scope.specs.declared.answers.TheConstants.{MOST_ENDS}
use Rattle.ba_scope_ends.specs.declared.ends.End.{End}
use Rattle.ba_scope_ends.specs.declared.parts.Part.{Part}

-- what a call answers, and the scope after it
pub record ScopeStep (A : Type 0) : Type 0 where
  pub after : ScopeState
  pub answer : A

-- a refusal by its number, and the object that shows it: the scope stays
abbrev pub refused_step : ScopeState → ℕ → Id → ScopeStep Said
refused_step s number id = record { after = s; answer = said.No number id }

-- it is done, and leads to this scope
abbrev pub done_step : ScopeState → ScopeStep Said
done_step s = record { after = s; answer = said.Ok }

-- the step, where the state of each end passes the test; else a refusal, which the first end that fails it shows
abbrev pub where_each_end : ScopeState → (CState → Bool) → ℕ → ScopeStep Said → ScopeStep Said
where_each_end s test number step = elim (first_failing test s.ends) [ None ↦ step | Some id ↦ refused_step s number id ]

-- the end changed, where it has this Id
abbrev pub changed_at : Id → (End → End) → End → End
changed_at id change e = if same_id e.id id then change e else e

-- the scope with its end of this Id changed
abbrev pub with_end_changed : Id → (End → End) → ScopeState → ScopeState
with_end_changed id change s = record s { ends = map (changed_at id change) s.ends }

-- ---- verdicts

-- A choice of an end's own, which would stand for its scope's verdict in a MixedOutcome child: no end has one.
abbrev pub own_choice : End → Option Verdict
own_choice e = None

-- the verdict that is set on an end where its scope gets this one: an end's own choice counts only where it closes
abbrev pub word_for : Verdict → End → Verdict
word_for Undo e = Undo
word_for Close e = unwrap_or (own_choice e) Close

-- the scope with a verdict set on it and on each of its ends
abbrev pub scope_with_verdict : Verdict → ScopeState → ScopeState
scope_with_verdict v s = record s { verdict = Some v; ends = map (λ e. end_with_verdict (word_for v e) e) s.ends }

abbrev pub is_atomic : Kind → Bool
is_atomic Atomic = true
is_atomic Mixed = false

abbrev pub decide : ScopeState → Verdict → ScopeStep Said
decide s v =
    if is_some s.up then refused_step s NOT_A_ROOT s.id
    else if not (is_atomic s.kind) then refused_step s WRONG_KIND s.id
    else if is_some s.verdict then refused_step s ALREADY_DECIDED s.id
    else where_each_end s (is_ready_for v) NOT_READY (done_step (scope_with_verdict v s))

-- the verdict on this end alone, where its state lets it
abbrev pub choose_for : ScopeState → Id → Verdict → Option CState → ScopeStep Said
choose_for s id v None = refused_step s NOT_READY id
choose_for s id v (Some next) = done_step (with_end_changed id (end_with_verdict v) s)

abbrev pub choose : ScopeState → Id → Verdict → ScopeStep Said
choose s id v =
    elim (end_with_id s.ends id) [
      | None ↦ refused_step s NO_SUCH_END id
      | Some e ↦
          if is_some s.up then refused_step s NOT_A_ROOT id
          else if is_atomic s.kind then refused_step s WRONG_KIND id
          else if is_some e.verdict then refused_step s ALREADY_DECIDED id
          else choose_for s id v (chosen_state e.protocol e.state v)
    ]

-- the end's participant asked to complete, where its state lets it
abbrev pub complete_for : ScopeState → Id → Option CState → ScopeStep Said
complete_for s id None = refused_step s WRONG_STATE id
complete_for s id (Some next) = done_step (with_end_changed id (end_in_state next) s)

abbrev pub complete : ScopeState → Id → ScopeStep Said
complete s id =
    elim (end_with_id s.ends id) [
      | None ↦ refused_step s NO_SUCH_END id
      | Some e ↦
          if is_some s.verdict || is_some e.verdict then refused_step s ALREADY_DECIDED id
          else complete_for s id (completed_state e.protocol e.state)
    ]

-- ---- deadlines

abbrev pub is_past : Option ℕ → ℕ → Bool
is_past None now = false
is_past (Some deadline) now = nat_le deadline now

-- a root without verdict whose deadline is past
abbrev pub is_expired : ScopeState → ℕ → Bool
is_expired s now = is_none s.up && (is_none s.verdict && is_past s.deadline now)

abbrev pub expire : ScopeState → ℕ → ScopeStep Bool
expire s now =
    if is_expired s now
    then record { after = record s { verdict = Some Undo; ends = map (end_with_verdict_if_none Undo) s.ends }; answer = true }
    else record { after = s; answer = false }

-- what the scope came to, once each end is Ended
abbrev pub drained_as : ScopeState → Option Drained
drained_as s = if is_drained s then Some (record { any_failed = any_failed s }) else None

-- ---- enrolling

-- why a scope doesn't enrol a participant that it hasn't enrolled, where it doesn't
abbrev pub enrol_refusal : ScopeState → Option EnrolFault
enrol_refusal s =
    if is_registering s.up then Some NotYetEnrolled
    else if is_sealed s then Some Sealed
    else if is_full s then Some Full
    else None

-- the scope with a new end after its others
abbrev pub scope_with_end : ScopeState → Id → Protocol → Epr → ScopeState
scope_with_end s id protocol participant = record s { ends = s.ends ++ new_end id protocol participant ∷ [] }

-- ---- the upward part: the participant by which a child is enrolled above

abbrev pub with_up : ScopeState → Part → ScopeState
with_up s up = record s { up = Some up }

-- the upward part's work is done, where each end is ready
abbrev pub finish_for : ScopeState → Part → Option PState → ScopeStep Said
finish_for s up None = refused_step s WRONG_STATE s.id
finish_for s up (Some next) = where_each_end s is_ready_state NOT_READY (done_step (with_up s (part_in_state next up)))

abbrev pub finish : ScopeState → ScopeStep Said
finish s =
    elim s.up [
      | None ↦ refused_step s NOT_A_CHILD s.id
      | Some up ↦ finish_for s up (acted_state up.protocol up.state act.Completed)
    ]

abbrev pub leave_act : Leave → Act
leave_act leave.Exit = act.Exit
leave_act leave.CannotComplete = act.CannotComplete
leave_act leave.Fail = act.Fail

-- Active, or Completing
abbrev pub may_leave : PState → Bool
may_leave = part_among (part.Active ∷ part.Completing ∷ [])

-- the upward part leaves, where each end is Ended
abbrev pub leave_for : ScopeState → Part → Option PState → ScopeStep Said
leave_for s up None = refused_step s WRONG_STATE s.id
leave_for s up (Some next) = where_each_end s is_ended_state NOT_DRAINED (done_step (with_up s (part_in_state next up)))

abbrev pub leave_by : ScopeState → Leave → ScopeStep Said
leave_by s how =
    elim s.up [
      | None ↦ refused_step s NOT_A_CHILD s.id
      | Some up ↦
          if may_leave up.state then leave_for s up (acted_state up.protocol up.state (leave_act how))
          else refused_step s WRONG_STATE s.id
    ]

-- the verdict that is there afterwards: the new one, where there is one
abbrev pub verdict_then : Option Verdict → Option Verdict → Option Verdict
verdict_then None before = before
verdict_then (Some v) before = Some v

-- the end with a verdict set on it, where there is one
abbrev pub end_with_verdict_if_any : Option Verdict → End → End
end_with_verdict_if_any None e = e
end_with_verdict_if_any (Some v) e = end_with_verdict (word_for v e) e

-- the scope with a verdict set on it and on each of its ends, where there is one
abbrev pub scope_with_verdict_if_any : Option Verdict → ScopeState → ScopeState
scope_with_verdict_if_any v s = record s { verdict = verdict_then v s.verdict; ends = map (end_with_verdict_if_any v) s.ends }

-- the scope after its upward part has gone to the next state
abbrev pub with_up_moved : ScopeState → Part → PState → ScopeState
with_up_moved s up next = scope_with_verdict_if_any (verdict_on_the_way up.state next) (with_up s (part_in_state next up))

abbrev pub up_receive : ScopeState → Notice → ScopeStep PRow
up_receive s n =
    elim s.up [
      | None ↦ record { after = s; answer = prow.Invalid }
      | Some up ↦
          let row = part_row up.protocol up.state n in
          record { after = with_up_moved s up (state_after_row up.state row); answer = row }
    ]

-- ---- an end receives and ticks

abbrev pub end_receive : ScopeState → Id → Notice → ScopeStep CRow
end_receive s id n =
    elim (end_with_id s.ends id) [
      | None ↦ record { after = s; answer = crow.Invalid }
      | Some e ↦ record { after = with_end_changed id (end_after_notice n) s; answer = settled_row (end_row e.protocol e.state n) e }
    ]

abbrev pub tick_end : ScopeState → Id → Tick ScopeState
tick_end s id =
    elim (end_with_id s.ends id) [
      | None ↦ record { after = s; says = None }
      | Some e ↦ record { after = with_end_changed id (λ it. (tick_of_end it).after) s; says = (tick_of_end e).says }
    ]

-- ---- a participant ticks

-- the upward part's state when it ticks: it acts once the scope is drained
abbrev pub state_at_tick : ScopeState → Part → PState
state_at_tick s up =
    if is_drained s then state_after_act up.protocol up.state (act_when_drained up.state (any_failed s)) else up.state

-- a part that neither owes nor asks acts where its scope is drained, and ticks
abbrev pub part_at_tick : ScopeState → Part → Part
part_at_tick s up = if up.owes || up.asks then up else part_in_state (state_at_tick s up) up

abbrev pub tick_up : ScopeState → Tick ScopeState
tick_up s =
    elim s.up [
      | None ↦ record { after = s; says = None }
      | Some up ↦
          let tick = tick_of_part (part_at_tick s up) in
          record { after = with_up s tick.after; says = tick.says }
    ]

-- ---- an object owes its Status, or asks for the other side's

-- The scope with a flag set on its end of this Id, else on its upward part, where that is enrolled and has this Id; true
-- where it wasn't set before. Else the scope stays, and it is false.
abbrev pub flag : ScopeState → Id → (Part → Bool) → (Part → Part) → (End → Bool) → (End → End) → ScopeStep Bool
flag s id part_has part_with end_has end_with =
    elim (end_with_id s.ends id) [
      | Some e ↦ record { after = with_end_changed id end_with s; answer = not (end_has e) }
      | None ↦ elim s.up [
        | None ↦ record { after = s; answer = false }
        | Some up ↦
            if is_enrolled_as id up then record { after = with_up s (part_with up); answer = not (part_has up) }
            else record { after = s; answer = false }
      ]
    ]

abbrev pub owe : ScopeState → Id → ScopeStep Bool
owe s id = flag s id (λ p. p.owes) part_owing (λ e. e.owes) end_owing

abbrev pub ask : ScopeState → Id → ScopeStep Bool
ask s id = flag s id (λ p. p.asks) part_asking (λ e. e.asks) end_asking

-- ---- registering

-- the scope whose own participant was enrolled, or refused for good
abbrev pub enrolled_scope : Epr → ScopeState → ScopeState
enrolled_scope coordinator s = record s { up = option_map (enrolled_part coordinator) s.up }

abbrev pub refused_scope : ScopeState → ScopeState
refused_scope s = record s { up = option_map refused_part s.up }

-- a scope without ends, which may have as many as it may have today
abbrev pub new_scope : Id → Kind → Option ℕ → Option Part → ScopeState
new_scope id kind deadline up = record { id = id; kind = kind; limit = MOST_ENDS; deadline = deadline; up = up; verdict = None; ends = [] }
