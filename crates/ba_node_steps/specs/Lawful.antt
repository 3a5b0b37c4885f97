-- Believe: lawful lists of records: the first is the node's own, and each further one is the record of some step. And
-- how the step of a record is found: what happened is enacted again.
use Rattle.std.specs.Prelude.{◌≡◌, ℕ, Bool, true, ◌-◌, ◌^◌, ◌&&◌, List, [], ◌∷◌, nat_eq, Option, None, Some, is_some, unwrap_or}
use Rattle.std.specs.Prelude.{if◌then◌else◌, ◌*◌, ◌<◌, length}
use Rattle.std.specs.Option.{option_and_then, option_map}
use Rattle.ba_core.specs.declared.codes.Code.TheVariants as code
use Rattle.ba_core.specs.declared.identifiers.Id.{Id}
use Rattle.ba_core.specs.declared.notices.Act.{Act}
use Rattle.ba_core.specs.declared.notices.Act.TheVariants as act
use Rattle.ba_core.specs.declared.notices.Leave.TheVariants as leave
use Rattle.ba_core.specs.declared.notices.Notice.{Notice}
use Rattle.ba_core.specs.declared.protocols.Kind.{Kind}
use Rattle.ba_core.specs.declared.protocols.Protocol.{Protocol}
use Rattle.ba_core.specs.declared.protocols.Protocol.TheVariants.{Pc}
use Rattle.ba_core.specs.declared.protocols.Side.TheVariants.{Coordinator, Participant}
use Rattle.ba_core.specs.declared.protocols.Verdict.TheVariants.{Close, Undo}
use Rattle.ba_message.specs.declared.endpoints.Epr.{Epr}
use Rattle.ba_message.specs.declared.messages.Context.{Context}
use Rattle.ba_record.specs.declared.records.Record.{Record}
use Rattle.ba_record.specs.declared.records.Record.TheVariants as journal
use Rattle.ba_node_steps.specs.declared.inputs.Input.{Input}
use Rattle.ba_node_steps.specs.declared.inputs.Input.TheVariants as input
use Rattle.ba_node_steps.specs.Node.{NodeState, PartPlace, upward, counter, end_place, id_at, new_node, next_id, part_place}
use Rattle.ba_node_steps.specs.Steps.{choice_number, complete_number, node_step}
use Rattle.ba_node_steps.specs.Ticks.{tick_step}

-- What happens to a node: at a moment an input, or a tick of the object with this identifier; or the format of its
-- journal is set, which changes nothing and isn't recorded, for there is one format.
pub data Event : Type 0 where
  given : ℕ → Input → Event
  ticked : ℕ → Id → Event
  formatted : Event

-- the node after it, and the record that is kept
pub record Change : Type 0 where
  pub after : NodeState
  pub written : Option Record

abbrev pub change : NodeState → Event → Change
change n (given now i) = let step = node_step n now i in record { after = step.after; written = step.written }
change n (ticked now id) = let step = tick_step n now id in record { after = step.after; written = step.written }
change n formatted = record { after = n; written = None }

-- ---- lawful lists

-- what the journal of a new node keeps
abbrev pub first_records : ℕ → List ℕ → List Record
first_records number base = journal.Node number base ∷ []

-- the record is that of some step of the node, which leads to the node after it
pub record IsStepOf (n : NodeState) (r : Record) (after : NodeState) : Type 0 where
  pub event : Event
  pub keeps : (change n event).written ≡ Some r
  pub leads : (change n event).after ≡ after

-- each record is that of a step from the node after those before it
abbrev pub LeadsTo : NodeState → List Record → NodeState → Type 0
LeadsTo n [] after = n ≡ after
LeadsTo n (r ∷ more) after = (next : NodeState) × IsStepOf n r next × LeadsTo next more after

-- the node is the replay of the records
abbrev pub Replays : List Record → NodeState → Type 0
Replays (journal.Node number base ∷ more) n = LeadsTo (new_node number base) more n
Replays records n = ⊥

-- some node is the replay of the records
abbrev pub AreLawful : List Record → Type 0
AreLawful records = (n : NodeState) × Replays records n

-- so few records that counters don't run out: a step makes at most two objects
abbrev pub AreFew : List Record → Type 0
AreFew records = 2 * length records < 2 ^ 64

-- ---- the step of a record: an event that keeps it, if any does

-- a context of this kind at this registration
abbrev pub current_context : Kind → Epr → Context
current_context kind registration = record { identifier = []; expires = None; kind = Some kind; registration = registration }

-- the protocol of an upward part; a root has none, and any will do
abbrev pub upward_protocol : Option (Protocol × Epr) → Protocol
upward_protocol None = Pc
upward_protocol (Some up) = up.0

-- a scope is made at its deadline, where it has one, and expires at once
abbrev pub create_event : Kind → Option ℕ → Option (Protocol × Epr) → Event
create_event kind deadline up =
    let current : Option Context = option_map (λ p. current_context kind p.1) up in
    given (unwrap_or deadline 0) (input.Create (option_map (λ moment. 0) deadline) current (Some kind) (upward_protocol up))

abbrev pub refused_event : Id → ℕ → Option Event
refused_event id number =
    if nat_eq number 1 then Some (given 0 (input.RefusedBy id code.CannotRegisterParticipant))
    else if nat_eq number 2 then Some (given 0 (input.RefusedBy id code.InvalidProtocol))
    else None

-- a notice to the end with this identifier, and where there is none to the participant
abbrev pub notice_event : NodeState → Id → Notice → Event
notice_event n id m = given 0 (input.Notice (if is_some (end_place n id) then Coordinator else Participant) id m)

-- an act of a lone participant; of an upward part its scope's finish or leave
abbrev pub act_event : PartPlace → Id → Act → Event
act_event (upward s p) id act.Completed = given 0 (input.Finish s.id)
act_event (upward s p) id act.Exit = given 0 (input.Leave s.id leave.Exit)
act_event (upward s p) id act.CannotComplete = given 0 (input.Leave s.id leave.CannotComplete)
act_event (upward s p) id act.Fail = given 0 (input.Leave s.id leave.Fail)
act_event place id a = given 0 (input.Act id a)

abbrev pub chosen_event : Id → ℕ → Option Event
chosen_event id number =
    if nat_eq number (choice_number Close) then Some (given 0 (input.Choose id Close))
    else if nat_eq number (choice_number Undo) then Some (given 0 (input.Choose id Undo))
    else if nat_eq number complete_number then Some (given 0 (input.Complete id))
    else None

-- at the last moment of all each deadline is past
abbrev pub last_moment : ℕ
last_moment = 2 ^ 64 - 1

abbrev pub event_of : NodeState → Record → Option Event
event_of n (journal.Node number base) = None
event_of n (journal.Scope c kind deadline up) = Some (create_event kind deadline up)
event_of n (journal.End c scope protocol participant) = Some (given 0 (input.Register (id_at n scope) (Some protocol) participant))
event_of n (journal.Part c protocol registration) = Some (given 0 (input.Join protocol registration))
event_of n (journal.Enrolled c coordinator) = Some (given 0 (input.Enrolled (id_at n c) coordinator))
event_of n (journal.Refused c number) = refused_event (id_at n c) number
event_of n (journal.Received c m) = Some (notice_event n (id_at n c) m)
event_of n (journal.Acted c a) = Some (act_event (part_place n (id_at n c)) (id_at n c) a)
event_of n (journal.Decided c v) = Some (given 0 (input.Decide (id_at n c) v))
event_of n (journal.Chosen c number) = chosen_event (id_at n c) number
event_of n (journal.Ticked c) = Some (ticked last_moment (id_at n c))
event_of n (journal.Asked c) = Some (given 0 (input.Ask (id_at n c)))

-- a new object has the next counter
abbrev pub is_next : NodeState → Record → Bool
is_next n (journal.Scope c kind deadline up) = nat_eq c (counter (next_id n 1))
is_next n (journal.End c scope protocol participant) = nat_eq c (counter (next_id n 1))
is_next n (journal.Part c protocol registration) = nat_eq c (counter (next_id n 1))
is_next n r = true

-- the node after the event, where a record is kept of it
abbrev pub enacted_again : NodeState → Record → Event → Option NodeState
enacted_again n r e = if is_next n r && is_some (change n e).written then Some (change n e).after else None

-- the node after the step of this record; none where no step keeps it
abbrev pub after_record : NodeState → Record → Option NodeState
after_record n r = option_and_then (enacted_again n r) (event_of n r)
