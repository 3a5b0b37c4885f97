-- Believe: what an input makes of a node, what the node answers, which record it keeps, and which objects have something
-- to say now. The refusals of an input stand in their order; a step that changes nothing keeps no record.
use Rattle.std.specs.Prelude.{ℕ, Bool, true, false, not, ◌+◌, ◌||◌, [], ◌∷◌, Option, None, Some, is_some, if◌then◌else◌}
use Rattle.std.specs.Option.{option_map}
use Rattle.ba_core.specs.EndRows.{end_row, chosen_state}
use Rattle.ba_core.specs.PartRows.{part_row, acted_state}
use Rattle.ba_core.specs.declared.codes.Code.{Code}
use Rattle.ba_core.specs.declared.codes.Code.TheVariants as code
use Rattle.ba_core.specs.declared.identifiers.Id.{Id}
use Rattle.ba_core.specs.declared.notices.Act.{Act}
use Rattle.ba_core.specs.declared.notices.Act.TheVariants as act
use Rattle.ba_core.specs.declared.notices.Leave.{Leave}
use Rattle.ba_core.specs.declared.notices.Notice.{Notice}
use Rattle.ba_core.specs.declared.notices.Notice.TheVariants as notice
use Rattle.ba_core.specs.declared.protocols.Kind.{Kind}
use Rattle.ba_core.specs.declared.protocols.Kind.TheVariants.{Atomic, Mixed}
use Rattle.ba_core.specs.declared.protocols.Protocol.{Protocol}
use Rattle.ba_core.specs.declared.protocols.Protocol.TheVariants.{Pc, Cc}
use Rattle.ba_core.specs.declared.protocols.Side.{Side}
use Rattle.ba_core.specs.declared.protocols.Side.TheVariants.{Coordinator, Participant}
use Rattle.ba_core.specs.declared.protocols.Verdict.{Verdict}
use Rattle.ba_core.specs.declared.protocols.Verdict.TheVariants.{Close, Undo}
use Rattle.ba_core.specs.declared.rows.CRow.{CRow}
use Rattle.ba_core.specs.declared.rows.CRow.TheVariants as crow
use Rattle.ba_core.specs.declared.rows.PRow.{PRow}
use Rattle.ba_core.specs.declared.rows.PRow.TheVariants as prow
use Rattle.ba_core.specs.declared.states.CState.{CState}
use Rattle.ba_core.specs.declared.states.PState.{PState}
use Rattle.ba_core.specs.declared.states.PState.TheVariants as part
use Rattle.ba_link.specs.States.{end_among, part_among}
use Rattle.ba_message.specs.Dialing.{is_dialable}
use Rattle.ba_message.specs.declared.endpoints.Epr.{Epr}
use Rattle.ba_message.specs.declared.messages.Context.{Context}
use Rattle.ba_record.specs.declared.records.Record.{Record}
use Rattle.ba_record.specs.declared.records.Record.TheVariants as journal
use Rattle.ba_scope_ends.specs.Ends.{end_after_notice, end_after_row, end_asking, end_owing, end_of, is_ended_state}
use Rattle.ba_scope_ends.specs.Parts.{enrolled_part, part_asking, part_in_state, part_owing, refused_part, verdict_on_the_way, has_no_coordinator}
use Rattle.ba_scope.specs.Rules.{ScopeStep, choose, complete, decide, enrol_refusal, finish, leave_act, leave_by, new_scope, scope_with_end}
use Rattle.ba_scope.specs.Rules.{with_end_changed, with_up_moved}
use Rattle.ba_scope.specs.Scope.{ScopeState}
use Rattle.ba_scope.specs.declared.answers.EnrolFault.{EnrolFault}
use Rattle.ba_scope.specs.declared.answers.EnrolFault.TheVariants.{NotYetEnrolled}
use Rattle.ba_scope.specs.declared.answers.Said.{Said}
use Rattle.ba_scope.specs.declared.answers.Said.TheVariants as said
use Rattle.ba_core.specs.declared.refusals.TheConstants.{NO_SUCH_END, NOT_A_CHILD, WRONG_STATE}
use Rattle.ba_scope_ends.specs.declared.ends.End.{End}
use Rattle.ba_scope_ends.specs.declared.parts.Part.{Part}
use Rattle.ba_node_steps.specs.declared.answers.Reply.{Reply}
use Rattle.ba_node_steps.specs.declared.answers.Reply.TheVariants as reply
use Rattle.ba_core.specs.declared.refusals.TheConstants.{BAD_ADDRESS, CHILD_PART, NO_SUCH_PART, NO_SUCH_SCOPE}
use Rattle.ba_node_steps.specs.declared.answers.Wake.{Wake}
use Rattle.ba_node_steps.specs.declared.answers.Wake.TheVariants as wake
use Rattle.ba_node_steps.specs.declared.inputs.Input.{Input}
use Rattle.ba_node_steps.specs.declared.inputs.Input.TheVariants as input
use Rattle.ba_node_steps.specs.Addresses.{context_identifier, coordinator_of, registration_of}
use Rattle.ba_node_steps.specs.Node.{NodeState, PartPlace, nowhere, lone, upward, counter, end_place, id_at, next_id, part_place, scope_with_id}
use Rattle.ba_node_steps.specs.Node.{with_lone, with_new_part, with_new_scope, with_part_changed, with_scope}
use Rattle.ba_tree.specs.Lengths.{in_u64}

-- the node after an input, its answer, the record that it keeps, and which objects have something to say now
pub record NodeStep : Type 0 where
  pub after : NodeState
  pub reply : Reply
  pub written : Option Record
  pub wake : Wake

-- nothing changes
abbrev pub reply_step : NodeState → Reply → NodeStep
reply_step n r = record { after = n; reply = r; written = None; wake = wake.Nobody }

abbrev pub accepted_step : NodeState → NodeStep
accepted_step n = reply_step n reply.Accepted

abbrev pub fault_step : NodeState → Code → NodeStep
fault_step n c = reply_step n (reply.SoapFault c)

-- a refusal by its number, and the object that shows it
abbrev pub refusal_step : NodeState → ℕ → Id → NodeStep
refusal_step n number id = reply_step n (reply.Refused number id)

-- the node changes to this one, and keeps this record
abbrev pub written_step : NodeState → Reply → Record → Wake → NodeStep
written_step after r k w = record { after = after; reply = r; written = Some k; wake = w }

-- what is made of what is there, and else this
abbrev pub if_found : {A B : Type 0} → Option A → B → (A → B) → B
if_found None otherwise next = otherwise
if_found (Some a) otherwise next = next a

-- what is made of the participant at this place, and else this
abbrev pub if_placed : {B : Type 0} → PartPlace → B → (Part → B) → B
if_placed nowhere otherwise next = otherwise
if_placed (lone p) otherwise next = next p
if_placed (upward s p) otherwise next = next p

abbrev pub same_end_state : CState → CState → Bool
same_end_state a b = end_among (a ∷ []) b

abbrev pub same_part_state : PState → PState → Bool
same_part_state a b = part_among (a ∷ []) b

-- ---- Create: a scope is made (WS-Coordination 1.2, section 3.1)

abbrev pub is_of_kind : Kind → Option Kind → Bool
is_of_kind Atomic (Some Atomic) = true
is_of_kind Mixed (Some Mixed) = true
is_of_kind kind other = false

-- a participant that registers there
abbrev pub new_part : Id → Protocol → Epr → Part
new_part id protocol registration = record {
  id = id;
  protocol = protocol;
  registration = registration;
  coordinator = None;
  state = part.Registering;
  owes = false;
  asks = false;
}

-- the context of the scope that is made next
abbrev pub new_context : NodeState → Kind → Option ℕ → Context
new_context n kind expires = record {
  identifier = context_identifier (next_id n 1);
  expires = expires;
  kind = Some kind;
  registration = registration_of n.base (next_id n 1);
}

-- so many milliseconds after the moment, and at most the greatest u64
abbrev pub deadline_after : ℕ → Option ℕ → Option ℕ
deadline_after now = option_map (λ ms. in_u64 (now + ms))

-- what a record keeps of an upward part
abbrev pub upward_fields : Part → Protocol × Epr
upward_fields p = (p.protocol, p.registration)

abbrev pub create_scope : NodeState → ℕ → Option ℕ → Kind → Option Part → Wake → NodeStep
create_scope n now expires kind up w =
    let s : ScopeState = new_scope (next_id n 1) kind (deadline_after now expires) up in
    let k : Record = journal.Scope (counter s.id) kind s.deadline (option_map upward_fields up) in
    written_step (with_new_scope n s) (reply.Context (new_context n kind expires)) k w

-- a child, whose upward part is made with it
abbrev pub create_child : NodeState → ℕ → Option ℕ → Kind → Context → Protocol → NodeStep
create_child n now expires kind current protocol =
    let up : Part = new_part (next_id n 2) protocol current.registration in
    if not (is_of_kind kind current.kind) then fault_step n code.CannotCreateContext
    else if not (is_dialable current.registration.address) then fault_step n code.InvalidParameters
    else create_scope n now expires kind (Some up) (wake.One up.id)

abbrev pub on_create : NodeState → ℕ → Option ℕ → Option Context → Option Kind → Protocol → NodeStep
on_create n now expires current None protocol = fault_step n code.CannotCreateContext
on_create n now expires None (Some kind) protocol = create_scope n now expires kind None wake.Nobody
on_create n now expires (Some current) (Some kind) protocol = create_child n now expires kind current protocol

-- ---- Register: a scope enrols a participant (WS-Coordination 1.2, section 3.2)

abbrev pub same_protocol : Protocol → Protocol → Bool
same_protocol Pc Pc = true
same_protocol Cc Cc = true
same_protocol p q = false

-- a new end, unless the scope refuses it
abbrev pub enrol_unless : NodeState → ScopeState → Protocol → Epr → Option EnrolFault → NodeStep
enrol_unless n s protocol participant None =
    let id : Id = next_id n 1 in
    let k : Record = journal.End (counter id) (counter s.id) protocol participant in
    written_step (with_scope n (scope_with_end s id protocol participant)) (reply.Enrolment (coordinator_of n.base id)) k (wake.One id)
enrol_unless n s protocol participant (Some NotYetEnrolled) = fault_step n code.EndpointUnavailable
enrol_unless n s protocol participant (Some why) = fault_step n code.CannotRegisterParticipant

-- a participant that the scope enrolled before has the same end, also after a verdict
abbrev pub enrolled_before : NodeState → Protocol → End → NodeStep
enrolled_before n protocol e =
    if same_protocol e.protocol protocol then reply_step n (reply.Enrolment (coordinator_of n.base e.id))
    else fault_step n code.InvalidParameters

abbrev pub register_at : NodeState → ScopeState → Protocol → Epr → NodeStep
register_at n s protocol participant =
    if_found (end_of s.ends participant) (enrol_unless n s protocol participant (enrol_refusal s)) (enrolled_before n protocol)

abbrev pub on_register : NodeState → Id → Option Protocol → Epr → NodeStep
on_register n scope protocol participant =
    if_found (scope_with_id n scope) (fault_step n code.DestinationUnreachable) (λ s.
    if_found protocol (fault_step n code.InvalidProtocol) (λ known.
    if is_dialable participant.address then register_at n s known participant else fault_step n code.InvalidParameters))

-- ---- Join: a lone participant is made; and what the Register of a participant came to

abbrev pub on_join : NodeState → Protocol → Epr → NodeStep
on_join n protocol registration =
    let p : Part = new_part (next_id n 1) protocol registration in
    if is_dialable registration.address
    then written_step (with_new_part n p) (reply.Joined p.id) (journal.Part (counter p.id) protocol registration) (wake.One p.id)
    else refusal_step n BAD_ADDRESS (id_at n 0)

abbrev pub is_registering_state : PState → Bool
is_registering_state = same_part_state part.Registering

abbrev pub on_enrolled : NodeState → Id → Epr → NodeStep
on_enrolled n id coordinator =
    if_placed (part_place n id) (refusal_step n NO_SUCH_PART id) (λ p.
    if not (is_registering_state p.state) then accepted_step n
    else if not (is_dialable coordinator.address) then refusal_step n BAD_ADDRESS id
    else written_step (with_part_changed n (part_place n id) (enrolled_part coordinator)) reply.Accepted
    (journal.Enrolled (counter id) coordinator) (wake.One id))

-- the codes that refuse a Register for good, by their numbers in a record
abbrev pub refusal_number : Code → Option ℕ
refusal_number code.CannotRegisterParticipant = Some 1
refusal_number code.InvalidProtocol = Some 2
refusal_number c = None

abbrev pub on_refused_by : NodeState → Id → Code → NodeStep
on_refused_by n id c =
    if_placed (part_place n id) (refusal_step n NO_SUCH_PART id) (λ p.
    if not (is_registering_state p.state) then accepted_step n
    else if_found (refusal_number c) (accepted_step n) (λ number.
    written_step (with_part_changed n (part_place n id) refused_part) reply.Accepted (journal.Refused (counter id) number) (wake.One id)))

-- ---- Notice (WS-BusinessActivity 1.2, section 3)

abbrev pub is_get_status : Notice → Bool
is_get_status notice.GetStatus = true
is_get_status m = false

abbrev pub is_status : Notice → Bool
is_status (notice.Status name) = true
is_status m = false

-- a row that keeps the state: the object may have something to say again
abbrev pub again_step : NodeState → Id → Bool → NodeStep
again_step n id prompt =
    record { after = n; reply = reply.Accepted; written = None; wake = if prompt then wake.One id else wake.Nobody }

-- an end that moved has something to say; where it ended in a child, the child's own participant has too
abbrev pub wake_of_end : ScopeState → Id → CState → Wake
wake_of_end s id next =
    if is_ended_state next then if_found s.up (wake.One id) (λ up. wake.Two id up.id) else wake.One id

abbrev pub on_end_row : NodeState → ScopeState → End → Notice → CRow → NodeStep
on_end_row n s e m crow.Invalid = fault_step n code.InvalidState
on_end_row n s e m (crow.Row next prompt) =
    let after : End = end_after_row (crow.Row next prompt) e in
    if same_end_state e.state after.state then again_step n e.id prompt
    else written_step (with_scope n (with_end_changed e.id (end_after_notice m) s)) reply.Accepted
    (journal.Received (counter e.id) m) (wake_of_end s e.id after.state)

-- GetStatus: the end owes its Status
abbrev pub on_end_asked : NodeState → ScopeState → End → NodeStep
on_end_asked n s e =
    if e.owes then accepted_step n
    else written_step (with_scope n (with_end_changed e.id end_owing s)) reply.Accepted
    (journal.Received (counter e.id) notice.GetStatus) (wake.One e.id)

-- Status says nothing that isn't known
abbrev pub on_end_notice : NodeState → Id → Notice → NodeStep
on_end_notice n id m =
    if_found (end_place n id) (fault_step n code.DestinationUnreachable) (λ at.
    if is_status m then accepted_step n
    else if is_get_status m then on_end_asked n at.scope at.end
    else on_end_row n at.scope at.end m (end_row at.end.protocol at.end.state m))

abbrev pub on_lone_row : NodeState → Part → Notice → PRow → NodeStep
on_lone_row n p m prow.Invalid = fault_step n code.InvalidState
on_lone_row n p m (prow.Row next prompt) =
    if same_part_state p.state next then again_step n p.id prompt
    else written_step (with_lone n (part_in_state next p)) reply.Accepted (journal.Received (counter p.id) m) (wake.One p.id)

-- a verdict from above goes to the scope and to each of its ends, which have something to say then
abbrev pub wake_of_up : ScopeState → Part → PState → Wake
wake_of_up s up next = if is_some (verdict_on_the_way up.state next) then wake.Scope s.id else wake.One up.id

abbrev pub on_up_row : NodeState → ScopeState → Part → Notice → PRow → NodeStep
on_up_row n s up m prow.Invalid = fault_step n code.InvalidState
on_up_row n s up m (prow.Row next prompt) =
    if same_part_state up.state next then again_step n up.id prompt
    else written_step (with_scope n (with_up_moved s up next)) reply.Accepted
    (journal.Received (counter up.id) m) (wake_of_up s up next)

-- GetStatus: the participant owes its Status
abbrev pub on_part_asked : NodeState → PartPlace → Part → NodeStep
on_part_asked n place p =
    if p.owes then accepted_step n
    else written_step (with_part_changed n place part_owing) reply.Accepted (journal.Received (counter p.id) notice.GetStatus)
    (wake.One p.id)

-- what a participant hears; one that has no coordinator hears nothing
abbrev pub on_part_heard : NodeState → PartPlace → Part → Notice → NodeStep → NodeStep
on_part_heard n place p m by_row =
    if is_status m || has_no_coordinator p.state then accepted_step n
    else if is_get_status m then on_part_asked n place p
    else by_row

abbrev pub on_place_notice : NodeState → PartPlace → Notice → NodeStep
on_place_notice n nowhere m = fault_step n code.DestinationUnreachable
on_place_notice n (lone p) m = on_part_heard n (lone p) p m (on_lone_row n p m (part_row p.protocol p.state m))
on_place_notice n (upward s p) m = on_part_heard n (upward s p) p m (on_up_row n s p m (part_row p.protocol p.state m))

abbrev pub on_notice : NodeState → Side → Id → Notice → NodeStep
on_notice n Coordinator id m = on_end_notice n id m
on_notice n Participant id m = on_place_notice n (part_place n id) m

-- ---- Act: the work of a lone participant came to something

abbrev pub act_at : NodeState → PartPlace → Id → Act → NodeStep
act_at n nowhere id a = refusal_step n NO_SUCH_PART id
act_at n (upward s p) id a = refusal_step n CHILD_PART id
act_at n (lone p) id a =
    if_found (acted_state p.protocol p.state a) (refusal_step n WRONG_STATE id) (λ next.
    written_step (with_lone n (part_in_state next p)) reply.Accepted (journal.Acted (counter id) a) (wake.One id))

abbrev pub on_act : NodeState → Id → Act → NodeStep
on_act n id a = act_at n (part_place n id) id a

-- ---- Ask: the other side of an end or of a participant is to be asked for its Status

abbrev pub ask_end : NodeState → ScopeState → End → NodeStep
ask_end n s e =
    if e.asks then accepted_step n
    else written_step (with_scope n (with_end_changed e.id end_asking s)) reply.Accepted (journal.Asked (counter e.id)) (wake.One e.id)

abbrev pub ask_part : NodeState → PartPlace → Part → NodeStep
ask_part n place p =
    if has_no_coordinator p.state then refusal_step n WRONG_STATE p.id
    else if p.asks then accepted_step n
    else written_step (with_part_changed n place part_asking) reply.Accepted (journal.Asked (counter p.id)) (wake.One p.id)

abbrev pub on_ask : NodeState → Id → NodeStep
on_ask n id =
    if_found (end_place n id)
    (if_placed (part_place n id) (refusal_step n NO_SUCH_END id) (ask_part n (part_place n id)))
    (λ at. ask_end n at.scope at.end)

-- ---- Decide, Choose, Complete, Finish, Leave: the rules of a scope

-- the step of a scope's rule, which keeps this record unless the rule refuses it
abbrev pub rule_step : NodeState → ScopeStep Said → Record → Wake → NodeStep
rule_step n rule k w = elim rule.answer [
  | said.No number id ↦ refusal_step n number id
  | said.Ok ↦ written_step (with_scope n rule.after) reply.Accepted k w
]

abbrev pub on_decide : NodeState → Id → Verdict → NodeStep
on_decide n id v =
    if_found (scope_with_id n id) (refusal_step n NO_SUCH_SCOPE id) (λ s.
    rule_step n (decide s v) (journal.Decided (counter id) v) (wake.Scope id))

-- a choice by its number in a record
abbrev pub choice_number : Verdict → ℕ
choice_number Close = 1
choice_number Undo = 2

-- that an end's participant was asked to complete, among the choices
abbrev pub complete_number : ℕ
complete_number = 3

-- an end has something to say where its choice changes its state
abbrev pub wake_of_choice : End → Option CState → Wake
wake_of_choice e None = wake.Nobody
wake_of_choice e (Some next) = if same_end_state e.state next then wake.Nobody else wake.One e.id

abbrev pub on_choose : NodeState → Id → Verdict → NodeStep
on_choose n id v =
    if_found (end_place n id) (refusal_step n NO_SUCH_END id) (λ at.
    rule_step n (choose at.scope id v) (journal.Chosen (counter id) (choice_number v))
    (wake_of_choice at.end (chosen_state at.end.protocol at.end.state v)))

abbrev pub on_complete : NodeState → Id → NodeStep
on_complete n id =
    if_found (end_place n id) (refusal_step n NO_SUCH_END id) (λ at.
    rule_step n (complete at.scope id) (journal.Chosen (counter id) complete_number) (wake.One id))

-- the rule of a child by which its own participant acts
abbrev pub up_act_step : NodeState → ScopeState → ScopeStep Said → Act → NodeStep
up_act_step n s rule a =
    if_found s.up (refusal_step n NOT_A_CHILD s.id) (λ up. rule_step n rule (journal.Acted (counter up.id) a) (wake.One up.id))

abbrev pub on_finish : NodeState → Id → NodeStep
on_finish n id =
    if_found (scope_with_id n id) (refusal_step n NO_SUCH_SCOPE id) (λ s. up_act_step n s (finish s) act.Completed)

abbrev pub on_leave : NodeState → Id → Leave → NodeStep
on_leave n id how =
    if_found (scope_with_id n id) (refusal_step n NO_SUCH_SCOPE id) (λ s. up_act_step n s (leave_by s how) (leave_act how))

-- ---- each input, at a moment

abbrev pub node_step : NodeState → ℕ → Input → NodeStep
node_step n now (input.Create expires current kind protocol) = on_create n now expires current kind protocol
node_step n now (input.Register scope protocol participant) = on_register n scope protocol participant
node_step n now (input.Join protocol registration) = on_join n protocol registration
node_step n now (input.Enrolled id coordinator) = on_enrolled n id coordinator
node_step n now (input.RefusedBy id c) = on_refused_by n id c
node_step n now (input.Notice side id m) = on_notice n side id m
node_step n now (input.Act id a) = on_act n id a
node_step n now (input.Ask id) = on_ask n id
node_step n now (input.Decide id v) = on_decide n id v
node_step n now (input.Choose id v) = on_choose n id v
node_step n now (input.Complete id) = on_complete n id
node_step n now (input.Finish id) = on_finish n id
node_step n now (input.Leave id how) = on_leave n id how
