-- What a step of a node may be: what is to be shown of an input's or a tick's step follows from what holds of a step that
-- changes nothing and of each way in which it changes the node; for each law of steps.
use Rattle.std.proofs.Common.{◌≡◌, ◌≢◌, inl, inr, ℕ, Bool, true, false, not, ◌&&◌, ◌||◌, Option, None, Some, refl, sym, if◌then◌else◌}
use Rattle.ba_core.specs.EndRows.{end_row, chosen_state}
use Rattle.ba_core.specs.PartRows.{part_row, part_says, acted_state}
use Rattle.ba_core.specs.declared.codes.Code.{Code}
use Rattle.ba_core.specs.declared.codes.Code.TheVariants as code
use Rattle.ba_core.specs.declared.identifiers.Id.{Id}
use Rattle.ba_core.specs.declared.notices.Act.{Act}
use Rattle.ba_core.specs.declared.notices.Act.TheVariants as act
use Rattle.ba_core.specs.declared.notices.Leave.{Leave}
use Rattle.ba_core.specs.declared.notices.Notice.{Notice}
use Rattle.ba_core.specs.declared.notices.Notice.TheVariants as notice
use Rattle.ba_core.specs.declared.protocols.Kind.{Kind}
use Rattle.ba_core.specs.declared.protocols.Protocol.{Protocol}
use Rattle.ba_core.specs.declared.protocols.Verdict.{Verdict}
use Rattle.ba_core.specs.declared.rows.CRow.{CRow}
use Rattle.ba_core.specs.declared.rows.CRow.TheVariants as crow
use Rattle.ba_core.specs.declared.rows.PRow.{PRow}
use Rattle.ba_core.specs.declared.rows.PRow.TheVariants as prow
use Rattle.ba_core.specs.declared.states.CState.{CState}
use Rattle.ba_core.specs.declared.states.PState.{PState}
use Rattle.ba_message.specs.Dialing.{is_dialable}
use Rattle.ba_message.specs.declared.endpoints.Epr.{Epr}
use Rattle.ba_message.specs.declared.messages.Context.{Context}
use Rattle.ba_message.specs.declared.messages.Letter.{Letter}
use Rattle.ba_record.specs.declared.records.Record.{Record}
use Rattle.ba_record.specs.declared.records.Record.TheVariants as journal
use Rattle.ba_scope.proofs.Lists.{by_test, not_true}
use Rattle.ba_scope_ends.specs.Ends.{end_after_notice, end_after_row, end_asking, end_owing, tick_of_end, end_of}
use Rattle.ba_scope_ends.specs.Parts.{enrolled_part, part_asking, part_in_state, part_owing, refused_part, tick_of_part, has_no_coordinator}
use Rattle.ba_scope_ends.specs.Parts.{is_registering}
use Rattle.ba_scope.specs.Rules.{ScopeStep, choose, complete, decide, enrol_refusal, expire, finish, leave_act, leave_by, state_at_tick}
use Rattle.ba_scope.specs.Rules.{tick_up, with_end_changed, with_up_moved}
use Rattle.ba_scope.specs.Scope.{ScopeState, is_full, is_sealed, takes_no_more}
use Rattle.ba_scope.specs.declared.answers.EnrolFault.{EnrolFault}
use Rattle.ba_scope.specs.declared.answers.EnrolFault.TheVariants.{NotYetEnrolled, Sealed, Full}
use Rattle.ba_scope.specs.declared.answers.Said.{Said}
use Rattle.ba_scope.specs.declared.answers.Said.TheVariants as said
use Rattle.ba_core.specs.declared.refusals.TheConstants.{NO_SUCH_END, NOT_A_CHILD, WRONG_STATE}
use Rattle.ba_scope_ends.specs.declared.ends.End.{End}
use Rattle.ba_scope_ends.specs.declared.parts.Part.{Part}
use Rattle.ba_node_steps.specs.declared.answers.Reply.{Reply}
use Rattle.ba_node_steps.specs.declared.answers.Reply.TheVariants as reply
use Rattle.ba_core.specs.declared.refusals.TheConstants.{BAD_ADDRESS, CHILD_PART, NO_SUCH_PART, NO_SUCH_SCOPE}
use Rattle.ba_node_steps.specs.declared.answers.Wake.{Wake}
use Rattle.ba_node_steps.specs.declared.answers.Wake.TheVariants as wake
use Rattle.ba_node_steps.specs.Addresses.{coordinator_of}
use Rattle.ba_node_steps.specs.Node.{HasPart, NodeState, EndPlace, PartPlace, lone, upward, counter, end_place, id_at, next_id, part_place}
use Rattle.ba_node_steps.specs.Node.{scope_with_id, with_lone, with_new_part, with_part_changed, with_scope}
use Rattle.ba_node_steps.specs.Steps.{NodeStep, accepted_step, act_at, again_step, ask_end, ask_part, choice_number, complete_number}
use Rattle.ba_node_steps.specs.Steps.{create_scope, enrol_unless, enrolled_before, fault_step, if_found, if_placed, is_get_status, is_of_kind}
use Rattle.ba_node_steps.specs.Steps.{is_registering_state, is_status, new_part, on_act, on_ask, on_choose, on_complete, on_create, on_decide}
use Rattle.ba_node_steps.specs.Steps.{on_end_asked, on_end_notice, on_end_row, on_enrolled, on_finish, on_join, on_leave, on_lone_row}
use Rattle.ba_node_steps.specs.Steps.{on_part_asked, on_part_heard, on_place_notice, on_refused_by, on_register, on_up_row, register_at}
use Rattle.ba_node_steps.specs.Steps.{refusal_number, refusal_step, reply_step, rule_step, same_end_state, same_part_state, same_protocol}
use Rattle.ba_node_steps.specs.Steps.{up_act_step, wake_of_choice, wake_of_end, wake_of_up, written_step}
use Rattle.ba_node_steps.specs.Ticks.{TickStep, end_letter, letter_step, part_letter, register_letter, tick_at_end, tick_at_part, tick_at_scope}
use Rattle.ba_node_steps.specs.Ticks.{tick_lone, tick_step, tick_upward, ticked_step}
use Rattle.ba_scope.proofs.ScopeCases.{neither_right}
use Rattle.ba_node_steps.proofs.Places.{EndStands, LoneStands, UpStands, Stands, end_found, place_cases}

-- ---- by what a look-up finds

pub found_cases : {A B : Type 0} (P : B → Type 0) (o : Option A) (otherwise : B) (next : A → B) → P otherwise
    → ((a : A) → o ≡ Some a → P (next a)) → P (if_found o otherwise next)
found_cases P None otherwise next none some = none
found_cases P (Some a) otherwise next none some = some a refl

pub placed_cases : {B : Type 0} (P : B → Type 0) (n : NodeState) (id : Id) (otherwise : B) (next : PartPlace → Part → B) → P otherwise
    → ((place : PartPlace) (p : Part) → Stands n id place p → P (next place p))
    → P (if_placed (part_place n id) otherwise (next (part_place n id)))
placed_cases P n id otherwise next none some =
    place_cases (λ (place : PartPlace). P (if_placed place otherwise (next place))) n id (λ _. none)
    (λ p stands. some (lone p) p (stands, refl)) (λ s p stands. some (upward s p) p (stands, refl))

-- what holds of a step that changes nothing
abbrev pub OfReply : (NodeStep → Type 0) → NodeState → Type 0
OfReply P n = (r : Reply) → P (reply_step n r)

abbrev pub OfAgain : (NodeStep → Type 0) → NodeState → Type 0
OfAgain P n = (id : Id) (prompt : Bool) → P (again_step n id prompt)

-- ---- Create

pub create_cases : (P : NodeStep → Type 0) (n : NodeState) (now : ℕ) (expires : Option ℕ) (current : Option Context) (kind : Option Kind)
    (protocol : Protocol) → OfReply P n
    → ((k : Kind) → kind ≡ Some k → current ≡ None → P (create_scope n now expires k None wake.Nobody))
    → ((k : Kind) (c : Context) → kind ≡ Some k → current ≡ Some c → is_of_kind k c.kind ≡ true → is_dialable c.registration.address ≡ true
    → P (create_scope n now expires k (Some (new_part (next_id n 2) protocol c.registration)) (wake.One (next_id n 2))))
    → P (on_create n now expires current kind protocol)
create_cases P n now expires current None protocol same root child = same (reply.SoapFault code.CannotCreateContext)
create_cases P n now expires None (Some k) protocol same root child = root k refl refl
create_cases P n now expires (Some c) (Some k) protocol same root child =
    by_test P (not (is_of_kind k c.kind)) (fault_step n code.CannotCreateContext) _ (λ _. same (reply.SoapFault code.CannotCreateContext))
    (λ alike.
    by_test P (not (is_dialable c.registration.address)) (fault_step n code.InvalidParameters) _
    (λ _. same (reply.SoapFault code.InvalidParameters)) (λ dialable.
    child k c refl refl (not_true (is_of_kind k c.kind) alike) (not_true (is_dialable c.registration.address) dialable)))

-- ---- Register

-- the participant is new to this scope, which takes it
pub record Registers (n : NodeState) (scope : Id) (protocol : Option Protocol) (participant : Epr) (s : ScopeState)
    (known : Protocol) : Type 0 where
  pub here : scope_with_id n scope ≡ Some s
  pub protocol_is : protocol ≡ Some known
  pub dialable : is_dialable participant.address ≡ true
  pub new : end_of s.ends participant ≡ None
  pub taken : enrol_refusal s ≡ None

-- how a Register is answered that makes no end
pub data AnsweredOnly (n : NodeState) (scope : Id) (protocol : Option Protocol) (participant : Epr) (r : Reply) : Type 0 where
  -- the scope enrolled the participant before
  enrolled_already : (s : ScopeState) (e : End) → scope_with_id n scope ≡ Some s → end_of s.ends participant ≡ Some e
      → r ≡ reply.Enrolment (coordinator_of n.base e.id) → AnsweredOnly n scope protocol participant r
  -- it didn't, and takes no more
  for_good : (s : ScopeState) → scope_with_id n scope ≡ Some s → end_of s.ends participant ≡ None → takes_no_more s ≡ true
      → r ≡ reply.SoapFault code.CannotRegisterParticipant → AnsweredOnly n scope protocol participant r
  -- by a fault that doesn't refuse for good
  for_now : (c : Code) → refusal_number c ≡ None → r ≡ reply.SoapFault c → AnsweredOnly n scope protocol participant r
  no_protocol : protocol ≡ None → r ≡ reply.SoapFault code.InvalidProtocol → AnsweredOnly n scope protocol participant r

-- a scope that is sealed or full takes no more
refused_takes_none : (s : ScopeState) (why : EnrolFault) → enrol_refusal s ≡ Some why → why ≢ NotYetEnrolled → takes_no_more s ≡ true
refused_takes_none s why = by_tests (is_registering s.up) (is_sealed s) (is_full s) why
  where
    by_tests : (registering sealed full : Bool) (why : EnrolFault)
        → (if registering then Some NotYetEnrolled else if sealed then Some Sealed else if full then Some Full else None) ≡ Some why
        → why ≢ NotYetEnrolled → (sealed || full) ≡ true
    by_tests true sealed full why is other = let same : NotYetEnrolled ≡ why = cc in absurd (other (sym same))
    by_tests false true full why is other = refl
    by_tests false false true why is other = refl
    by_tests false false false why is other = absurd cc

pub register_answers : (P : NodeStep → Type 0) (n : NodeState) (scope : Id) (protocol : Option Protocol) (participant : Epr)
    → ((r : Reply) → AnsweredOnly n scope protocol participant r → P (reply_step n r))
    → ((s : ScopeState) (known : Protocol) → Registers n scope protocol participant s known → P (enrol_unless n s known participant None))
    → P (on_register n scope protocol participant)
register_answers P n scope protocol participant same new =
    found_cases P (scope_with_id n scope) (fault_step n code.DestinationUnreachable) _ (now code.DestinationUnreachable refl) (λ s here.
    by_protocol s here protocol refl)
  where
    now : (c : Code) → refusal_number c ≡ None → P (fault_step n c)
    now c is = same (reply.SoapFault c) (for_now c is refl)

    good : (s : ScopeState) (why : EnrolFault) → scope_with_id n scope ≡ Some s → end_of s.ends participant ≡ None
        → enrol_refusal s ≡ Some why → why ≢ NotYetEnrolled → P (fault_step n code.CannotRegisterParticipant)
    good s why here fresh taken other =
        same (reply.SoapFault code.CannotRegisterParticipant) (for_good s here fresh (refused_takes_none s why taken other) refl)

    by_refusal : (s : ScopeState) (known : Protocol) → scope_with_id n scope ≡ Some s → protocol ≡ Some known
        → is_dialable participant.address ≡ true
        → end_of s.ends participant ≡ None → (o : Option EnrolFault) → enrol_refusal s ≡ o → P (enrol_unless n s known participant o)
    by_refusal s known here protocol_is dialable fresh None taken =
        new s known (record { here = here; protocol_is = protocol_is; dialable = dialable; new = fresh; taken = taken })
    by_refusal s known here protocol_is dialable fresh (Some NotYetEnrolled) taken = now code.EndpointUnavailable refl
    by_refusal s known here protocol_is dialable fresh (Some why) taken = good s why here fresh taken (λ h. absurd cc)

    by_end : (s : ScopeState) (known : Protocol) → scope_with_id n scope ≡ Some s → protocol ≡ Some known
        → is_dialable participant.address ≡ true
        → (o : Option End) → end_of s.ends participant ≡ o
        → P (if_found o (enrol_unless n s known participant (enrol_refusal s)) (enrolled_before n known))
    by_end s known here protocol_is dialable None fresh = by_refusal s known here protocol_is dialable fresh (enrol_refusal s) refl
    by_end s known here protocol_is dialable (Some e) is =
        by_test P (same_protocol e.protocol known) (reply_step n (reply.Enrolment (coordinator_of n.base e.id)))
        (fault_step n code.InvalidParameters)
        (λ _. same (reply.Enrolment (coordinator_of n.base e.id)) (enrolled_already s e here is refl))
        (λ _. now code.InvalidParameters refl)

    by_protocol : (s : ScopeState) → scope_with_id n scope ≡ Some s → (o : Option Protocol) → protocol ≡ o
        → P (if_found o (fault_step n code.InvalidProtocol) (λ known.
        if is_dialable participant.address then register_at n s known participant else fault_step n code.InvalidParameters))
    by_protocol s here None is = same (reply.SoapFault code.InvalidProtocol) (no_protocol is refl)
    by_protocol s here (Some known) is =
        by_test P (is_dialable participant.address) (register_at n s known participant) (fault_step n code.InvalidParameters)
        (λ dialable. by_end s known here is dialable (end_of s.ends participant) refl) (λ _. now code.InvalidParameters refl)

pub register_cases : (P : NodeStep → Type 0) (n : NodeState) (scope : Id) (protocol : Option Protocol) (participant : Epr) → OfReply P n
    → ((s : ScopeState) (known : Protocol) → Registers n scope protocol participant s known → P (enrol_unless n s known participant None))
    → P (on_register n scope protocol participant)
register_cases P n scope protocol participant same new = register_answers P n scope protocol participant (λ r _. same r) new

-- ---- Join

pub join_cases : (P : NodeStep → Type 0) (n : NodeState) (protocol : Protocol) (registration : Epr) → OfReply P n
    → (is_dialable registration.address ≡ true
    → P (written_step (with_new_part n (new_part (next_id n 1) protocol registration)) (reply.Joined (next_id n 1))
    (journal.Part (counter (next_id n 1)) protocol registration) (wake.One (next_id n 1))))
    → P (on_join n protocol registration)
join_cases P n protocol registration same made =
    by_test P (is_dialable registration.address) _ (refusal_step n BAD_ADDRESS (id_at n 0)) made
    (λ _. same (reply.Refused BAD_ADDRESS (id_at n 0)))

-- ---- Enrolled, RefusedBy

pub enrolled_cases : (P : NodeStep → Type 0) (n : NodeState) (id : Id) (coordinator : Epr) → OfReply P n
    → ((place : PartPlace) (p : Part) → Stands n id place p → is_registering_state p.state ≡ true → is_dialable coordinator.address ≡ true
    → P (written_step (with_part_changed n place (enrolled_part coordinator)) reply.Accepted (journal.Enrolled (counter id) coordinator)
    (wake.One id)))
    → P (on_enrolled n id coordinator)
enrolled_cases P n id coordinator same moves =
    placed_cases P n id (refusal_step n NO_SUCH_PART id)
    (λ place p. if not (is_registering_state p.state) then accepted_step n
    else if not (is_dialable coordinator.address) then refusal_step n BAD_ADDRESS id
    else written_step (with_part_changed n place (enrolled_part coordinator)) reply.Accepted (journal.Enrolled (counter id) coordinator)
    (wake.One id))
    (same (reply.Refused NO_SUCH_PART id)) (λ place p stands.
    by_test P (not (is_registering_state p.state)) (accepted_step n) _ (λ _. same reply.Accepted) (λ registering.
    by_test P (not (is_dialable coordinator.address)) (refusal_step n BAD_ADDRESS id) _ (λ _. same (reply.Refused BAD_ADDRESS id))
    (λ dialable.
    moves place p stands (not_true (is_registering_state p.state) registering) (not_true (is_dialable coordinator.address) dialable))))

pub refused_cases : (P : NodeStep → Type 0) (n : NodeState) (id : Id) (c : Code) → OfReply P n
    → ((place : PartPlace) (p : Part) (number : ℕ) → Stands n id place p → is_registering_state p.state ≡ true
    → refusal_number c ≡ Some number
    → P (written_step (with_part_changed n place refused_part) reply.Accepted (journal.Refused (counter id) number) (wake.One id)))
    → P (on_refused_by n id c)
refused_cases P n id c same moves =
    placed_cases P n id (refusal_step n NO_SUCH_PART id)
    (λ place p. if not (is_registering_state p.state) then accepted_step n
    else if_found (refusal_number c) (accepted_step n) (λ number.
    written_step (with_part_changed n place refused_part) reply.Accepted (journal.Refused (counter id) number) (wake.One id)))
    (same (reply.Refused NO_SUCH_PART id)) (λ place p stands.
    by_test P (not (is_registering_state p.state)) (accepted_step n) _ (λ _. same reply.Accepted) (λ registering.
    found_cases P (refusal_number c) (accepted_step n) _ (same reply.Accepted) (λ number is.
    moves place p number stands (not_true (is_registering_state p.state) registering) is)))

-- ---- a notice to an end

pub end_notice_cases : (P : NodeStep → Type 0) (n : NodeState) (id : Id) (m : Notice) → OfReply P n → OfAgain P n
    → ((at : EndPlace) → EndStands n id at → at.end.owes ≡ false → is_get_status m ≡ true
    → P (written_step (with_scope n (with_end_changed at.end.id end_owing at.scope)) reply.Accepted
    (journal.Received (counter at.end.id) notice.GetStatus) (wake.One at.end.id)))
    → ((at : EndPlace) (next : CState) (prompt : Bool) → EndStands n id at → end_row at.end.protocol at.end.state m ≡ crow.Row next prompt
    → same_end_state at.end.state (end_after_row (crow.Row next prompt) at.end).state ≡ false
    → P (written_step (with_scope n (with_end_changed at.end.id (end_after_notice m) at.scope)) reply.Accepted
    (journal.Received (counter at.end.id) m) (wake_of_end at.scope at.end.id (end_after_row (crow.Row next prompt) at.end).state)))
    → P (on_end_notice n id m)
end_notice_cases P n id m same again asked moves =
    found_cases P (end_place n id) (fault_step n code.DestinationUnreachable) _ (same (reply.SoapFault code.DestinationUnreachable))
    (λ at found.
    by_test P (is_status m) (accepted_step n) _ (λ _. same reply.Accepted) (λ _.
    by_test P (is_get_status m) (on_end_asked n at.scope at.end) (on_end_row n at.scope at.end m (end_row at.end.protocol at.end.state m))
    (λ asks. by_test P at.end.owes (accepted_step n) _ (λ _. same reply.Accepted) (λ owes. asked at (end_found n id at found) owes asks))
    (λ _. by_row at (end_found n id at found) (end_row at.end.protocol at.end.state m) refl)))
  where
    by_row : (at : EndPlace) → EndStands n id at → (row : CRow) → end_row at.end.protocol at.end.state m ≡ row
        → P (on_end_row n at.scope at.end m row)
    by_row at stands crow.Invalid is = same (reply.SoapFault code.InvalidState)
    by_row at stands (crow.Row next prompt) is =
        by_test P (same_end_state at.end.state (end_after_row (crow.Row next prompt) at.end).state) (again_step n at.end.id prompt) _
        (λ _. again at.end.id prompt) (λ other. moves at next prompt stands is other)

-- ---- a notice to a participant

-- what it hears is without effect, sets a flag, or is taken by its row
heard_cases : (P : NodeStep → Type 0) (n : NodeState) (place : PartPlace) (p : Part) (m : Notice) (by_row : NodeStep) → OfReply P n
    → (has_no_coordinator p.state ≡ false → is_get_status m ≡ true → p.owes ≡ false
    → P (written_step (with_part_changed n place part_owing) reply.Accepted (journal.Received (counter p.id) notice.GetStatus)
    (wake.One p.id)))
    → (has_no_coordinator p.state ≡ false → P by_row) → P (on_part_heard n place p m by_row)
heard_cases P n place p m by_row same asked taken =
    by_test P (is_status m || has_no_coordinator p.state) (accepted_step n) _ (λ _. same reply.Accepted) (λ hears.
    by_test P (is_get_status m) (on_part_asked n place p) by_row
    (λ asks. by_test P p.owes (accepted_step n) _ (λ _. same reply.Accepted)
    (λ owes. asked (neither_right (is_status m) (has_no_coordinator p.state) hears) asks owes))
    (λ _. taken (neither_right (is_status m) (has_no_coordinator p.state) hears)))

pub part_notice_cases : (P : NodeStep → Type 0) (n : NodeState) (id : Id) (m : Notice) → OfReply P n → OfAgain P n
    → ((place : PartPlace) (p : Part) → Stands n id place p → has_no_coordinator p.state ≡ false → is_get_status m ≡ true → p.owes ≡ false
    → P (written_step (with_part_changed n place part_owing) reply.Accepted (journal.Received (counter p.id) notice.GetStatus)
    (wake.One p.id)))
    → ((p : Part) (next : PState) (prompt : Bool) → LoneStands n id p → has_no_coordinator p.state ≡ false
    → part_row p.protocol p.state m ≡ prow.Row next prompt → same_part_state p.state next ≡ false
    → P (written_step (with_lone n (part_in_state next p)) reply.Accepted (journal.Received (counter p.id) m) (wake.One p.id)))
    → ((s : ScopeState) (p : Part) (next : PState) (prompt : Bool) → UpStands n id s p → has_no_coordinator p.state ≡ false
    → part_row p.protocol p.state m ≡ prow.Row next prompt → same_part_state p.state next ≡ false
    → P (written_step (with_scope n (with_up_moved s p next)) reply.Accepted (journal.Received (counter p.id) m) (wake_of_up s p next)))
    → P (on_place_notice n (part_place n id) m)
part_notice_cases P n id m same again asked alone above =
    place_cases (λ (place : PartPlace). P (on_place_notice n place m)) n id (λ _. same (reply.SoapFault code.DestinationUnreachable))
    (λ p stands. heard_cases P n (lone p) p m (on_lone_row n p m (part_row p.protocol p.state m)) same
    (asked (lone p) p (stands, refl)) (λ hears. by_lone_row p stands hears (part_row p.protocol p.state m) refl))
    (λ s p stands. heard_cases P n (upward s p) p m (on_up_row n s p m (part_row p.protocol p.state m)) same
    (asked (upward s p) p (stands, refl)) (λ hears. by_up_row s p stands hears (part_row p.protocol p.state m) refl))
  where
    by_lone_row : (p : Part) → LoneStands n id p → has_no_coordinator p.state ≡ false → (row : PRow) → part_row p.protocol p.state m ≡ row
        → P (on_lone_row n p m row)
    by_lone_row p stands hears prow.Invalid is = same (reply.SoapFault code.InvalidState)
    by_lone_row p stands hears (prow.Row next prompt) is =
        by_test P (same_part_state p.state next) (again_step n p.id prompt) _ (λ _. again p.id prompt)
        (λ other. alone p next prompt stands hears is other)

    by_up_row : (s : ScopeState) (p : Part) → UpStands n id s p → has_no_coordinator p.state ≡ false → (row : PRow)
        → part_row p.protocol p.state m ≡ row → P (on_up_row n s p m row)
    by_up_row s p stands hears prow.Invalid is = same (reply.SoapFault code.InvalidState)
    by_up_row s p stands hears (prow.Row next prompt) is =
        by_test P (same_part_state p.state next) (again_step n p.id prompt) _ (λ _. again p.id prompt)
        (λ other. above s p next prompt stands hears is other)

-- ---- Act

pub act_cases : (P : NodeStep → Type 0) (n : NodeState) (id : Id) (a : Act) → OfReply P n
    → ((p : Part) (next : PState) → LoneStands n id p → acted_state p.protocol p.state a ≡ Some next
    → P (written_step (with_lone n (part_in_state next p)) reply.Accepted (journal.Acted (counter id) a) (wake.One id)))
    → P (on_act n id a)
act_cases P n id a same moves =
    place_cases (λ (place : PartPlace). P (act_at n place id a)) n id (λ _. same (reply.Refused NO_SUCH_PART id))
    (λ p stands. found_cases P (acted_state p.protocol p.state a) (refusal_step n WRONG_STATE id) _ (same (reply.Refused WRONG_STATE id))
    (λ next is. moves p next stands is))
    (λ s p stands. same (reply.Refused CHILD_PART id))

-- ---- Ask

pub ask_cases : (P : NodeStep → Type 0) (n : NodeState) (id : Id) → OfReply P n
    → ((at : EndPlace) → EndStands n id at → at.end.asks ≡ false
    → P (written_step (with_scope n (with_end_changed at.end.id end_asking at.scope)) reply.Accepted (journal.Asked (counter at.end.id))
    (wake.One at.end.id)))
    → ((place : PartPlace) (p : Part) → end_place n id ≡ None → Stands n id place p → has_no_coordinator p.state ≡ false → p.asks ≡ false
    → P (written_step (with_part_changed n place part_asking) reply.Accepted (journal.Asked (counter p.id)) (wake.One p.id)))
    → P (on_ask n id)
ask_cases P n id same end part = by_end (end_place n id) refl
  where
    by_end : (o : Option EndPlace) → end_place n id ≡ o
        → P (if_found o (if_placed (part_place n id) (refusal_step n NO_SUCH_END id) (ask_part n (part_place n id)))
        (λ at. ask_end n at.scope at.end))
    by_end None none = placed_cases P n id (refusal_step n NO_SUCH_END id) (ask_part n) (same (reply.Refused NO_SUCH_END id))
        (λ place p stands.
        by_test P (has_no_coordinator p.state) (refusal_step n WRONG_STATE p.id) _ (λ _. same (reply.Refused WRONG_STATE p.id)) (λ hears.
        by_test P p.asks (accepted_step n) _ (λ _. same reply.Accepted) (λ asks. part place p none stands hears asks)))
    by_end (Some at) found =
        by_test P at.end.asks (accepted_step n) _ (λ _. same reply.Accepted) (λ asks. end at (end_found n id at found) asks)

-- ---- Decide, Choose, Complete, Finish, Leave

pub rule_cases : (P : NodeStep → Type 0) (n : NodeState) (rule : ScopeStep Said) (k : Record) (w : Wake) → OfReply P n
    → (rule.answer ≡ said.Ok → P (written_step (with_scope n rule.after) reply.Accepted k w)) → P (rule_step n rule k w)
rule_cases P n rule k w same done = by_answer rule.answer refl
  where
    by_answer : (a : Said) → rule.answer ≡ a → P (elim a [
      | said.No number id ↦ refusal_step n number id
      | said.Ok ↦ written_step (with_scope n rule.after) reply.Accepted k w
    ])
    by_answer (said.No number id) is = same (reply.Refused number id)
    by_answer said.Ok is = done is

pub on_decide_cases : (P : NodeStep → Type 0) (n : NodeState) (id : Id) (v : Verdict) → OfReply P n
    → ((s : ScopeState) → scope_with_id n id ≡ Some s → (decide s v).answer ≡ said.Ok
    → P (written_step (with_scope n (decide s v).after) reply.Accepted (journal.Decided (counter id) v) (wake.Scope id)))
    → P (on_decide n id v)
on_decide_cases P n id v same done =
    found_cases P (scope_with_id n id) (refusal_step n NO_SUCH_SCOPE id) _ (same (reply.Refused NO_SUCH_SCOPE id)) (λ s here.
    rule_cases P n (decide s v) (journal.Decided (counter id) v) (wake.Scope id) same (done s here))

pub on_choose_cases : (P : NodeStep → Type 0) (n : NodeState) (id : Id) (v : Verdict) → OfReply P n
    → ((at : EndPlace) → EndStands n id at → (choose at.scope id v).answer ≡ said.Ok
    → P (written_step (with_scope n (choose at.scope id v).after) reply.Accepted (journal.Chosen (counter id) (choice_number v))
    (wake_of_choice at.end (chosen_state at.end.protocol at.end.state v))))
    → P (on_choose n id v)
on_choose_cases P n id v same done =
    found_cases P (end_place n id) (refusal_step n NO_SUCH_END id) _ (same (reply.Refused NO_SUCH_END id)) (λ at found.
    rule_cases P n (choose at.scope id v) (journal.Chosen (counter id) (choice_number v))
    (wake_of_choice at.end (chosen_state at.end.protocol at.end.state v)) same (done at (end_found n id at found)))

pub on_complete_cases : (P : NodeStep → Type 0) (n : NodeState) (id : Id) → OfReply P n
    → ((at : EndPlace) → EndStands n id at → (complete at.scope id).answer ≡ said.Ok
    → P (written_step (with_scope n (complete at.scope id).after) reply.Accepted (journal.Chosen (counter id) complete_number)
    (wake.One id)))
    → P (on_complete n id)
on_complete_cases P n id same done =
    found_cases P (end_place n id) (refusal_step n NO_SUCH_END id) _ (same (reply.Refused NO_SUCH_END id)) (λ at found.
    rule_cases P n (complete at.scope id) (journal.Chosen (counter id) complete_number) (wake.One id) same
    (done at (end_found n id at found)))

up_act_cases : (P : NodeStep → Type 0) (n : NodeState) (s : ScopeState) (rule : ScopeStep Said) (a : Act) → OfReply P n
    → ((up : Part) → s.up ≡ Some up → rule.answer ≡ said.Ok
    → P (written_step (with_scope n rule.after) reply.Accepted (journal.Acted (counter up.id) a) (wake.One up.id)))
    → P (up_act_step n s rule a)
up_act_cases P n s rule a same done =
    found_cases P s.up (refusal_step n NOT_A_CHILD s.id) _ (same (reply.Refused NOT_A_CHILD s.id)) (λ up is.
    rule_cases P n rule (journal.Acted (counter up.id) a) (wake.One up.id) same (done up is))

pub on_finish_cases : (P : NodeStep → Type 0) (n : NodeState) (id : Id) → OfReply P n
    → ((s : ScopeState) (up : Part) → scope_with_id n id ≡ Some s → s.up ≡ Some up → (finish s).answer ≡ said.Ok
    → P (written_step (with_scope n (finish s).after) reply.Accepted (journal.Acted (counter up.id) act.Completed) (wake.One up.id)))
    → P (on_finish n id)
on_finish_cases P n id same done =
    found_cases P (scope_with_id n id) (refusal_step n NO_SUCH_SCOPE id) _ (same (reply.Refused NO_SUCH_SCOPE id)) (λ s here.
    up_act_cases P n s (finish s) act.Completed same (λ up is ok. done s up here is ok))

pub on_leave_cases : (P : NodeStep → Type 0) (n : NodeState) (id : Id) (how : Leave) → OfReply P n
    → ((s : ScopeState) (up : Part) → scope_with_id n id ≡ Some s → s.up ≡ Some up → (leave_by s how).answer ≡ said.Ok
    → P (written_step (with_scope n (leave_by s how).after) reply.Accepted (journal.Acted (counter up.id) (leave_act how))
    (wake.One up.id)))
    → P (on_leave n id how)
on_leave_cases P n id how same done =
    found_cases P (scope_with_id n id) (refusal_step n NO_SUCH_SCOPE id) _ (same (reply.Refused NO_SUCH_SCOPE id)) (λ s here.
    up_act_cases P n s (leave_by s how) (leave_act how) same (λ up is ok. done s up here is ok))

-- ---- ticks

-- what holds of a tick that changes nothing
abbrev pub OfLetter : (TickStep → Type 0) → NodeState → Type 0
OfLetter P n = (l : Option Letter) → P (letter_step n l)

-- an upward part that talks, or that acts since its scope is drained
abbrev pub up_talks : Part → Bool
up_talks up = up.owes || up.asks

abbrev pub up_acts : ScopeState → Part → Bool
up_acts s up = not (up_talks up) && not (same_part_state up.state (state_at_tick s up))

abbrev pub end_ticks : End → Bool
end_ticks e = (e.owes || e.asks) || not (same_end_state e.state (tick_of_end e).after.state)

-- the letter of a tick that changes nothing
pub data SentOnly (n : NodeState) (id : Id) (l : Option Letter) : Type 0 where
  nothing : l ≡ None → SentOnly n id l
  of_end : (at : EndPlace) → EndStands n id at → end_ticks at.end ≡ false → l ≡ end_letter at.end (tick_of_end at.end).says
      → SentOnly n id l
  -- a participant registers
  of_registering : (p : Part) → HasPart n p → is_registering_state p.state ≡ true → l ≡ Some (register_letter n p) → SentOnly n id l
  of_lone : (p : Part) → LoneStands n id p → is_registering_state p.state ≡ false → (p.owes || p.asks) ≡ false
      → l ≡ part_letter p (part_says p.state) → SentOnly n id l
  of_up : (s : ScopeState) (p : Part) → UpStands n id s p → is_registering_state p.state ≡ false → (up_talks p || up_acts s p) ≡ false
      → l ≡ part_letter p (tick_up s).says → SentOnly n id l

-- what holds of a scope that expires, of an end that ticks, of a lone participant that talks, and of an upward part that talks or acts
abbrev pub OfExpiry : (TickStep → Type 0) → NodeState → ℕ → Id → Type 0
OfExpiry P n now id =
    (s : ScopeState) → scope_with_id n id ≡ Some s → (expire s now).answer ≡ true
    → P (ticked_step (with_scope n (expire s now).after) None s.id (wake.Scope s.id))

abbrev pub OfEndTick : (TickStep → Type 0) → NodeState → Id → Type 0
OfEndTick P n id =
    (at : EndPlace) (w : Wake) → scope_with_id n id ≡ None → EndStands n id at → end_ticks at.end ≡ true
    → P (ticked_step (with_scope n (with_end_changed at.end.id (λ it. (tick_of_end it).after) at.scope))
    (end_letter at.end (tick_of_end at.end).says) at.end.id w)

abbrev pub OfLoneTick : (TickStep → Type 0) → NodeState → Id → Type 0
OfLoneTick P n id =
    (p : Part) → scope_with_id n id ≡ None → end_place n id ≡ None → LoneStands n id p → is_registering_state p.state ≡ false
    → (p.owes || p.asks) ≡ true
    → P (ticked_step (with_lone n (tick_of_part p).after) (part_letter p (tick_of_part p).says) p.id wake.Nobody)

abbrev pub OfUpTick : (TickStep → Type 0) → NodeState → Id → Type 0
OfUpTick P n id =
    (s : ScopeState) (p : Part) (w : Wake) → scope_with_id n id ≡ None → end_place n id ≡ None → UpStands n id s p
    → is_registering_state p.state ≡ false → (up_talks p || up_acts s p) ≡ true
    → P (ticked_step (with_scope n (tick_up s).after) (part_letter p (tick_up s).says) p.id w)

pub tick_letters : (P : TickStep → Type 0) (n : NodeState) (now : ℕ) (id : Id)
    → ((l : Option Letter) → SentOnly n id l → P (letter_step n l))
    → OfExpiry P n now id → OfEndTick P n id → OfLoneTick P n id → OfUpTick P n id → P (tick_step n now id)
tick_letters P n now id same scope end alone above = by_scope (scope_with_id n id) refl
  where
    by_place : scope_with_id n id ≡ None → end_place n id ≡ None → P (tick_at_part n (part_place n id))
    by_place no_scope no_end =
        place_cases (λ (place : PartPlace). P (tick_at_part n place)) n id (λ _. same None (nothing refl))
        (λ p stands. by_test P (is_registering_state p.state) (letter_step n (Some (register_letter n p))) (tick_lone n p)
        (λ registers. same _ (of_registering p (inl stands.part) registers refl))
        (λ hears.
        by_test P (p.owes || p.asks) _ (letter_step n (part_letter p (part_says p.state)))
        (λ talks. alone p no_scope no_end stands hears talks) (λ silent. same _ (of_lone p stands hears silent refl))))
        (λ s p stands. by_test P (is_registering_state p.state) (letter_step n (Some (register_letter n p))) (tick_upward n s p)
        (λ registers. same _ (of_registering p (inr (s, stands.scope, stands.up)) registers refl))
        (λ hears.
        by_test P (up_talks p || up_acts s p) _ (letter_step n (part_letter p (tick_up s).says))
        (λ moves. above s p _ no_scope no_end stands hears moves) (λ stays. same _ (of_up s p stands hears stays refl))))

    by_end : scope_with_id n id ≡ None → (o : Option EndPlace) → end_place n id ≡ o
        → P (if_found o (tick_at_part n (part_place n id)) (λ at. tick_at_end n at.scope at.end))
    by_end no_scope None none = by_place no_scope none
    by_end no_scope (Some at) found =
        let stands = end_found n id at found in
        by_test P (end_ticks at.end) _ (letter_step n (end_letter at.end (tick_of_end at.end).says))
        (λ ticks. end at _ no_scope stands ticks) (λ stays. same _ (of_end at stands stays refl))

    by_scope : (o : Option ScopeState) → scope_with_id n id ≡ o
        → P (if_found o (if_found (end_place n id) (tick_at_part n (part_place n id)) (λ at. tick_at_end n at.scope at.end))
        (λ s. tick_at_scope n s now))
    by_scope None none = by_end none (end_place n id) refl
    by_scope (Some s) here =
        by_test P (expire s now).answer _ (letter_step n None) (λ expired. scope s here expired) (λ _. same None (nothing refl))

pub tick_cases : (P : TickStep → Type 0) (n : NodeState) (now : ℕ) (id : Id) → OfLetter P n → OfExpiry P n now id → OfEndTick P n id
    → OfLoneTick P n id → OfUpTick P n id → P (tick_step n now id)
tick_cases P n now id same scope end alone above = tick_letters P n now id (λ l _. same l) scope end alone above
