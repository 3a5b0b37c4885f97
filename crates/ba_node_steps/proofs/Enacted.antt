-- A record tells its step: what happened, enacted again, leads to the same node and keeps the same record; for the law
-- a_record_tells_its_step.
use Rattle.std.proofs.Common.{◌≡◌, ℕ, ◌+◌, ◌-◌, ◌<◌, ◌^◌, Bool, true, false, ◌&&◌, min, nat_eq, Option, None, Some, is_some, unwrap_or}
use Rattle.std.proofs.Common.{refl, sym, ap, ◌∙◌, subst, arith, true≢false, if◌then◌else◌}
use Rattle.std.specs.Option.{option_and_then, option_map}
use Rattle.std.proofs.lemmas.Bool.{and_parts}
use Rattle.std.proofs.lemmas.Bool.Decides.{nat_tests}
use Rattle.ba_core.specs.Numbers.{id_of, counter_of}
use Rattle.ba_core.specs.declared.codes.Code.{Code}
use Rattle.ba_core.specs.declared.codes.Code.TheVariants as code
use Rattle.ba_core.specs.declared.identifiers.Id.{Id}
use Rattle.ba_core.specs.declared.notices.Act.{Act}
use Rattle.ba_core.specs.declared.notices.Act.TheVariants as act
use Rattle.ba_core.specs.declared.notices.Leave.{Leave}
use Rattle.ba_core.specs.declared.notices.Leave.TheVariants as leave
use Rattle.ba_core.specs.declared.notices.Notice.{Notice}
use Rattle.ba_core.specs.declared.notices.Notice.TheVariants as notice
use Rattle.ba_core.specs.declared.protocols.Kind.{Kind}
use Rattle.ba_core.specs.declared.protocols.Protocol.{Protocol}
use Rattle.ba_core.specs.declared.protocols.Protocol.TheVariants.{Pc}
use Rattle.ba_core.specs.declared.protocols.Side.TheVariants.{Coordinator, Participant}
use Rattle.ba_core.specs.declared.protocols.Verdict.{Verdict}
use Rattle.ba_core.specs.declared.protocols.Verdict.TheVariants.{Close, Undo}
use Rattle.ba_message.specs.declared.endpoints.Epr.{Epr}
use Rattle.ba_record.specs.Coding.{InRange, IsDeadline}
use Rattle.ba_record.specs.declared.records.Record.{Record}
use Rattle.ba_record.specs.declared.records.Record.TheVariants as journal
use Rattle.ba_scope.proofs.Lists.{by_test}
use Rattle.ba_scope.specs.Rules.{leave_act}
use Rattle.ba_scope.specs.Scope.{ScopeState}
use Rattle.ba_scope_ends.specs.declared.parts.Part.{Part}
use Rattle.ba_node_steps.specs.declared.inputs.Input.TheVariants as input
use Rattle.ba_node_steps.specs.Fits.{IsIdAt, NodeFits}
use Rattle.ba_node_steps.specs.Lawful.{Event, given, ticked, IsStepOf, act_event, after_record, change, chosen_event, create_event}
use Rattle.ba_node_steps.specs.Lawful.{current_context, enacted_again, is_next, last_moment, notice_event, refused_event}
use Rattle.ba_node_steps.specs.Node.{NodeState, PartPlace, upward, counter, end_place, id_at, next_id, part_place, scope_with_id}
use Rattle.ba_node_steps.specs.Steps.{NodeStep, choice_number, complete_number, deadline_after, is_get_status, refusal_number}
use Rattle.ba_node_steps.specs.Ticks.{TickStep}
use Rattle.ba_node_steps.proofs.Cases.{act_cases, ask_cases, create_cases, end_notice_cases, enrolled_cases, join_cases, on_choose_cases}
use Rattle.ba_node_steps.proofs.Cases.{on_complete_cases, on_decide_cases, on_finish_cases, on_leave_cases, part_notice_cases, refused_cases}
use Rattle.ba_node_steps.proofs.Cases.{register_cases, tick_cases}
use Rattle.ba_node_steps.proofs.Members.{id_by_number}
use Rattle.ba_node_steps.proofs.Objects.{one_scope}
use Rattle.ba_node_steps.proofs.Places.{UpStands, place_cases, scope_found, stands_is}

-- ---- counters and identifiers

pub counter_at : (n : NodeState) (c : ℕ) → c < 2 ^ 64 → counter (id_at n c) ≡ c
counter_at n c small = omega (arith, small)

-- an identifier of this node is told by its counter
pub id_told : (n : NodeState) (id : Id) → IsIdAt n.number id → id_at n (counter id) ≡ id
id_told n id at =
    let spelled = at.spelled in
    let small = at.is_counter.1 in
    let is : counter id ≡ at.counter = ap counter_of spelled ∙ counter_at n at.counter small in
    id_by_number (id_at n (counter id)) id (ap (λ c. id_of n.number c) is ∙ sym spelled)

pub some_is : {A : Type 0} (a b : A) → ◌≡◌ {A = Option A} (Some a) (Some b) → a ≡ b
some_is a b h = cc

pub get_status_is : (m : Notice) → is_get_status m ≡ true → m ≡ notice.GetStatus
get_status_is notice.GetStatus h = refl
get_status_is m h = absurd (true≢false (sym h))

-- ---- from the record to the step

-- what is kept of the event is the record
abbrev Tells : NodeState → Record → Event → Type 0
Tells n r e = is_next n r ≡ true → is_some (change n e).written ≡ true → (change n e).written ≡ Some r

enacted : (n : NodeState) (r : Record) (m : NodeState) (e : Event) → Tells n r e → enacted_again n r e ≡ Some m → IsStepOf n r m
enacted n r m e tells h = by_answer (is_next n r && is_some (change n e).written) refl h
  where
    by_answer : (b : Bool) → (is_next n r && is_some (change n e).written) ≡ b → (if b then Some (change n e).after else None) ≡ Some m
        → IsStepOf n r m
    by_answer true is h =
        let both = and_parts (is_next n r) (is_some (change n e).written) is in
        record { event = e; keeps = tells both.0 both.1; leads = some_is (change n e).after m h }
    by_answer false is h = absurd cc

-- that a step keeps this record, if it keeps one
abbrev Keeps : Record → NodeStep → Type 0
Keeps r step = is_some step.written ≡ true → step.written ≡ Some r

abbrev KeepsByTick : Record → TickStep → Type 0
KeepsByTick r step = is_some step.written ≡ true → step.written ≡ Some r

nothing : {A : Type 0} → false ≡ true → A
nothing h = absurd (true≢false (sym h))

-- the moment is its deadline
pub deadline_again : (deadline : Option ℕ) → IsDeadline deadline
    → deadline_after (unwrap_or deadline 0) (option_map (λ moment. 0) deadline) ≡ deadline
deadline_again None small = refl
deadline_again (Some moment) small = ap Some (in_range moment small)
  where
    in_range : (moment : ℕ) → moment < 2 ^ 64 → min (moment + 0) (2 ^ 64 - 1) ≡ moment
    in_range moment small = omega (arith, small)

next_is_told : (n : NodeState) (c : ℕ) → nat_eq c (counter (next_id n 1)) ≡ true → counter (next_id n 1) ≡ c
next_is_told n c h = grind (arith, nat_tests)

-- by the place of the identifier, or of a counter in range
place_told : (n : NodeState) (c : ℕ) (id : Id) → c < 2 ^ 64 → id ≡ id_at n c → counter id ≡ c
place_told n c id small is = ap counter is ∙ counter_at n c small

scope_tells : (n : NodeState) (c : ℕ) (kind : Kind) (deadline : Option ℕ) (up : Option (Protocol × Epr)) → IsDeadline deadline
    → Tells n (journal.Scope c kind deadline up) (create_event kind deadline up)
scope_tells n c kind deadline None small next =
    create_cases (Keeps (journal.Scope c kind deadline None)) n (unwrap_or deadline 0) (option_map (λ moment. 0) deadline) None
    (Some kind) Pc
    (λ r. nothing)
    (λ k is root some.
    let same_kind : kind ≡ k = some_is kind k is in
    λ i. Some (journal.Scope (next_is_told n c next i) (sym same_kind i) (deadline_again deadline small i) None))
    (λ k current is of alike dialable. absurd cc)
scope_tells n c kind deadline (Some up) small next =
    create_cases (Keeps (journal.Scope c kind deadline (Some up))) n (unwrap_or deadline 0) (option_map (λ moment. 0) deadline)
    (Some (current_context kind up.1)) (Some kind) up.0
    (λ r. nothing) (λ k is root. absurd cc)
    (λ k current is of alike dialable some.
    let same_kind : kind ≡ k = some_is kind k is in
    let same_context = some_is (current_context kind up.1) current of in
    λ i. Some
    (journal.Scope (next_is_told n c next i) (sym same_kind i) (deadline_again deadline small i)
    (Some (up.0, (sym same_context i).registration))))

end_tells : (n : NodeState) (c scope : ℕ) (protocol : Protocol) (participant : Epr) → scope < 2 ^ 64
    → Tells n (journal.End c scope protocol participant) (given 0 (input.Register (id_at n scope) (Some protocol) participant))
end_tells n c scope protocol participant small next =
    register_cases (Keeps (journal.End c scope protocol participant)) n (id_at n scope) (Some protocol) participant (λ r. nothing)
    (λ s known registers some.
    let own : counter s.id ≡ scope = place_told n scope s.id small (scope_found n (id_at n scope) s registers.here).1 in
    let same : protocol ≡ known = some_is protocol known registers.protocol_is in
    λ i. Some (journal.End (next_is_told n c next i) (own i) (sym same i) participant))

part_tells : (n : NodeState) (c : ℕ) (protocol : Protocol) (registration : Epr)
    → Tells n (journal.Part c protocol registration) (given 0 (input.Join protocol registration))
part_tells n c protocol registration next =
    join_cases (Keeps (journal.Part c protocol registration)) n protocol registration (λ r. nothing)
    (λ dialable some i. Some (journal.Part (next_is_told n c next i) protocol registration))

enrolled_tells : (n : NodeState) (c : ℕ) (coordinator : Epr) → c < 2 ^ 64
    → Tells n (journal.Enrolled c coordinator) (given 0 (input.Enrolled (id_at n c) coordinator))
enrolled_tells n c coordinator small next =
    enrolled_cases (Keeps (journal.Enrolled c coordinator)) n (id_at n c) coordinator (λ r. nothing)
    (λ place p stands registering dialable some i. Some (journal.Enrolled (counter_at n c small i) coordinator))

refused_tells : (n : NodeState) (c number : ℕ) (why : Code) → c < 2 ^ 64 → refusal_number why ≡ Some number
    → Tells n (journal.Refused c number) (given 0 (input.RefusedBy (id_at n c) why))
refused_tells n c number why small known next =
    refused_cases (Keeps (journal.Refused c number)) n (id_at n c) why (λ r. nothing)
    (λ place p other stands registering is some.
    let same : number ≡ other = some_is number other (sym known ∙ is) in
    λ i. Some (journal.Refused (counter_at n c small i) (sym same i)))

end_notice_tells : (n : NodeState) (c : ℕ) (m : Notice) → c < 2 ^ 64
    → Tells n (journal.Received c m) (given 0 (input.Notice Coordinator (id_at n c) m))
end_notice_tells n c m small next =
    end_notice_cases (Keeps (journal.Received c m)) n (id_at n c) m (λ r. nothing) (λ id prompt. nothing)
    (λ at stands owes asks some i. Some (journal.Received (place_told n c at.end.id small stands.is i) (sym (get_status_is m asks) i)))
    (λ at to prompt stands row other some i. Some (journal.Received (place_told n c at.end.id small stands.is i) m))

part_notice_tells : (n : NodeState) (c : ℕ) (m : Notice) → c < 2 ^ 64
    → Tells n (journal.Received c m) (given 0 (input.Notice Participant (id_at n c) m))
part_notice_tells n c m small next =
    part_notice_cases (Keeps (journal.Received c m)) n (id_at n c) m (λ r. nothing) (λ id prompt. nothing)
    (λ place p stands hears asks owes some i.
    Some (journal.Received (place_told n c p.id small (stands_is n (id_at n c) place p stands) i) (sym (get_status_is m asks) i)))
    (λ p to prompt stands hears row other some i. Some (journal.Received (place_told n c p.id small stands.is i) m))
    (λ s p to prompt stands hears row other some i. Some (journal.Received (place_told n c p.id small stands.is i) m))

notice_tells : (n : NodeState) (c : ℕ) (m : Notice) → c < 2 ^ 64 → Tells n (journal.Received c m) (notice_event n (id_at n c) m)
notice_tells n c m small =
    by_test (λ side. Tells n (journal.Received c m) (given 0 (input.Notice side (id_at n c) m)))
    (is_some (end_place n (id_at n c))) Coordinator Participant
    (λ _. end_notice_tells n c m small) (λ _. part_notice_tells n c m small)

act_tells : (n : NodeState) (c : ℕ) (a : Act) → c < 2 ^ 64 → Tells n (journal.Acted c a) (given 0 (input.Act (id_at n c) a))
act_tells n c a small next =
    act_cases (Keeps (journal.Acted c a)) n (id_at n c) a (λ r. nothing)
    (λ p to stands acts some i. Some (journal.Acted (counter_at n c small i) a))

-- the upward part of the scope that is found
up_told : (n : NodeState) (c : ℕ) (s t : ScopeState) (p q : Part) → c < 2 ^ 64 → NodeFits n → UpStands n (id_at n c) s p
    → scope_with_id n s.id ≡ Some t
    → t.up ≡ Some q → counter q.id ≡ c
up_told n c s t p q small fits stands here is =
    let found = scope_found n s.id t here in
    let same : t ≡ s = one_scope n t s fits found.0 stands.scope (ap (λ (id : Id). id.0) found.1) in
    let parts : ◌≡◌ {A = Option Part} (Some q) (Some p) = sym is ∙ ap (λ (x : ScopeState). x.up) same ∙ stands.up in
    let part : q ≡ p = some_is q p parts in
    place_told n c q.id small (ap (λ (x : Part). x.id) part ∙ stands.is)

finish_tells : (n : NodeState) (c : ℕ) (s : ScopeState) (p : Part) → c < 2 ^ 64 → NodeFits n → UpStands n (id_at n c) s p
    → Tells n (journal.Acted c act.Completed) (given 0 (input.Finish s.id))
finish_tells n c s p small fits stands next =
    on_finish_cases (Keeps (journal.Acted c act.Completed)) n s.id (λ r. nothing)
    (λ t q here is ok some i. Some (journal.Acted (up_told n c s t p q small fits stands here is i) act.Completed))

leave_tells : (n : NodeState) (c : ℕ) (s : ScopeState) (p : Part) (how : Leave) → c < 2 ^ 64 → NodeFits n → UpStands n (id_at n c) s p
    → Tells n (journal.Acted c (leave_act how)) (given 0 (input.Leave s.id how))
leave_tells n c s p how small fits stands next =
    on_leave_cases (Keeps (journal.Acted c (leave_act how))) n s.id how (λ r. nothing)
    (λ t q here is ok some i. Some (journal.Acted (up_told n c s t p q small fits stands here is i) (leave_act how)))

up_act_tells : (n : NodeState) (c : ℕ) (a : Act) (s : ScopeState) (p : Part) → c < 2 ^ 64 → NodeFits n → UpStands n (id_at n c) s p
    → Tells n (journal.Acted c a) (act_event (upward s p) (id_at n c) a)
up_act_tells n c act.Completed s p small fits stands = finish_tells n c s p small fits stands
up_act_tells n c act.Exit s p small fits stands = leave_tells n c s p leave.Exit small fits stands
up_act_tells n c act.CannotComplete s p small fits stands = leave_tells n c s p leave.CannotComplete small fits stands
up_act_tells n c act.Fail s p small fits stands = leave_tells n c s p leave.Fail small fits stands
up_act_tells n c act.Closed s p small fits stands = act_tells n c act.Closed small
up_act_tells n c act.Canceled s p small fits stands = act_tells n c act.Canceled small
up_act_tells n c act.Compensated s p small fits stands = act_tells n c act.Compensated small

acted_tells : (n : NodeState) (c : ℕ) (a : Act) → c < 2 ^ 64 → NodeFits n
    → Tells n (journal.Acted c a) (act_event (part_place n (id_at n c)) (id_at n c) a)
acted_tells n c a small fits =
    place_cases (λ (place : PartPlace). Tells n (journal.Acted c a) (act_event place (id_at n c) a)) n (id_at n c)
    (λ none. act_tells n c a small) (λ p stands. act_tells n c a small) (λ s p stands. up_act_tells n c a s p small fits stands)

decided_tells : (n : NodeState) (c : ℕ) (v : Verdict) → c < 2 ^ 64 → Tells n (journal.Decided c v) (given 0 (input.Decide (id_at n c) v))
decided_tells n c v small next =
    on_decide_cases (Keeps (journal.Decided c v)) n (id_at n c) v (λ r. nothing)
    (λ s here ok some i. Some (journal.Decided (counter_at n c small i) v))

choice_tells : (n : NodeState) (c : ℕ) (v : Verdict) → c < 2 ^ 64
    → Tells n (journal.Chosen c (choice_number v)) (given 0 (input.Choose (id_at n c) v))
choice_tells n c v small next =
    on_choose_cases (Keeps (journal.Chosen c (choice_number v))) n (id_at n c) v (λ r. nothing)
    (λ at stands ok some i. Some (journal.Chosen (counter_at n c small i) (choice_number v)))

complete_tells : (n : NodeState) (c : ℕ) → c < 2 ^ 64 → Tells n (journal.Chosen c complete_number) (given 0 (input.Complete (id_at n c)))
complete_tells n c small next =
    on_complete_cases (Keeps (journal.Chosen c complete_number)) n (id_at n c) (λ r. nothing)
    (λ at stands ok some i. Some (journal.Chosen (counter_at n c small i) complete_number))

ticked_tells : (n : NodeState) (c : ℕ) → c < 2 ^ 64 → Tells n (journal.Ticked c) (ticked last_moment (id_at n c))
ticked_tells n c small next =
    tick_cases (KeepsByTick (journal.Ticked c)) n last_moment (id_at n c) (λ l. nothing)
    (λ s here expired some i. Some (journal.Ticked (place_told n c s.id small (scope_found n (id_at n c) s here).1 i)))
    (λ at w no_scope stands ticks some i. Some (journal.Ticked (place_told n c at.end.id small stands.is i)))
    (λ p no_scope no_end stands hears talks some i. Some (journal.Ticked (place_told n c p.id small stands.is i)))
    (λ s p w no_scope no_end stands hears moves some i. Some (journal.Ticked (place_told n c p.id small stands.is i)))

asked_tells : (n : NodeState) (c : ℕ) → c < 2 ^ 64 → Tells n (journal.Asked c) (given 0 (input.Ask (id_at n c)))
asked_tells n c small next =
    ask_cases (Keeps (journal.Asked c)) n (id_at n c) (λ r. nothing)
    (λ at stands asks some i. Some (journal.Asked (place_told n c at.end.id small stands.is i)))
    (λ place p none stands hears asks some i. Some (journal.Asked (place_told n c p.id small (stands_is n (id_at n c) place p stands) i)))

-- by the number of a refusal or of a choice
number_is : (a b : ℕ) → nat_eq a b ≡ true → b ≡ a
number_is a b h = grind (arith, nat_tests)

-- the event leads to a step of the record
abbrev EventTells : NodeState → Record → NodeState → Option Event → Type 0
EventTells n r m e = option_and_then (enacted_again n r) e ≡ Some m → IsStepOf n r m

refusal_told : (n : NodeState) (c number : ℕ) (m : NodeState) → c < 2 ^ 64
    → option_and_then (enacted_again n (journal.Refused c number)) (refused_event (id_at n c) number) ≡ Some m
    → IsStepOf n (journal.Refused c number) m
refusal_told n c number m small =
    by_test (EventTells n (journal.Refused c number) m) (nat_eq number 1) _ _
    (λ one. enacted n (journal.Refused c number) m (given 0 (input.RefusedBy (id_at n c) code.CannotRegisterParticipant))
    (refused_tells n c number code.CannotRegisterParticipant small (ap Some (number_is number 1 one))))
    (λ _. by_test (EventTells n (journal.Refused c number) m) (nat_eq number 2) _ None
    (λ two. enacted n (journal.Refused c number) m (given 0 (input.RefusedBy (id_at n c) code.InvalidProtocol))
    (refused_tells n c number code.InvalidProtocol small (ap Some (number_is number 2 two))))
    (λ _ none. absurd cc))

choice_told : (n : NodeState) (c number : ℕ) (m : NodeState) → c < 2 ^ 64
    → option_and_then (enacted_again n (journal.Chosen c number)) (chosen_event (id_at n c) number) ≡ Some m
    → IsStepOf n (journal.Chosen c number) m
choice_told n c number m small =
    by_test (EventTells n (journal.Chosen c number) m) (nat_eq number (choice_number Close)) _ _
    (λ one. by_number (given 0 (input.Choose (id_at n c) Close)) (choice_number Close) (number_is number 1 one)
    (λ _. choice_tells n c Close small))
    (λ _. by_test (EventTells n (journal.Chosen c number) m) (nat_eq number (choice_number Undo)) _ _
    (λ two. by_number (given 0 (input.Choose (id_at n c) Undo)) (choice_number Undo) (number_is number 2 two)
    (λ _. choice_tells n c Undo small))
    (λ _. by_test (EventTells n (journal.Chosen c number) m) (nat_eq number complete_number) _ None
    (λ three. by_number (given 0 (input.Complete (id_at n c))) complete_number (number_is number 3 three) (λ _. complete_tells n c small))
    (λ _ none. absurd cc)))
  where
    by_number : (e : Event) (other : ℕ) → other ≡ number → (Unit {0} → Tells n (journal.Chosen c other) e)
        → enacted_again n (journal.Chosen c number) e ≡ Some m → IsStepOf n (journal.Chosen c number) m
    by_number e other same tells = enacted n (journal.Chosen c number) m e (subst (λ k. Tells n (journal.Chosen c k) e) same (tells tt))

-- what a record leads to is led to by a step that keeps it
pub step_of : (n : NodeState) (r : Record) (m : NodeState) → InRange r → NodeFits n → after_record n r ≡ Some m → IsStepOf n r m
step_of n (journal.Node number base) m range fits h = absurd cc
step_of n (journal.Scope c kind deadline up) m range fits h =
    enacted n (journal.Scope c kind deadline up) m (create_event kind deadline up) (scope_tells n c kind deadline up range.1.0) h
step_of n (journal.End c scope protocol participant) m range fits h =
    enacted n (journal.End c scope protocol participant) m (given 0 (input.Register (id_at n scope) (Some protocol) participant))
    (end_tells n c scope protocol participant range.1.0.1) h
step_of n (journal.Part c protocol registration) m range fits h =
    enacted n (journal.Part c protocol registration) m (given 0 (input.Join protocol registration))
    (part_tells n c protocol registration) h
step_of n (journal.Enrolled c coordinator) m range fits h =
    enacted n (journal.Enrolled c coordinator) m (given 0 (input.Enrolled (id_at n c) coordinator))
    (enrolled_tells n c coordinator range.0.1) h
step_of n (journal.Refused c number) m range fits h = refusal_told n c number m range.0.1 h
step_of n (journal.Received c message) m range fits h =
    enacted n (journal.Received c message) m (notice_event n (id_at n c) message)
    (notice_tells n c message range.0.1) h
step_of n (journal.Acted c a) m range fits h =
    enacted n (journal.Acted c a) m (act_event (part_place n (id_at n c)) (id_at n c) a)
    (acted_tells n c a range.1 fits) h
step_of n (journal.Decided c v) m range fits h =
    enacted n (journal.Decided c v) m (given 0 (input.Decide (id_at n c) v))
    (decided_tells n c v range.1) h
step_of n (journal.Chosen c number) m range fits h = choice_told n c number m range.0.1 h
step_of n (journal.Ticked c) m range fits h =
    enacted n (journal.Ticked c) m (ticked last_moment (id_at n c))
    (ticked_tells n c range.1) h
step_of n (journal.Asked c) m range fits h =
    enacted n (journal.Asked c) m (given 0 (input.Ask (id_at n c)))
    (asked_tells n c range.1) h
