-- Each step is the one to which its record leads; for the law a_record_tells_its_step.
use Rattle.std.proofs.Common.{◌≡◌, ℕ, Bool, true, false, not, ◌&&◌, nat_eq, Option, None, Some, is_some, is_none, unwrap_or, refl, sym, ap}
use Rattle.std.proofs.Common.{◌∙◌, subst, arith, true≢false, if◌then◌else◌}
use Rattle.std.specs.Option.{option_and_then, option_map}
use Rattle.std.proofs.lemmas.Bool.{and_parts, and_from}
use Rattle.std.proofs.lemmas.Bool.Decides.{nat_tests}
use Rattle.ba_core.specs.declared.codes.Code.{Code}
use Rattle.ba_core.specs.declared.codes.Code.TheVariants as code
use Rattle.ba_core.specs.declared.identifiers.Id.{Id}
use Rattle.ba_core.specs.declared.notices.Act.{Act}
use Rattle.ba_core.specs.declared.notices.Act.TheVariants as act
use Rattle.ba_core.specs.declared.notices.Leave.{Leave}
use Rattle.ba_core.specs.declared.notices.Leave.TheVariants as leave
use Rattle.ba_core.specs.declared.notices.Notice.{Notice}
use Rattle.ba_core.specs.declared.notices.Notice.TheVariants as notice
use Rattle.ba_core.specs.declared.protocols.Kind.{Kind}
use Rattle.ba_core.specs.declared.protocols.Kind.TheVariants.{Atomic, Mixed}
use Rattle.ba_core.specs.declared.protocols.Protocol.{Protocol}
use Rattle.ba_core.specs.declared.protocols.Side.TheVariants.{Coordinator, Participant}
use Rattle.ba_core.specs.declared.protocols.Verdict.{Verdict}
use Rattle.ba_core.specs.declared.protocols.Verdict.TheVariants.{Close, Undo}
use Rattle.ba_message.specs.Dialing.{is_dialable}
use Rattle.ba_message.specs.declared.endpoints.Epr.{Epr}
use Rattle.ba_message.specs.declared.messages.Context.{Context}
use Rattle.ba_record.specs.Coding.{IsDeadline}
use Rattle.ba_record.specs.declared.records.Record.{Record}
use Rattle.ba_record.specs.declared.records.Record.TheVariants as journal
use Rattle.ba_scope.proofs.Lists.{false_branch}
use Rattle.ba_scope.specs.Rules.{ScopeStep, expire, is_expired, is_past, leave_act, new_scope}
use Rattle.ba_scope.specs.Scope.{ScopeState}
use Rattle.ba_scope_ends.specs.declared.parts.Part.{Part}
use Rattle.ba_node_steps.specs.declared.answers.Wake.TheVariants as wake
use Rattle.ba_node_steps.specs.declared.inputs.Input.{Input}
use Rattle.ba_node_steps.specs.declared.inputs.Input.TheVariants as input
use Rattle.ba_node_steps.specs.Fits.{NodeFits}
use Rattle.ba_node_steps.specs.Lawful.{Event, given, ticked, formatted, IsStepOf, act_event, after_record, change, current_context, enacted_again}
use Rattle.ba_node_steps.specs.Lawful.{event_of, is_next, last_moment, notice_event, refused_event}
use Rattle.ba_node_steps.specs.Node.{Among, EndPlace, NodeState, PartPlace, lone, upward, counter, end_place, id_at, next_id, part_place}
use Rattle.ba_node_steps.specs.Node.{scope_with_id, with_new_scope, with_scope}
use Rattle.ba_node_steps.specs.Steps.{NodeStep, choice_number, create_scope, deadline_after, if_found, is_of_kind, new_part, node_step}
use Rattle.ba_node_steps.specs.Steps.{on_create, refusal_number}
use Rattle.ba_node_steps.specs.Ticks.{TickStep, letter_step, ticked_step, tick_at_end, tick_at_part, tick_at_scope, tick_step}
use Rattle.ba_node_steps.proofs.Cases.{act_cases, ask_cases, create_cases, end_notice_cases, enrolled_cases, join_cases, on_choose_cases}
use Rattle.ba_node_steps.proofs.Cases.{on_complete_cases, on_decide_cases, on_finish_cases, on_leave_cases, part_notice_cases, refused_cases}
use Rattle.ba_node_steps.proofs.Cases.{register_cases, tick_cases}
use Rattle.ba_node_steps.proofs.Changed.{expiry}
use Rattle.ba_node_steps.proofs.Enacted.{deadline_again, get_status_is, id_told, some_is}
use Rattle.ba_node_steps.proofs.Members.{all_among}
use Rattle.ba_node_steps.proofs.Objects.{end_here, no_end_is_a_part, no_lone_is_up, one_scope_above, part_here, scope_here, up_here}
use Rattle.ba_node_steps.proofs.Places.{EndStands, Stands, end_found, first_up_finds, nowhere_above, place_cases, scope_found, stands_is}
use Rattle.ba_node_steps.proofs.Places.{stands_part}
use Rattle.ba_node_steps.proofs.StepsFit.{new_deadline}

-- an event of which the record is kept, and to which the record leads
enacts : (n : NodeState) (r : Record) (e : Event) → event_of n r ≡ Some e → is_next n r ≡ true → (change n e).written ≡ Some r
    → after_record n r ≡ Some (change n e).after
enacts n r e event next kept =
    ap (option_and_then (enacted_again n r)) event ∙ (λ i. if next i && is_some (kept i) then Some (change n e).after else None)

-- ---- identifiers that stand in a record

told_of_scope : (n : NodeState) (id : Id) (s : ScopeState) → NodeFits n → scope_with_id n id ≡ Some s → id_at n (counter s.id) ≡ id
told_of_scope n id s fits here = let found = scope_found n id s here in id_told n s.id (scope_here n s fits found.0) ∙ found.1

told_of_asked_scope : (n : NodeState) (id : Id) (s : ScopeState) → NodeFits n → scope_with_id n id ≡ Some s → id_at n (counter id) ≡ id
told_of_asked_scope n id s fits here =
    ap (λ (x : Id). id_at n (counter x)) (sym (scope_found n id s here).1) ∙ told_of_scope n id s fits here

told_of_end : (n : NodeState) (id : Id) (at : EndPlace) → NodeFits n → EndStands n id at → id_at n (counter at.end.id) ≡ id
told_of_end n id at fits stands = id_told n at.end.id (end_here n at.scope at.end fits stands.scope stands.end) ∙ stands.is

told_of_asked_end : (n : NodeState) (id : Id) (at : EndPlace) → NodeFits n → EndStands n id at → id_at n (counter id) ≡ id
told_of_asked_end n id at fits stands = ap (λ (x : Id). id_at n (counter x)) (sym stands.is) ∙ told_of_end n id at fits stands

told_of_part : (n : NodeState) (id : Id) (place : PartPlace) (p : Part) → NodeFits n → Stands n id place p → id_at n (counter p.id) ≡ id
told_of_part n id place p fits stands = id_told n p.id (part_here n p fits (stands_part n id place p stands))
    ∙ stands_is n id place p stands

told_of_asked_part : (n : NodeState) (id : Id) (place : PartPlace) (p : Part) → NodeFits n → Stands n id place p → id_at n (counter id) ≡ id
told_of_asked_part n id place p fits stands =
    ap (λ (x : Id). id_at n (counter x)) (sym (stands_is n id place p stands)) ∙ told_of_part n id place p fits stands

-- where a participant stands, no end does
no_end_there : (n : NodeState) (id : Id) (place : PartPlace) (p : Part) → NodeFits n → Stands n id place p → end_place n id ≡ None
no_end_there n id place p fits stands = by_end (end_place n id) refl
  where
    by_end : (o : Option EndPlace) → end_place n id ≡ o → end_place n id ≡ None
    by_end None is = is
    by_end (Some at) is =
        let end = end_found n id at is in
        let same : at.end.id.0 ≡ p.id.0 = ap (λ (x : Id). x.0) (end.is ∙ sym (stands_is n id place p stands)) in
        absurd (no_end_is_a_part n at.scope at.end p fits end.scope end.end (stands_part n id place p stands) same)

-- the upward part of a scope of the node is found above it
up_placed : (n : NodeState) (s : ScopeState) (p : Part) → NodeFits n → Among n.scopes s → s.up ≡ Some p → part_place n p.id ≡ upward s p
up_placed n s p fits among is =
    place_cases (λ (place : PartPlace). place ≡ upward s p) n p.id
    (λ none. absurd (first_up_finds p.id n.scopes s p among is refl (nowhere_above n p.id none)))
    (λ q stands. absurd (no_lone_is_up n s q p fits stands.part among is (ap (λ (x : Id). x.0) stands.is)))
    (λ t q stands.
    let scopes : t ≡ s = one_scope_above n t s q p fits stands.scope among stands.up is (ap (λ (x : Id). x.0) stands.is) in
    let ups : ◌≡◌ {A = Option Part} (Some q) (Some p) = sym stands.up ∙ ap (λ (x : ScopeState). x.up) scopes ∙ is in
    let parts : q ≡ p = some_is q p ups in
    λ i. upward (scopes i) (parts i))

-- ---- inputs that are enacted again as they are

-- the record leads to this input
abbrev Again : NodeState → Input → Record → Type 0
Again n i r = (event_of n r ≡ Some (given 0 i)) × (is_next n r ≡ true)

abbrev Retold : NodeState → Input → NodeStep → Type 0
Retold n i step = (r : Record) → step.written ≡ Some r → Again n i r

kept_none : (Q : Record → Type 0) (r : Record) → ◌≡◌ {A = Option Record} None (Some r) → Q r
kept_none Q r h = absurd cc

kept_some : (Q : Record → Type 0) (k r : Record) → Q k → ◌≡◌ {A = Option Record} (Some k) (Some r) → Q r
kept_some Q k r holds h = subst Q (some_is k r h) holds

self_equal : (k : ℕ) → nat_eq k k ≡ true
self_equal k = grind (arith, nat_tests)

refused_again : (id : Id) (c : Code) (number : ℕ) → refusal_number c ≡ Some number
    → refused_event id number ≡ Some (given 0 (input.RefusedBy id c))
refused_again id code.CannotRegisterParticipant number h = subst
    (λ k. refused_event id k ≡ Some (given 0 (input.RefusedBy id code.CannotRegisterParticipant))) (some_is 1 number h) refl
refused_again id code.InvalidProtocol number h = subst
    (λ k. refused_event id k ≡ Some (given 0 (input.RefusedBy id code.InvalidProtocol))) (some_is 2 number h) refl
refused_again id c number h = cc

end_notice_again : (n : NodeState) (x id : Id) (at : EndPlace) (m : Notice) → x ≡ id → end_place n id ≡ Some at
    → notice_event n x m ≡ given 0 (input.Notice Coordinator id m)
end_notice_again n x id at m is placed =
    ap (λ y. notice_event n y m) is ∙ (λ i. given 0 (input.Notice (if is_some (placed i) then Coordinator else Participant) id m))

part_notice_again : (n : NodeState) (x id : Id) (m : Notice) → x ≡ id → end_place n id ≡ None
    → notice_event n x m ≡ given 0 (input.Notice Participant id m)
part_notice_again n x id m is placed =
    ap (λ y. notice_event n y m) is ∙ (λ i. given 0 (input.Notice (if is_some (placed i) then Coordinator else Participant) id m))

choice_again : (n : NodeState) (c : ℕ) (id : Id) (v : Verdict) → id_at n c ≡ id
    → event_of n (journal.Chosen c (choice_number v)) ≡ Some (given 0 (input.Choose id v))
choice_again n c id Close is = ap (λ (x : Id). Some (given 0 (input.Choose x Close))) is
choice_again n c id Undo is = ap (λ (x : Id). Some (given 0 (input.Choose x Undo))) is

-- an act of an upward part, found above its scope
up_act_again : (n : NodeState) (s : ScopeState) (up : Part) (a : Act) → NodeFits n → Among n.scopes s → s.up ≡ Some up
    → event_of n (journal.Acted (counter up.id) a) ≡ Some (act_event (upward s up) up.id a)
up_act_again n s up a fits among is =
    ap (λ (x : Id). Some (act_event (part_place n x) x a)) (id_told n up.id (up_here n s up fits among is))
    ∙ ap (λ place. Some (act_event place up.id a)) (up_placed n s up fits among is)

leave_again : (s : ScopeState) (up : Part) (how : Leave) → act_event (upward s up) up.id (leave_act how) ≡ given 0 (input.Leave s.id how)
leave_again s up leave.Exit = refl
leave_again s up leave.CannotComplete = refl
leave_again s up leave.Fail = refl

retold : (n : NodeState) (i : Input) → NodeFits n
    → ((expires : Option ℕ) (current : Option Context) (kind : Option Kind) (protocol : Protocol)
    → i ≡ input.Create expires current kind protocol → ⊥) → Retold n i (node_step n 0 i)
retold n (input.Create expires current kind protocol) fits not_create = absurd (not_create expires current kind protocol refl)
retold n (input.Register scope protocol participant) fits not_create =
    let i : Input = input.Register scope protocol participant in
    register_cases (Retold n i) n scope protocol participant (λ r. kept_none (Again n i)) (λ s known registers r.
    let of_scope = told_of_scope n scope s fits registers.here in
    let of_protocol = registers.protocol_is in
    kept_some (Again n i) _ r
    ((λ j. Some (given 0 (input.Register (of_scope j) (sym of_protocol j) participant))), self_equal (counter (next_id n 1))))
retold n (input.Join protocol registration) fits not_create =
    let i : Input = input.Join protocol registration in
    join_cases (Retold n i) n protocol registration (λ r. kept_none (Again n i))
    (λ dialable r. kept_some (Again n i) _ r (refl, self_equal (counter (next_id n 1))))
retold n (input.Enrolled id coordinator) fits not_create =
    let i : Input = input.Enrolled id coordinator in
    enrolled_cases (Retold n i) n id coordinator (λ r. kept_none (Again n i)) (λ place p stands registering dialable r.
    kept_some (Again n i) _ r
    (ap (λ (x : Id). Some (given 0 (input.Enrolled x coordinator))) (told_of_asked_part n id place p fits stands), refl))
retold n (input.RefusedBy id c) fits not_create =
    let i : Input = input.RefusedBy id c in
    refused_cases (Retold n i) n id c (λ r. kept_none (Again n i)) (λ place p number stands registering is r.
    kept_some (Again n i) _ r
    (ap (λ (x : Id). refused_event x number) (told_of_asked_part n id place p fits stands) ∙ refused_again id c number is, refl))
retold n (input.Notice Coordinator id m) fits not_create =
    let i : Input = input.Notice Coordinator id m in
    end_notice_cases (Retold n i) n id m (λ r. kept_none (Again n i)) (λ shown prompt. kept_none (Again n i))
    (λ at stands owes asks r.
    let status : notice.GetStatus ≡ m = sym (get_status_is m asks) in
    kept_some (Again n i) _ r (
      ap Some (end_notice_again n (id_at n (counter at.end.id)) id at notice.GetStatus (told_of_end n id at fits stands) stands.placed)
          ∙ ap (λ (x : Notice). Some (given 0 (input.Notice Coordinator id x))) status,
      refl,
    ))
    (λ at next prompt stands row other r.
    kept_some (Again n i) _ r
    (ap Some (end_notice_again n (id_at n (counter at.end.id)) id at m (told_of_end n id at fits stands) stands.placed), refl))
retold n (input.Notice Participant id m) fits not_create =
    let i : Input = input.Notice Participant id m in
    let again : (place : PartPlace) (p : Part) (x : Notice) → Stands n id place p
    → event_of n (journal.Received (counter p.id) x) ≡ Some (given 0 (input.Notice Participant id x)) =
    (λ place p x stands. ap Some
    (part_notice_again n (id_at n (counter p.id)) id x (told_of_part n id place p fits stands)
    (no_end_there n id place p fits stands))) in
    part_notice_cases (Retold n i) n id m (λ r. kept_none (Again n i)) (λ shown prompt. kept_none (Again n i))
    (λ place p stands hears asks owes r.
    let status : notice.GetStatus ≡ m = sym (get_status_is m asks) in
    kept_some (Again n i) _ r
    (again place p notice.GetStatus stands ∙ ap (λ (x : Notice). Some (given 0 (input.Notice Participant id x))) status, refl))
    (λ p next prompt stands hears row other r. kept_some (Again n i) _ r (again (lone p) p m (stands, refl), refl))
    (λ s p next prompt stands hears row other r. kept_some (Again n i) _ r (again (upward s p) p m (stands, refl), refl))
retold n (input.Act id a) fits not_create =
    let i : Input = input.Act id a in
    act_cases (Retold n i) n id a (λ r. kept_none (Again n i)) (λ p next stands acts r.
    kept_some (Again n i) _ r (
      ap (λ (x : Id). Some (act_event (part_place n x) x a)) (told_of_asked_part n id (lone p) p fits (stands, refl))
          ∙ ap (λ place. Some (act_event place id a)) stands.placed,
      refl,
    ))
retold n (input.Ask id) fits not_create =
    let i : Input = input.Ask id in
    ask_cases (Retold n i) n id (λ r. kept_none (Again n i))
    (λ at stands asks r. kept_some (Again n i) _ r (ap (λ (x : Id). Some (given 0 (input.Ask x))) (told_of_end n id at fits stands), refl))
    (λ place p none stands hears asks r.
    kept_some (Again n i) _ r (ap (λ (x : Id). Some (given 0 (input.Ask x))) (told_of_part n id place p fits stands), refl))
retold n (input.Decide id v) fits not_create =
    let i : Input = input.Decide id v in
    on_decide_cases (Retold n i) n id v (λ r. kept_none (Again n i)) (λ s here ok r.
    kept_some (Again n i) _ r (ap (λ (x : Id). Some (given 0 (input.Decide x v))) (told_of_asked_scope n id s fits here), refl))
retold n (input.Choose id v) fits not_create =
    let i : Input = input.Choose id v in
    on_choose_cases (Retold n i) n id v (λ r. kept_none (Again n i)) (λ at stands ok r.
    kept_some (Again n i) _ r (choice_again n (counter id) id v (told_of_asked_end n id at fits stands), refl))
retold n (input.Complete id) fits not_create =
    let i : Input = input.Complete id in
    on_complete_cases (Retold n i) n id (λ r. kept_none (Again n i)) (λ at stands ok r.
    kept_some (Again n i) _ r (ap (λ (x : Id). Some (given 0 (input.Complete x))) (told_of_asked_end n id at fits stands), refl))
retold n (input.Finish id) fits not_create =
    let i : Input = input.Finish id in
    on_finish_cases (Retold n i) n id (λ r. kept_none (Again n i)) (λ s up here is ok r.
    let found = scope_found n id s here in
    kept_some (Again n i) _ r
    (up_act_again n s up act.Completed fits found.0 is ∙ ap (λ (x : Id). Some (given 0 (input.Finish x))) found.1, refl))
retold n (input.Leave id how) fits not_create =
    let i : Input = input.Leave id how in
    on_leave_cases (Retold n i) n id how (λ r. kept_none (Again n i)) (λ s up here is ok r.
    let found = scope_found n id s here in
    kept_some (Again n i) _ r (
      up_act_again n s up (leave_act how) fits found.0 is ∙ ap Some (leave_again s up how)
          ∙ ap (λ (x : Id). Some (given 0 (input.Leave x how))) found.1,
      refl,
    ))

-- ---- a scope is made again at a moment that gives it the same deadline

self_kind : (k : Kind) → is_of_kind k (Some k) ≡ true
self_kind Atomic = refl
self_kind Mixed = refl

child_again : (n : NodeState) (now : ℕ) (expires : Option ℕ) (k : Kind) (protocol : Protocol) (registration : Epr)
    → is_dialable registration.address ≡ true
    → on_create n now expires (Some (current_context k registration)) (Some k) protocol
    ≡ create_scope n now expires k (Some (new_part (next_id n 2) protocol registration)) (wake.One (next_id n 2))
child_again n now expires k protocol registration dialable =
    false_branch (not (is_of_kind k (Some k))) _ _ (ap not (self_kind k))
    ∙ false_branch (not (is_dialable registration.address)) _ _ (ap not dialable)

-- the record of a scope that is made, and the node after it
abbrev MadeAgain : NodeState → NodeStep → Type 0
MadeAgain n step = (r : Record) → step.written ≡ Some r → after_record n r ≡ Some step.after

made_again : (n : NodeState) (now : ℕ) (expires : Option ℕ) (current : Option Context) (kind : Option Kind) (protocol : Protocol)
    → MadeAgain n (on_create n now expires current kind protocol)
made_again n now expires current kind protocol =
    create_cases (MadeAgain n) n now expires current kind protocol (λ r. kept_none (λ x. after_record n x ≡ Some n))
    (λ k is root r.
    kept_some (λ x. after_record n x ≡ Some (with_new_scope n (new_scope (next_id n 1) k (deadline_after now expires) None))) _ r
    (λ i. if self_equal (counter (next_id n 1)) i && true
    then Some
    (with_new_scope n
    (new_scope (next_id n 1) k (deadline_again (deadline_after now expires) (new_deadline now expires) i) None)) else None))
    (λ k c is of alike dialable r.
    kept_some
    (λ x. after_record n x ≡ Some
    (with_new_scope n
    (new_scope (next_id n 1) k (deadline_after now expires) (Some (new_part (next_id n 2) protocol c.registration))))) _ r
    (child k c dialable))
  where
    child : (k : Kind) (c : Context) → is_dialable c.registration.address ≡ true
        → after_record n (journal.Scope (counter (next_id n 1)) k (deadline_after now expires) (Some (protocol, c.registration)))
        ≡ Some (with_new_scope n
        (new_scope (next_id n 1) k (deadline_after now expires) (Some (new_part (next_id n 2) protocol c.registration))))
    child k c dialable =
        let d : Option ℕ = deadline_after now expires in
        let t : ℕ = unwrap_or d 0 in
        let e : Option ℕ = option_map (λ moment. 0) d in
        let step = child_again n t e k protocol c.registration dialable in
        ap (λ (x : NodeStep). if nat_eq (counter (next_id n 1))
        (counter (next_id n 1)) && is_some x.written then Some x.after else None) step
        ∙ (λ i. if self_equal (counter (next_id n 1)) i && true
        then Some
        (with_new_scope n
        (new_scope (next_id n 1) k (deadline_again d (new_deadline now expires) i)
        (Some (new_part (next_id n 2) protocol c.registration)))) else None)

-- ---- ticks: a deadline that is past once is past at the last moment

past_at_last : (deadline : Option ℕ) (now : ℕ) → IsDeadline deadline → is_past deadline now ≡ true → is_past deadline last_moment ≡ true
past_at_last None now small h = h
past_at_last (Some deadline) now small h = grind (arith, nat_tests)

expired_at_last : (s : ScopeState) (now : ℕ) → IsDeadline s.deadline → is_expired s now ≡ true → is_expired s last_moment ≡ true
expired_at_last s now small h =
    let outer = and_parts (is_none s.up) (is_none s.verdict && is_past s.deadline now) h in
    let inner = and_parts (is_none s.verdict) (is_past s.deadline now) outer.1 in
    and_from (is_none s.up) (is_none s.verdict && is_past s.deadline last_moment) outer.0
    (and_from (is_none s.verdict) (is_past s.deadline last_moment) inner.0 (past_at_last s.deadline now small inner.1))

expires_alike : (s : ScopeState) (now : ℕ) → IsDeadline s.deadline → (expire s now).answer ≡ true → expire s last_moment ≡ expire s now
expires_alike s now small h = by_answer (is_expired s now) refl
  where
    answered : (b : Bool) → is_expired s now ≡ b → (expire s now).answer ≡ b
    answered true is = ap (λ c. (expiry s c).answer) is
    answered false is = ap (λ c. (expiry s c).answer) is

    by_answer : (b : Bool) → is_expired s now ≡ b → expire s last_moment ≡ expire s now
    by_answer true is = ap (expiry s) (expired_at_last s now small is) ∙ sym (ap (expiry s) is)
    by_answer false is = absurd (true≢false (sym h ∙ answered false is))

-- the record leads to a tick at the last moment
abbrev TickedAgain : NodeState → Id → Record → Type 0
TickedAgain n id r = (event_of n r ≡ Some (ticked last_moment id)) × (is_next n r ≡ true)

abbrev tick_event : Id → Option Event
tick_event id = Some (ticked last_moment id)

tick_told : (n : NodeState) (now : ℕ) (id : Id) → NodeFits n → (r : Record) → (tick_step n now id).written ≡ Some r → TickedAgain n id r
tick_told n now id fits =
    tick_cases (λ (step : TickStep). (r : Record) → step.written ≡ Some r → TickedAgain n id r) n now id (λ l. kept_none (TickedAgain n id))
    (λ s here expired r. kept_some (TickedAgain n id) _ r (ap tick_event (told_of_scope n id s fits here), refl))
    (λ at w no_scope stands ticks r. kept_some (TickedAgain n id) _ r (ap tick_event (told_of_end n id at fits stands), refl))
    (λ p no_scope no_end stands hears talks r.
    kept_some (TickedAgain n id) _ r (ap tick_event (told_of_part n id (lone p) p fits (stands, refl)), refl))
    (λ s p w no_scope no_end stands hears moves r.
    kept_some (TickedAgain n id) _ r (ap tick_event (told_of_part n id (upward s p) p fits (stands, refl)), refl))

-- the tick of what is no scope, and of a scope by its expiry
abbrev tick_below : NodeState → Id → TickStep
tick_below n id = if_found (end_place n id) (tick_at_part n (part_place n id)) (λ at. tick_at_end n at.scope at.end)

abbrev tick_by : NodeState → ScopeState → ScopeStep Bool → TickStep
tick_by n s step = if step.answer then ticked_step (with_scope n step.after) None s.id (wake.Scope s.id) else letter_step n None

ticks_alike : (n : NodeState) (now : ℕ) (id : Id) → NodeFits n → is_some (tick_step n now id).written ≡ true
    → tick_step n last_moment id ≡ tick_step n now id
ticks_alike n now id fits = by_scope (scope_with_id n id) refl
  where
    by_expiry : (s : ScopeState) → scope_with_id n id ≡ Some s → (b : Bool) → (expire s now).answer ≡ b
        → is_some (tick_at_scope n s now).written ≡ true → tick_at_scope n s last_moment ≡ tick_at_scope n s now
    by_expiry s here true answer some =
        let small = all_among (λ (x : ScopeState). IsDeadline x.deadline) n.scopes s fits.deadlines (scope_found n id s here).0 in
        ap (tick_by n s) (expires_alike s now small answer)
    by_expiry s here false answer some =
        absurd (true≢false
        (sym some ∙ ap (λ b. is_some (if b then ticked_step (with_scope n (expire s now).after) None s.id (wake.Scope s.id)
        else letter_step n None).written) answer))

    by_scope : (o : Option ScopeState) → scope_with_id n id ≡ o
        → is_some (if_found o (tick_below n id) (λ s. tick_at_scope n s now)).written ≡ true
        → tick_step n last_moment id ≡ tick_step n now id
    by_scope None none some =
        ap (λ o. if_found o (tick_below n id) (λ s. tick_at_scope n s last_moment)) none
        ∙ sym (ap (λ o. if_found o (tick_below n id) (λ s. tick_at_scope n s now)) none)
    by_scope (Some s) here some =
        ap (λ o. if_found o (tick_below n id) (λ x. tick_at_scope n x last_moment)) here ∙ by_expiry s here (expire s now).answer refl some
        ∙ sym (ap (λ o. if_found o (tick_below n id) (λ x. tick_at_scope n x now)) here)

-- ---- each step

again_of : (n : NodeState) (i : Input) → NodeFits n
    → ((expires : Option ℕ) (current : Option Context) (kind : Option Kind) (protocol : Protocol)
    → i ≡ input.Create expires current kind protocol → ⊥) → (r : Record) → (node_step n 0 i).written ≡ Some r
    → after_record n r ≡ Some (node_step n 0 i).after
again_of n i fits not_create r kept =
    let again = retold n i fits not_create r kept in
    enacts n r (given 0 i) again.0 again.1 kept

input_again : (n : NodeState) (now : ℕ) (i : Input) → NodeFits n → (r : Record) → (node_step n now i).written ≡ Some r
    → after_record n r ≡ Some (node_step n now i).after
input_again n now (input.Create expires current kind protocol) fits = made_again n now expires current kind protocol
input_again n now (input.Register scope protocol participant) fits = again_of n (input.Register scope protocol participant) fits
    (λ a b c d same. absurd cc)
input_again n now (input.Join protocol registration) fits = again_of n (input.Join protocol registration) fits (λ a b c d same. absurd cc)
input_again n now (input.Enrolled id coordinator) fits = again_of n (input.Enrolled id coordinator) fits (λ a b c d same. absurd cc)
input_again n now (input.RefusedBy id c) fits = again_of n (input.RefusedBy id c) fits (λ a b c d same. absurd cc)
input_again n now (input.Notice side id m) fits = again_of n (input.Notice side id m) fits (λ a b c d same. absurd cc)
input_again n now (input.Act id a) fits = again_of n (input.Act id a) fits (λ a b c d same. absurd cc)
input_again n now (input.Ask id) fits = again_of n (input.Ask id) fits (λ a b c d same. absurd cc)
input_again n now (input.Decide id v) fits = again_of n (input.Decide id v) fits (λ a b c d same. absurd cc)
input_again n now (input.Choose id v) fits = again_of n (input.Choose id v) fits (λ a b c d same. absurd cc)
input_again n now (input.Complete id) fits = again_of n (input.Complete id) fits (λ a b c d same. absurd cc)
input_again n now (input.Finish id) fits = again_of n (input.Finish id) fits (λ a b c d same. absurd cc)
input_again n now (input.Leave id how) fits = again_of n (input.Leave id how) fits (λ a b c d same. absurd cc)

-- an event that keeps a record is the one to which the record leads
pub step_again : (n : NodeState) (e : Event) → NodeFits n → (r : Record) → (change n e).written ≡ Some r
    → after_record n r ≡ Some (change n e).after
step_again n (given now i) fits r kept = input_again n now i fits r kept
step_again n (ticked now id) fits r kept =
    let told = tick_told n now id fits r kept in
    let alike = ticks_alike n now id fits (ap is_some kept) in
    enacts n r (ticked last_moment id) told.0 told.1 (ap (λ (t : TickStep). t.written) alike ∙ kept)
    ∙ ap (λ (t : TickStep). Some t.after) alike
step_again n formatted fits r kept = absurd cc

pub after_of : (n : NodeState) (r : Record) (m : NodeState) → NodeFits n → IsStepOf n r m → after_record n r ≡ Some m
after_of n r m fits step = step_again n step.event fits r step.keeps ∙ ap Some step.leads
