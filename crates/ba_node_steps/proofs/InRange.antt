-- The record of a step is in its ranges; for the law what_is_written_is_in_range.
use Rattle.std.proofs.Common.{◌≡◌, ℕ, ◌+◌, ◌%◌, ◌^◌, Bool, Option, None, Some, refl, sym, ap, ◌∙◌, subst, arith, lit≤}
use Rattle.std.specs.List.{AllByRecursion}
use Rattle.ba_core.specs.EndRows.{end_row}
use Rattle.ba_core.specs.Messages.{notice_code}
use Rattle.ba_core.specs.PartRows.{part_row}
use Rattle.ba_core.specs.declared.codes.Code.{Code}
use Rattle.ba_core.specs.declared.codes.Code.TheVariants as code
use Rattle.ba_core.specs.declared.identifiers.Id.{Id}
use Rattle.ba_core.specs.declared.notices.Notice.{Notice}
use Rattle.ba_core.specs.declared.notices.Notice.TheVariants as notice
use Rattle.ba_core.specs.declared.protocols.Protocol.{Protocol}
use Rattle.ba_core.specs.declared.protocols.Protocol.TheVariants.{Pc, Cc}
use Rattle.ba_core.specs.declared.protocols.Side.TheVariants.{Coordinator, Participant}
use Rattle.ba_core.specs.declared.protocols.Verdict.{Verdict}
use Rattle.ba_core.specs.declared.protocols.Verdict.TheVariants.{Close, Undo}
use Rattle.ba_core.specs.declared.rows.CRow.TheVariants as crow
use Rattle.ba_core.specs.declared.rows.PRow.TheVariants as prow
use Rattle.ba_core.specs.declared.states.CState.{CState}
use Rattle.ba_core.specs.declared.states.PState.{PState}
use Rattle.ba_message.specs.Endpoints.{Fits}
use Rattle.ba_message.specs.declared.messages.Context.{Context}
use Rattle.ba_record.specs.Coding.{InRange, IsCounter, IsFrom1}
use Rattle.ba_record.specs.declared.records.Record.{Record}
use Rattle.ba_scope.specs.Scope.{ScopeState}
use Rattle.ba_scope_ends.specs.declared.parts.Part.{Part}
use Rattle.ba_node_steps.specs.declared.inputs.Input.{Input}
use Rattle.ba_node_steps.specs.declared.inputs.Input.TheVariants as input
use Rattle.ba_node_steps.specs.Endpoints.{GivesFit, input_endpoints}
use Rattle.ba_node_steps.specs.Fits.{HasSpareCounters, IsIdAt, NodeFits}
use Rattle.ba_node_steps.specs.Lawful.{Event, given, ticked, formatted, change}
use Rattle.ba_node_steps.specs.Node.{EndPlace, NodeState, PartPlace, lone, upward, counter, last, next_id, scope_with_id}
use Rattle.ba_node_steps.specs.Steps.{NodeStep, choice_number, node_step, refusal_number}
use Rattle.ba_node_steps.specs.Ticks.{TickStep, tick_step}
use Rattle.ba_node_steps.proofs.Cases.{act_cases, ask_cases, create_cases, end_notice_cases, enrolled_cases, join_cases, on_choose_cases}
use Rattle.ba_node_steps.proofs.Cases.{on_complete_cases, on_decide_cases, on_finish_cases, on_leave_cases, part_notice_cases, refused_cases}
use Rattle.ba_node_steps.proofs.Cases.{register_cases, tick_cases}
use Rattle.ba_node_steps.proofs.Enacted.{counter_at, some_is}
use Rattle.ba_node_steps.proofs.Objects.{end_here, part_here, scope_here, up_here}
use Rattle.ba_node_steps.proofs.Places.{EndStands, Stands, scope_found, stands_is, stands_part}
use Rattle.ba_node_steps.proofs.StepsFit.{new_deadline}

-- ---- counters

counter_of_id : (n : NodeState) (id : Id) → IsIdAt n.number id → IsCounter (counter id)
counter_of_id n id at =
    let spelled = at.spelled in
    let small = at.is_counter.1 in
    let is : counter id ≡ at.counter = ap (λ x. x % 2 ^ 64) spelled ∙ counter_at n at.counter small in
    subst IsCounter (sym is) at.is_counter

next_in_range : (n : NodeState) → HasSpareCounters n → IsCounter (counter (next_id n 1))
next_in_range n spare =
    let counters = spare.counters in
    let is : counter (next_id n 1) ≡ last n + 1 = counter_at n (last n + 1) (omega (arith, counters)) in
    let range : IsCounter (last n + 1) = (omega arith, omega (arith, counters)) in
    subst IsCounter (sym is) range

of_scope : (n : NodeState) (id : Id) (s : ScopeState) → NodeFits n → scope_with_id n id ≡ Some s → IsCounter (counter s.id)
of_scope n id s fits here = counter_of_id n s.id (scope_here n s fits (scope_found n id s here).0)

of_asked_scope : (n : NodeState) (id : Id) (s : ScopeState) → NodeFits n → scope_with_id n id ≡ Some s → IsCounter (counter id)
of_asked_scope n id s fits here = subst (λ (x : Id). IsCounter (counter x)) (scope_found n id s here).1 (of_scope n id s fits here)

of_end : (n : NodeState) (id : Id) (at : EndPlace) → NodeFits n → EndStands n id at → IsCounter (counter at.end.id)
of_end n id at fits stands = counter_of_id n at.end.id (end_here n at.scope at.end fits stands.scope stands.end)

of_asked_end : (n : NodeState) (id : Id) (at : EndPlace) → NodeFits n → EndStands n id at → IsCounter (counter id)
of_asked_end n id at fits stands = subst (λ (x : Id). IsCounter (counter x)) stands.is (of_end n id at fits stands)

of_part : (n : NodeState) (id : Id) (place : PartPlace) (p : Part) → NodeFits n → Stands n id place p → IsCounter (counter p.id)
of_part n id place p fits stands = counter_of_id n p.id (part_here n p fits (stands_part n id place p stands))

of_asked_part : (n : NodeState) (id : Id) (place : PartPlace) (p : Part) → NodeFits n → Stands n id place p → IsCounter (counter id)
of_asked_part n id place p fits stands =
    subst (λ (x : Id). IsCounter (counter x)) (stands_is n id place p stands) (of_part n id place p fits stands)

-- ---- numbers

refusal_in_range : (c : Code) (number : ℕ) → refusal_number c ≡ Some number → IsFrom1 2 number
refusal_in_range code.CannotRegisterParticipant number h = subst (IsFrom1 2) (some_is 1 number h) (lit≤ tt, lit≤ tt)
refusal_in_range code.InvalidProtocol number h = subst (IsFrom1 2) (some_is 2 number h) (lit≤ tt, lit≤ tt)
refusal_in_range c number h = cc

choice_in_range : (v : Verdict) → IsFrom1 3 (choice_number v)
choice_in_range Close = (lit≤ tt, lit≤ tt)
choice_in_range Undo = (lit≤ tt, lit≤ tt)

-- a notice that has a row is no Status
end_row_in_range : (protocol : Protocol) (s : CState) (m : Notice) (next : CState) (prompt : Bool)
    → end_row protocol s m ≡ crow.Row next prompt
    → IsFrom1 15 (notice_code m)
end_row_in_range protocol s (notice.Status name) next prompt h = absurd cc
end_row_in_range protocol s m next prompt h = (lit≤ tt, lit≤ tt)

part_row_in_range : (protocol : Protocol) (s : PState) (m : Notice) (next : PState) (prompt : Bool)
    → part_row protocol s m ≡ prow.Row next prompt
    → IsFrom1 15 (notice_code m)
part_row_in_range Pc s (notice.Status name) next prompt h = absurd cc
part_row_in_range Cc s (notice.Status name) next prompt h = absurd cc
part_row_in_range protocol s m next prompt h = (lit≤ tt, lit≤ tt)

-- ---- each step

abbrev Ranged : NodeStep → Type 0
Ranged step = (r : Record) → step.written ≡ Some r → InRange r

abbrev RangedByTick : TickStep → Type 0
RangedByTick step = (r : Record) → step.written ≡ Some r → InRange r

kept_none : (r : Record) → ◌≡◌ {A = Option Record} None (Some r) → InRange r
kept_none r h = absurd cc

kept_some : (k : Record) → InRange k → (r : Record) → ◌≡◌ {A = Option Record} (Some k) (Some r) → InRange r
kept_some k range r h = subst InRange (some_is k r h) range

input_in_range : (n : NodeState) (now : ℕ) (i : Input) → HasSpareCounters n → NodeFits n → AllByRecursion Fits (input_endpoints i)
    → Ranged (node_step n now i)
input_in_range n now (input.Create expires current kind protocol) spare fits fit =
    create_cases Ranged n now expires current kind protocol (λ r. kept_none)
    (λ k is root. kept_some _ (next_in_range n spare, (new_deadline now expires, tt)))
    (λ k c is of alike dialable. kept_some _ (next_in_range n spare, (new_deadline now expires, child_fits current c of fit)))
  where
    child_fits : (o : Option Context) (c : Context) → o ≡ Some c
        → AllByRecursion Fits (input_endpoints (input.Create expires o kind protocol)) → Fits c.registration
    child_fits None c is fit = cc
    child_fits (Some d) c is fit = let same : d ≡ c = cc in subst (λ (x : Context). Fits x.registration) same fit.0
input_in_range n now (input.Register scope protocol participant) spare fits fit =
    register_cases Ranged n scope protocol participant (λ r. kept_none)
    (λ s known registers. kept_some _ (next_in_range n spare, (of_scope n scope s fits registers.here, fit.0)))
input_in_range n now (input.Join protocol registration) spare fits fit =
    join_cases Ranged n protocol registration (λ r. kept_none) (λ dialable. kept_some _ (next_in_range n spare, fit.0))
input_in_range n now (input.Enrolled id coordinator) spare fits fit =
    enrolled_cases Ranged n id coordinator (λ r. kept_none)
    (λ place p stands registering dialable. kept_some _ (of_asked_part n id place p fits stands, fit.0))
input_in_range n now (input.RefusedBy id c) spare fits fit =
    refused_cases Ranged n id c (λ r. kept_none)
    (λ place p number stands registering is. kept_some _ (of_asked_part n id place p fits stands, refusal_in_range c number is))
input_in_range n now (input.Notice Coordinator id m) spare fits fit =
    end_notice_cases Ranged n id m (λ r. kept_none) (λ shown prompt. kept_none)
    (λ at stands owes asks. kept_some _ (of_end n id at fits stands, (lit≤ tt, lit≤ tt)))
    (λ at next prompt stands row other. kept_some _
    (of_end n id at fits stands, end_row_in_range at.end.protocol at.end.state m next prompt row))
input_in_range n now (input.Notice Participant id m) spare fits fit =
    part_notice_cases Ranged n id m (λ r. kept_none) (λ shown prompt. kept_none)
    (λ place p stands hears asks owes. kept_some _ (of_part n id place p fits stands, (lit≤ tt, lit≤ tt)))
    (λ p next prompt stands hears row other.
    kept_some _ (of_part n id (lone p) p fits (stands, refl), part_row_in_range p.protocol p.state m next prompt row))
    (λ s p next prompt stands hears row other.
    kept_some _ (of_part n id (upward s p) p fits (stands, refl), part_row_in_range p.protocol p.state m next prompt row))
input_in_range n now (input.Act id a) spare fits fit =
    act_cases Ranged n id a (λ r. kept_none) (λ p next stands acts. kept_some _ (of_asked_part n id (lone p) p fits (stands, refl)))
input_in_range n now (input.Ask id) spare fits fit =
    ask_cases Ranged n id (λ r. kept_none) (λ at stands asks. kept_some _ (of_end n id at fits stands))
    (λ place p none stands hears asks. kept_some _ (of_part n id place p fits stands))
input_in_range n now (input.Decide id v) spare fits fit =
    on_decide_cases Ranged n id v (λ r. kept_none) (λ s here ok. kept_some _ (of_asked_scope n id s fits here))
input_in_range n now (input.Choose id v) spare fits fit =
    on_choose_cases Ranged n id v (λ r. kept_none) (λ at stands ok. kept_some _ (of_asked_end n id at fits stands, choice_in_range v))
input_in_range n now (input.Complete id) spare fits fit =
    on_complete_cases Ranged n id (λ r. kept_none) (λ at stands ok. kept_some _ (of_asked_end n id at fits stands, (lit≤ tt, lit≤ tt)))
input_in_range n now (input.Finish id) spare fits fit =
    on_finish_cases Ranged n id (λ r. kept_none)
    (λ s up here is ok. kept_some _ (counter_of_id n up.id (up_here n s up fits (scope_found n id s here).0 is)))
input_in_range n now (input.Leave id how) spare fits fit =
    on_leave_cases Ranged n id how (λ r. kept_none)
    (λ s up here is ok. kept_some _ (counter_of_id n up.id (up_here n s up fits (scope_found n id s here).0 is)))

tick_in_range : (n : NodeState) (now : ℕ) (id : Id) → NodeFits n → RangedByTick (tick_step n now id)
tick_in_range n now id fits =
    tick_cases RangedByTick n now id (λ l. kept_none)
    (λ s here expired. kept_some _ (of_scope n id s fits here))
    (λ at w no_scope stands ticks. kept_some _ (of_end n id at fits stands))
    (λ p no_scope no_end stands hears talks. kept_some _ (of_part n id (lone p) p fits (stands, refl)))
    (λ s p w no_scope no_end stands hears moves. kept_some _ (of_part n id (upward s p) p fits (stands, refl)))

pub in_range : (n : NodeState) (e : Event) (r : Record) → HasSpareCounters n → NodeFits n → GivesFit e → (change n e).written ≡ Some r
    → InRange r
in_range n (given now i) r spare fits fit kept = input_in_range n now i spare fits fit r kept
in_range n (ticked now id) r spare fits fit kept = tick_in_range n now id fits r kept
in_range n formatted r spare fits fit kept = absurd cc
