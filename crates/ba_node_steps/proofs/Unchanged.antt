-- A step that keeps no record leaves the node as it is; for the law steps_without_a_record_change_nothing.
use Rattle.std.proofs.Common.{◌≡◌, ℕ, Option, None, Some, refl}
use Rattle.ba_core.specs.declared.identifiers.Id.{Id}
use Rattle.ba_core.specs.declared.protocols.Side.TheVariants.{Coordinator, Participant}
use Rattle.ba_record.specs.declared.records.Record.{Record}
use Rattle.ba_node_steps.specs.declared.inputs.Input.{Input}
use Rattle.ba_node_steps.specs.declared.inputs.Input.TheVariants as input
use Rattle.ba_node_steps.specs.Lawful.{Event, given, ticked, formatted, change}
use Rattle.ba_node_steps.specs.Node.{NodeState}
use Rattle.ba_node_steps.specs.Steps.{NodeStep, node_step}
use Rattle.ba_node_steps.specs.Ticks.{TickStep, tick_step}
use Rattle.ba_node_steps.proofs.Cases.{OfAgain, OfReply, act_cases, ask_cases, create_cases, end_notice_cases, enrolled_cases, join_cases}
use Rattle.ba_node_steps.proofs.Cases.{on_choose_cases, on_complete_cases, on_decide_cases, on_finish_cases, on_leave_cases, part_notice_cases}
use Rattle.ba_node_steps.proofs.Cases.{refused_cases, register_cases, tick_cases}

abbrev Unchanged : NodeState → NodeStep → Type 0
Unchanged n step = step.written ≡ None → step.after ≡ n

abbrev UnchangedByTick : NodeState → TickStep → Type 0
UnchangedByTick n step = step.written ≡ None → step.after ≡ n

written : {A : Type 0} (r : Record) → ◌≡◌ {A = Option Record} (Some r) None → A
written r h = absurd cc

by_reply : (n : NodeState) → OfReply (Unchanged n) n
by_reply n r none = refl

by_again : (n : NodeState) → OfAgain (Unchanged n) n
by_again n id prompt none = refl

input_unchanged : (n : NodeState) (now : ℕ) (i : Input) → Unchanged n (node_step n now i)
input_unchanged n now (input.Create expires current kind protocol) =
    create_cases (Unchanged n) n now expires current kind protocol (by_reply n) (λ k is root. written _)
    (λ k c is of alike dialable. written _)
input_unchanged n now (input.Register scope protocol participant) =
    register_cases (Unchanged n) n scope protocol participant (by_reply n) (λ s known new. written _)
input_unchanged n now (input.Join protocol registration) = join_cases (Unchanged n) n protocol registration (by_reply n)
    (λ dialable. written _)
input_unchanged n now (input.Enrolled id coordinator) =
    enrolled_cases (Unchanged n) n id coordinator (by_reply n) (λ place p stands registering dialable. written _)
input_unchanged n now (input.RefusedBy id c) =
    refused_cases (Unchanged n) n id c (by_reply n) (λ place p number stands registering is. written _)
input_unchanged n now (input.Notice Coordinator id m) =
    end_notice_cases (Unchanged n) n id m (by_reply n) (by_again n) (λ at stands owes asks. written _)
    (λ at next prompt stands row other. written _)
input_unchanged n now (input.Notice Participant id m) =
    part_notice_cases (Unchanged n) n id m (by_reply n) (by_again n) (λ place p stands hears asks owes. written _)
    (λ p next prompt stands hears row other. written _) (λ s p next prompt stands hears row other. written _)
input_unchanged n now (input.Act id a) = act_cases (Unchanged n) n id a (by_reply n) (λ p next stands acts. written _)
input_unchanged n now (input.Ask id) =
    ask_cases (Unchanged n) n id (by_reply n) (λ at stands asks. written _) (λ place p none stands hears asks. written _)
input_unchanged n now (input.Decide id v) = on_decide_cases (Unchanged n) n id v (by_reply n) (λ s here ok. written _)
input_unchanged n now (input.Choose id v) = on_choose_cases (Unchanged n) n id v (by_reply n) (λ at stands ok. written _)
input_unchanged n now (input.Complete id) = on_complete_cases (Unchanged n) n id (by_reply n) (λ at stands ok. written _)
input_unchanged n now (input.Finish id) = on_finish_cases (Unchanged n) n id (by_reply n) (λ s up here is ok. written _)
input_unchanged n now (input.Leave id how) = on_leave_cases (Unchanged n) n id how (by_reply n) (λ s up here is ok. written _)

tick_unchanged : (n : NodeState) (now : ℕ) (id : Id) → UnchangedByTick n (tick_step n now id)
tick_unchanged n now id =
    tick_cases (UnchangedByTick n) n now id (λ l none. refl) (λ s here expired. written _) (λ at w no_scope stands ticks. written _)
    (λ p no_scope no_end stands hears talks. written _) (λ s p w no_scope no_end stands hears moves. written _)

pub unchanged : (n : NodeState) (e : Event) → (change n e).written ≡ None → (change n e).after ≡ n
unchanged n (given now i) = input_unchanged n now i
unchanged n (ticked now id) = tick_unchanged n now id
unchanged n formatted = λ none. refl
