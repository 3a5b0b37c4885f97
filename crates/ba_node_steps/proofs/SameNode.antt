-- A node keeps its number, the base of its addresses and its version; for the law steps_keep_a_node_fit.
use Rattle.std.proofs.Common.{ℕ, List, refl}
use Rattle.ba_core.specs.declared.identifiers.Id.{Id}
use Rattle.ba_core.specs.declared.protocols.Side.TheVariants.{Coordinator, Participant}
use Rattle.ba_scope.specs.Scope.{ScopeState}
use Rattle.ba_scope_ends.specs.declared.parts.Part.{Part}
use Rattle.ba_node_steps.specs.declared.inputs.Input.{Input}
use Rattle.ba_node_steps.specs.declared.inputs.Input.TheVariants as input
use Rattle.ba_node_steps.specs.Lawful.{Event, given, ticked, formatted, change}
use Rattle.ba_node_steps.specs.Node.{NodeState, PartPlace, SameNode, nowhere, lone, upward, with_part_changed}
use Rattle.ba_node_steps.specs.Steps.{NodeStep, node_step}
use Rattle.ba_node_steps.specs.Ticks.{TickStep, tick_step}
use Rattle.ba_node_steps.proofs.Cases.{act_cases, ask_cases, create_cases, end_notice_cases, enrolled_cases, join_cases, on_choose_cases}
use Rattle.ba_node_steps.proofs.Cases.{on_complete_cases, on_decide_cases, on_finish_cases, on_leave_cases, part_notice_cases, refused_cases}
use Rattle.ba_node_steps.proofs.Cases.{register_cases, tick_cases}

abbrev Same : NodeState → NodeStep → Type 0
Same n step = SameNode n step.after

abbrev SameByTick : NodeState → TickStep → Type 0
SameByTick n step = SameNode n step.after

same : (n : NodeState) → SameNode n n
same n = record { number = refl; base = refl; version = refl }

-- whatever stands in place of its scopes and lone participants
objects : (n : NodeState) (scopes : List ScopeState) (parts : List Part) → SameNode n (record n { scopes = scopes; parts = parts })
objects n scopes parts = record { number = refl; base = refl; version = refl }

part_changed : (n : NodeState) (place : PartPlace) (change : Part → Part) → SameNode n (with_part_changed n place change)
part_changed n nowhere change = same n
part_changed n (lone p) change = objects n n.scopes _
part_changed n (upward s p) change = objects n _ n.parts

input_keeps : (n : NodeState) (now : ℕ) (i : Input) → Same n (node_step n now i)
input_keeps n now (input.Create expires current kind protocol) =
    create_cases (Same n) n now expires current kind protocol (λ r. same n) (λ k is root. objects n _ _)
    (λ k c is of alike dialable. objects n _ _)
input_keeps n now (input.Register scope protocol participant) =
    register_cases (Same n) n scope protocol participant (λ r. same n) (λ s known new. objects n _ _)
input_keeps n now (input.Join protocol registration) = join_cases (Same n) n protocol registration (λ r. same n)
    (λ dialable. objects n _ _)
input_keeps n now (input.Enrolled id coordinator) =
    enrolled_cases (Same n) n id coordinator (λ r. same n) (λ place p stands registering dialable. part_changed n place _)
input_keeps n now (input.RefusedBy id c) =
    refused_cases (Same n) n id c (λ r. same n) (λ place p number stands registering is. part_changed n place _)
input_keeps n now (input.Notice Coordinator id m) =
    end_notice_cases (Same n) n id m (λ r. same n) (λ shown prompt. same n) (λ at stands owes asks. objects n _ _)
    (λ at next prompt stands row other. objects n _ _)
input_keeps n now (input.Notice Participant id m) =
    part_notice_cases (Same n) n id m (λ r. same n) (λ shown prompt. same n) (λ place p stands hears asks owes. part_changed n place _)
    (λ p next prompt stands hears row other. objects n _ _) (λ s p next prompt stands hears row other. objects n _ _)
input_keeps n now (input.Act id a) = act_cases (Same n) n id a (λ r. same n) (λ p next stands acts. objects n _ _)
input_keeps n now (input.Ask id) =
    ask_cases (Same n) n id (λ r. same n) (λ at stands asks. objects n _ _) (λ place p none stands hears asks. part_changed n place _)
input_keeps n now (input.Decide id v) = on_decide_cases (Same n) n id v (λ r. same n) (λ s here ok. objects n _ _)
input_keeps n now (input.Choose id v) = on_choose_cases (Same n) n id v (λ r. same n) (λ at stands ok. objects n _ _)
input_keeps n now (input.Complete id) = on_complete_cases (Same n) n id (λ r. same n) (λ at stands ok. objects n _ _)
input_keeps n now (input.Finish id) = on_finish_cases (Same n) n id (λ r. same n) (λ s up here is ok. objects n _ _)
input_keeps n now (input.Leave id how) = on_leave_cases (Same n) n id how (λ r. same n) (λ s up here is ok. objects n _ _)

tick_keeps : (n : NodeState) (now : ℕ) (id : Id) → SameByTick n (tick_step n now id)
tick_keeps n now id =
    tick_cases (SameByTick n) n now id (λ l. same n) (λ s here expired. objects n _ _) (λ at w no_scope stands ticks. objects n _ _)
    (λ p no_scope no_end stands hears talks. objects n _ _) (λ s p w no_scope no_end stands hears moves. objects n _ _)

pub step_keeps : (n : NodeState) (e : Event) → SameNode n (change n e).after
step_keeps n (given now i) = input_keeps n now i
step_keeps n (ticked now id) = tick_keeps n now id
step_keeps n formatted = same n
