-- The plans of Act: a lone participant moves by its act, where it stands.
use Rattle.std.proofs.Common.{◌≡◌, ℕ, None, Some, refl, sym, ap, ◌∙◌}
use Rattle.ba_core.specs.PartRows.{acted_state}
use Rattle.ba_core.specs.declared.identifiers.Id.{Id}
use Rattle.ba_core.specs.declared.notices.Act.{Act}
use Rattle.ba_core.specs.declared.states.PState.{PState}
use Rattle.ba_node_plans.proofs.Planned.{found_step, lone_written, none_step}
use Rattle.ba_node_objects.specs.Changes.{changed_node}
use Rattle.ba_node_objects.specs.declared.changes.Change.TheVariants as changes
use Rattle.ba_node_objects.specs.declared.changes.PartChange.TheVariants as by_part
use Rattle.ba_node_objects.specs.Finds.{FindsLone, FindsUp}
use Rattle.ba_record.specs.declared.records.Record.TheVariants as journal
use Rattle.ba_scope_ends.specs.Parts.{part_in_state}
use Rattle.ba_scope.specs.Scope.{ScopeState}
use Rattle.ba_core.specs.declared.refusals.TheConstants.{WRONG_STATE}
use Rattle.ba_scope_ends.specs.declared.parts.Part.{Part}
use Rattle.ba_node_steps.specs.Fits.{NodeFits}
use Rattle.ba_node_steps.specs.Node.{NodeState, PartPlace, counter, nowhere, part_place, with_lone}
use Rattle.ba_node_steps.specs.Steps.{NodeStep, act_at, on_act, refusal_step, written_step}
use Rattle.ba_node_steps.specs.declared.answers.Reply.TheVariants as reply
use Rattle.ba_core.specs.declared.refusals.TheConstants.{CHILD_PART, NO_SUCH_PART}
use Rattle.ba_node_steps.specs.declared.answers.Wake.TheVariants as wake

abbrev acting_at : NodeState → Id → Act → PartPlace → NodeStep
acting_at n id a place = act_at n place id a

pub acts_nowhere : (n : NodeState) (id : Id) (a : Act) → part_place n id ≡ nowhere → refusal_step n NO_SUCH_PART id ≡ on_act n id a
acts_nowhere n id a none = ap (acting_at n id a) (sym none)

pub acts_above : (n : NodeState) (id : Id) (a : Act) (place : ℕ) (s : ScopeState) (p : Part) → FindsUp n id place s p
    → refusal_step n CHILD_PART id ≡ on_act n id a
acts_above n id a place s p finds = ap (acting_at n id a) (sym finds.placed)

abbrev acted_to : NodeState → Id → Act → Part → PState → NodeStep
acted_to n id a p next = written_step (with_lone n (part_in_state next p)) reply.Accepted (journal.Acted (counter id) a) (wake.One id)

pub acts_wrongly : (n : NodeState) (id : Id) (a : Act) (place : ℕ) (p : Part) → FindsLone n id place p
    → acted_state p.protocol p.state a ≡ None → refusal_step n WRONG_STATE id ≡ on_act n id a
acts_wrongly n id a place p finds is =
    none_step (acted_state p.protocol p.state a) (refusal_step n WRONG_STATE id) (acted_to n id a p) is
    ∙ ap (acting_at n id a) (sym finds.placed)

pub acts : (n : NodeState) (id : Id) (a : Act) (place : ℕ) (p : Part) (next : PState) → NodeFits n → FindsLone n id place p
    → acted_state p.protocol p.state a ≡ Some next
    → written_step (changed_node n (changes.Part place (by_part.Move next))) reply.Accepted (journal.Acted (counter id) a) (wake.One id)
    ≡ on_act n id a
acts n id a place p next fits finds is =
    lone_written n place p (by_part.Move next) (journal.Acted (counter id) a) (wake.One id) fits finds.at refl
    ∙ found_step (acted_state p.protocol p.state a) (refusal_step n WRONG_STATE id) (acted_to n id a p) next is
    ∙ ap (acting_at n id a) (sym finds.placed)
