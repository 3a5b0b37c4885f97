-- Believe: what a node shows of its objects.
use Rattle.std.specs.Prelude.{ℕ, true, false, ◌&&◌, List, ◌++◌, map, Option, None, Some, is_none, slice_get, if◌then◌else◌}
use Rattle.std.specs.Option.{option_and_then, option_to_list}
use Rattle.ba_core.specs.declared.identifiers.Id.{Id}
use Rattle.ba_scope.specs.Scope.{ScopeState}
use Rattle.ba_node_steps.specs.declared.answers.Seen.{Seen}
use Rattle.ba_node_steps.specs.declared.answers.Seen.TheVariants as seen
use Rattle.ba_node_steps.specs.Node.{NodeState, PartPlace, nowhere, lone, upward, end_place, part_place, scope_with_id}
use Rattle.ba_node_steps.specs.Steps.{if_found}

abbrev pub part_seen : PartPlace → Option Seen
part_seen nowhere = None
part_seen (lone p) = Some (seen.Part p.protocol p.state true)
part_seen (upward s p) = Some (seen.Part p.protocol p.state false)

-- what the object with this identifier shows; none where there is no such object
abbrev pub seen_at : NodeState → Id → Option Seen
seen_at n id =
    if_found (scope_with_id n id)
    (if_found (end_place n id) (part_seen (part_place n id)) (λ at. Some (seen.End at.end.protocol at.end.state at.end.verdict)))
    (λ s. Some (seen.Scope s.kind s.verdict))

abbrev pub pending_deadline : ScopeState → Option ℕ
pending_deadline s = if is_none s.up && is_none s.verdict then s.deadline else None

-- the deadline of the root with this identifier, where it has no verdict
abbrev pub deadline_of : NodeState → Id → Option ℕ
deadline_of n id = option_and_then pending_deadline (scope_with_id n id)

-- the ends of a scope, and then its upward part
abbrev pub object_ids : ScopeState → List Id
object_ids s = map (λ e. e.id) s.ends ++ map (λ p. p.id) (option_to_list s.up)

-- the identifier at this place among them, for the scope with this identifier
abbrev pub in_scope : NodeState → Id → ℕ → Option Id
in_scope n id k = option_and_then (λ s. slice_get (object_ids s) k) (scope_with_id n id)
