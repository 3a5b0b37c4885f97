-- Inside: the object with an identifier stands at a spot, or there is none.
use Rattle.std.specs.Prelude.{◌≡◌, ◌||◌, ◌&&◌, Bool, Some, IsTrue, is_some, nat_le, slice_get}
use Rattle.ba_core.specs.declared.identifiers.Id.{Id}
use Rattle.ba_node_objects.specs.declared.spots.Spot.{Spot}
use Rattle.ba_node_objects.specs.declared.spots.Spot.TheVariants as spots
use Rattle.ba_scope_ends.specs.Ends.{end_with_id, same_id}
use Rattle.ba_scope_ends.specs.declared.parts.Part.{Part}
use Rattle.ba_scope.specs.Scope.{ScopeState, is_id_above}
use Rattle.ba_node_steps.specs.Node.{Among, NodeState, counter, id_at, ids, last}

-- the scope, its own participant or one of its ends has this identifier
abbrev pub has_object : ScopeState → Id → Bool
has_object s id = same_id s.id id || (is_id_above s.up id || is_some (end_with_id s.ends id))

-- by its node and its counter, the identifier may be in use
abbrev pub may_be_used : NodeState → Id → Bool
may_be_used n id = nat_le 1 (counter id) && (nat_le (counter id) (last n) && same_id (id_at n (counter id)) id)

abbrev pub StandsAt : NodeState → Id → Spot → Type 0
StandsAt n id (spots.InScope place) = (s : ScopeState) × (slice_get n.scopes place ≡ Some s) × IsTrue (has_object s id)
StandsAt n id (spots.Lone place) = (p : Part) × (slice_get n.parts place ≡ Some p) × IsTrue (same_id p.id id)
StandsAt n id spots.Nowhere = Among (ids n) id → ⊥
