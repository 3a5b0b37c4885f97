-- Believe: what a look-up in a node finds: an object, and where it stands.
use Rattle.std.specs.Prelude.{◌≡◌, ℕ, Some, IsTrue, slice_get}
use Rattle.ba_core.specs.PartRows.{is_part_state}
use Rattle.ba_core.specs.declared.identifiers.Id.{Id}
use Rattle.ba_scope_ends.specs.Ends.{end_with_id, has_own_state}
use Rattle.ba_scope.specs.Fits.{ScopeFits}
use Rattle.ba_scope.specs.Scope.{ScopeState}
use Rattle.ba_scope_ends.specs.declared.ends.End.{End}
use Rattle.ba_scope_ends.specs.declared.parts.Part.{Part}
use Rattle.ba_node_steps.specs.Fits.{NodeFits}
use Rattle.ba_node_steps.specs.Node.{EndPlace, NodeState, end_place, lone, part_place, scope_with_id, upward}

-- the scope with this identifier is this one, at this place
pub record FindsScope (n : NodeState) (id : Id) (place : ℕ) (s : ScopeState) : Type 0 where
  pub node : NodeFits n
  pub found : scope_with_id n id ≡ Some s
  pub at : slice_get n.scopes place ≡ Some s
  pub is : s.id ≡ id
  pub fits : ScopeFits s

abbrev pub end_at : ScopeState → End → EndPlace
end_at s e = record { scope = s; end = e }

-- the end with this identifier is this one, in the scope at this place
pub record FindsEnd (n : NodeState) (id : Id) (place : ℕ) (s : ScopeState) (e : End) : Type 0 where
  pub node : NodeFits n
  pub placed : end_place n id ≡ Some (end_at s e)
  pub at : slice_get n.scopes place ≡ Some s
  pub found : end_with_id s.ends id ≡ Some e
  pub is : e.id ≡ id
  pub own : IsTrue (has_own_state e)

-- the lone participant with this identifier is this one, at this place
pub record FindsLone (n : NodeState) (id : Id) (place : ℕ) (p : Part) : Type 0 where
  pub node : NodeFits n
  pub placed : part_place n id ≡ lone p
  pub at : slice_get n.parts place ≡ Some p
  pub is : p.id ≡ id
  pub own : IsTrue (is_part_state p.protocol p.state)

-- the participant with this identifier is this one, above the scope at this place
pub record FindsUp (n : NodeState) (id : Id) (place : ℕ) (s : ScopeState) (p : Part) : Type 0 where
  pub node : NodeFits n
  pub placed : part_place n id ≡ upward s p
  pub at : slice_get n.scopes place ≡ Some s
  pub up : s.up ≡ Some p
  pub is : p.id ≡ id
  pub own : IsTrue (is_part_state p.protocol p.state)
