-- Believe: a node as plain data: its objects, where each stands, and how one is changed where it stands.
use Rattle.std.specs.Prelude.{◌≡◌, ◌⊎◌, ℕ, ◌+◌, List, [], ◌∷◌, ◌++◌, map, Option, None, Some, if◌then◌else◌}
use Rattle.std.specs.List.{find}
use Rattle.std.specs.Option.{option_to_list}
use Rattle.ba_core.specs.Numbers.{id_of, node_of, counter_of, code_part}
use Rattle.ba_core.specs.declared.identifiers.Id.{Id}
use Rattle.ba_tree.specs.Trees.{joined, greatest}
use Rattle.ba_scope_ends.specs.declared.ends.End.{End}
use Rattle.ba_scope_ends.specs.declared.parts.Part.{Part}
use Rattle.ba_scope_ends.specs.Ends.{end_with_id, same_id}
use Rattle.ba_scope.specs.Scope.{ScopeState}
use Rattle.ba_scope.specs.Rules.{with_up}

-- A node: its number, the base of its addresses, the version of its journal, its scopes, and its lone participants,
-- which are no scope's upward part. Scopes and participants stand in the order in which they were made.
pub record NodeState : Type 0 where
  pub number : ℕ
  pub base : List ℕ
  pub version : ℕ
  pub scopes : List ScopeState
  pub parts : List Part

-- a node without objects
abbrev pub new_node : ℕ → List ℕ → NodeState
new_node number base = record { number = number; base = base; version = 1; scopes = []; parts = [] }

-- the node afterwards is the one before, whatever its objects
pub record SameNode (n after : NodeState) : Type 0 where
  pub number : after.number ≡ n.number
  pub base : after.base ≡ n.base
  pub version : after.version ≡ n.version

-- ---- the identifiers of its objects

-- of a scope: its own, its upward part's, and its ends'
abbrev pub scope_ids : ScopeState → List Id
scope_ids s = s.id ∷ (map (λ p. p.id) (option_to_list s.up) ++ map (λ e. e.id) s.ends)

abbrev pub ids : NodeState → List Id
ids n = joined (map scope_ids n.scopes) ++ map (λ p. p.id) n.parts

abbrev pub counter : Id → ℕ
counter id = counter_of id.0

-- the greatest counter in use
abbrev pub last : NodeState → ℕ
last n = greatest (map counter (ids n))

-- the identifier with this counter at this node
abbrev pub id_at : NodeState → ℕ → Id
id_at n c = record { 0 = id_of n.number c }

-- the identifier of the next object, and of the one after it
abbrev pub next_id : NodeState → ℕ → Id
next_id n further = id_at n (last n + further)

-- an identifier that an object of this node may have: it has the node's number, and it is no message's
pub record IsHere (n : NodeState) (id : Id) : Type 0 where
  pub node : node_of id.0 ≡ n.number
  pub object : code_part id.0 ≡ 0

-- ---- where an object stands

abbrev pub scope_with_id : NodeState → Id → Option ScopeState
scope_with_id n id = find (λ s. same_id s.id id) n.scopes

-- an end, and the scope that has it
pub record EndPlace : Type 0 where
  pub scope : ScopeState
  pub end : End

-- the end with this identifier in the first of these scopes that has one
abbrev pub first_end : Id → List ScopeState → Option EndPlace
first_end id [] = None
first_end id (s ∷ more) = elim (end_with_id s.ends id) [ None ↦ first_end id more | Some e ↦ Some (record { scope = s; end = e }) ]

abbrev pub end_place : NodeState → Id → Option EndPlace
end_place n id = first_end id n.scopes

-- where a participant stands: nowhere, by itself, or above a scope
pub data PartPlace : Type 0 where
  nowhere : PartPlace
  lone : Part → PartPlace
  upward : ScopeState → Part → PartPlace

-- the upward part with this identifier of the first of these scopes that has one
abbrev pub first_up : Id → List ScopeState → PartPlace
first_up id [] = nowhere
first_up id (s ∷ more) = elim s.up [ None ↦ first_up id more | Some p ↦ if same_id p.id id then upward s p else first_up id more ]

abbrev pub part_place : NodeState → Id → PartPlace
part_place n id = elim (find (λ p. same_id p.id id) n.parts) [ None ↦ first_up id n.scopes | Some p ↦ lone p ]

-- the item is one of these
abbrev pub Among : {A : Type 0} → List A → A → Type 0
Among [] x = ⊥
Among (y ∷ more) x = (y ≡ x) ⊎ Among more x

-- the participant is one of the node's, lone or upward
abbrev pub HasPart : NodeState → Part → Type 0
HasPart n p = Among n.parts p ⊎ ((s : ScopeState) × Among n.scopes s × (s.up ≡ Some p))

-- ---- changes

abbrev pub scope_in_place_of : ScopeState → ScopeState → ScopeState
scope_in_place_of new s = if same_id s.id new.id then new else s

-- this scope in place of the one that has its identifier
abbrev pub with_scope : NodeState → ScopeState → NodeState
with_scope n new = record n { scopes = map (scope_in_place_of new) n.scopes }

abbrev pub part_in_place_of : Part → Part → Part
part_in_place_of new p = if same_id p.id new.id then new else p

-- this lone participant likewise
abbrev pub with_lone : NodeState → Part → NodeState
with_lone n new = record n { parts = map (part_in_place_of new) n.parts }

-- a participant changed where it stands
abbrev pub with_part_changed : NodeState → PartPlace → (Part → Part) → NodeState
with_part_changed n nowhere change = n
with_part_changed n (lone p) change = with_lone n (change p)
with_part_changed n (upward s p) change = with_scope n (with_up s (change p))

-- a new object after the others
abbrev pub with_new_scope : NodeState → ScopeState → NodeState
with_new_scope n s = record n { scopes = n.scopes ++ s ∷ [] }

abbrev pub with_new_part : NodeState → Part → NodeState
with_new_part n p = record n { parts = n.parts ++ p ∷ [] }
