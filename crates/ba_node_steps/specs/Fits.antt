-- Believe: what holds of each node, whatever was done to it.
use Rattle.std.specs.Prelude.{◌≡◌, ℕ, ◌+◌, ◌<◌, ◌^◌, length, IsTrue}
use Rattle.std.specs.List.{AllByRecursion, IsDistinct}
use Rattle.ba_core.specs.Numbers.{id_of}
use Rattle.ba_core.specs.declared.identifiers.Id.{Id}
use Rattle.ba_record.specs.Coding.{IsCounter, IsDeadline}
use Rattle.ba_scope_ends.specs.Parts.{part_fits}
use Rattle.ba_scope.specs.Fits.{ScopeFits}
use Rattle.ba_scope_ends.specs.Ends.{same_id}
use Rattle.ba_node_steps.specs.Node.{NodeState, ids, last}

-- an identifier of an object at the node with this number: its counter is from 1
pub record IsIdAt (node : ℕ) (id : Id) : Type 0 where
  pub counter : ℕ
  pub spelled : id.0 ≡ id_of node counter
  pub is_counter : IsCounter counter
  pub is_number : node < 2 ^ 32

pub record NodeFits (n : NodeState) : Type 0 where
  -- each object is at this node, no two have one identifier, and each counter up to the greatest is in use
  pub here : AllByRecursion (IsIdAt n.number) (ids n)
  pub apart : IsDistinct same_id (ids n)
  pub whole : length (ids n) ≡ last n
  pub scopes : AllByRecursion ScopeFits n.scopes
  pub deadlines : AllByRecursion (λ s. IsDeadline s.deadline) n.scopes
  -- a lone participant is in a state of its protocol, and keeps a coordinator exactly where it was enrolled
  pub parts : AllByRecursion (λ p. IsTrue (part_fits p)) n.parts

-- A step may make two objects: the node's number has 32 bits, and counters have 64.
pub record HasSpareCounters (n : NodeState) : Type 0 where
  pub number : n.number < 2 ^ 32
  pub counters : last n + 2 < 2 ^ 64
