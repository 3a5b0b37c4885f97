-- Believe: a node in memory as contracts see it.
use Rattle.std.specs.Prelude.{ℕ, ◌-◌, min, vec_capacity, vec_len}
use Rattle.ba_node_objects.specs.declared.fields.Fields.{Fields}
use Rattle.ba_node_steps.specs.Node.{NodeState}

-- the node, and how many more scopes, and lone participants, there is memory for
pub record NodeInMemory : Type 0 where
  pub node : NodeState
  pub room : ℕ

-- the node that the fields hold
abbrev pub node_of_fields : Fields → NodeState
node_of_fields f = record { number = f.number; base = f.base; version = f.version; scopes = f.scopes.items; parts = f.parts.items }

abbrev pub room_of : Fields → ℕ
room_of f = min (vec_capacity f.scopes - vec_len f.scopes) (vec_capacity f.parts - vec_len f.parts)

abbrev pub in_memory : Fields → NodeInMemory
in_memory f = record { node = node_of_fields f; room = room_of f }
