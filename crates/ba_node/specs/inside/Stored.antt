-- Inside: a node as plain data is stored as one in memory.
use Rattle.std.specs.Prelude.{refl}
use Rattle.std.specs.Coded.{Coded, code_by}
use Rattle.ba_node_objects.specs.Objects.{NodeInMemory}
use Rattle.ba_node_steps.specs.Node.{NodeState}

abbrev pub state_code : Coded NodeInMemory → Coded NodeState
state_code code = code_by NodeInMemory code (λ n. record { node = n; room = 0 }) (λ m. m.node) (λ _. refl)
