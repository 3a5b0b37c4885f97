-- Believe: which endpoints a node keeps and is given, and when one can be written to.
use Rattle.std.specs.Prelude.{List, [], ◌∷◌, ◌++◌, map, Some, IsTrue}
use Rattle.std.specs.List.{AllByRecursion}
use Rattle.std.specs.Option.{option_to_list}
use Rattle.ba_message.specs.Dialing.{is_dialable}
use Rattle.ba_message.specs.Endpoints.{Fits}
use Rattle.ba_message.specs.declared.endpoints.Epr.{Epr}
use Rattle.ba_scope.specs.Scope.{ScopeState}
use Rattle.ba_scope_ends.specs.declared.parts.Part.{Part}
use Rattle.ba_node_steps.specs.declared.inputs.Input.{Input}
use Rattle.ba_node_steps.specs.declared.inputs.Input.TheVariants as input
use Rattle.ba_node_steps.specs.Lawful.{Event, given, ticked, formatted}
use Rattle.ba_node_steps.specs.Node.{NodeState}
use Rattle.ba_tree.specs.Trees.{joined}

-- it fits into messages and records, and its address can be dialed
pub record IsReachable (e : Epr) : Type 0 where
  pub fits : Fits e
  pub dialable : IsTrue (is_dialable e.address)

-- where a participant registers, and its coordinator's end
abbrev pub part_endpoints : Part → List Epr
part_endpoints p = p.registration ∷ option_to_list p.coordinator

-- those of the upward part, and the participants of the ends
abbrev pub scope_endpoints : ScopeState → List Epr
scope_endpoints s = joined (map part_endpoints (option_to_list s.up)) ++ map (λ e. e.participant) s.ends

abbrev pub node_endpoints : NodeState → List Epr
node_endpoints n = joined (map scope_endpoints n.scopes) ++ joined (map part_endpoints n.parts)

-- each endpoint that the node keeps can be written to
abbrev pub AllReachable : NodeState → Type 0
AllReachable n = AllByRecursion IsReachable (node_endpoints n)

-- the endpoints that stand in an input
abbrev pub input_endpoints : Input → List Epr
input_endpoints (input.Create expires (Some current) kind protocol) = current.registration ∷ []
input_endpoints (input.Register scope protocol participant) = participant ∷ []
input_endpoints (input.Join protocol registration) = registration ∷ []
input_endpoints (input.Enrolled id coordinator) = coordinator ∷ []
input_endpoints i = []

abbrev pub event_endpoints : Event → List Epr
event_endpoints (given now i) = input_endpoints i
event_endpoints (ticked now id) = []
event_endpoints formatted = []

-- what is given fits
abbrev pub GivesFit : Event → Type 0
GivesFit e = AllByRecursion Fits (event_endpoints e)
