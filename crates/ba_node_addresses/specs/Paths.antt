-- Believe: the paths of a node's objects, after the base of its addresses.
use Rattle.std.specs.Prelude.{List, ◌++◌, ℕ, Option, None, Some, codes}
use Rattle.ba_core.specs.declared.identifiers.Id.{Id}
use Rattle.ba_core.specs.declared.protocols.Side.TheVariants.{Coordinator, Participant}
use Rattle.ba_message.specs.declared.endpoints.Epr.{Epr}
use Rattle.ba_message.specs.declared.messages.Message.{Message}
use Rattle.ba_node_addresses.specs.declared.paths.Endpoint.{Endpoint}
use Rattle.ba_node_addresses.specs.declared.paths.Endpoint.TheVariants as endpoint
use Rattle.ba_node_addresses.specs.declared.paths.ObjectPath.{ObjectPath}
use Rattle.ba_node_steps.specs.Addresses.{at_address, hyphenated}
use Rattle.ba_node_steps.specs.Routing.{notice_input, register_input}
use Rattle.ba_node_steps.specs.declared.inputs.Input.{Input}

-- the word with which the path of such an endpoint begins
abbrev pub endpoint_word : Endpoint → List ℕ
endpoint_word endpoint.Registration = codes "/registration/"
endpoint_word endpoint.Coordinator = codes "/coordinator/"
endpoint_word endpoint.Participant = codes "/participant/"

abbrev pub path_text : ObjectPath → List ℕ
path_text at = endpoint_word at.endpoint ++ hyphenated at.id.0

-- an endpoint of the object with this identifier, of a node with this base
abbrev pub endpoint_of : List ℕ → Endpoint → Id → Epr
endpoint_of base at id = at_address (base ++ path_text (record { endpoint = at; id = id }))

-- the input to which a message leads there
abbrev pub input_at : Endpoint → Id → Message → Option Input
input_at endpoint.Registration scope m = register_input scope m
input_at endpoint.Coordinator id m = notice_input Coordinator id m
input_at endpoint.Participant id m = notice_input Participant id m

-- none at any other address
abbrev pub input_if_at : Option Endpoint → Id → Message → Option Input
input_if_at (Some at) id m = input_at at id m
input_if_at None id m = None
