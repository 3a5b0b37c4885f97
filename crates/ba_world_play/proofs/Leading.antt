-- A message arrives where it brings an input; for the law that messages arrive where they lead.
use Rattle.std.proofs.Common.{◌≡◌, ℕ, ◌/◌, ◌^◌, ◌<◌, Bool, List, ◌∷◌, codes, nat_eq, Option, None, Some, sym, ap, ◌∙◌, subst}
use Rattle.std.proofs.Common.{if◌then◌else◌, arith, ◌%◌, ◌+◌, ◌*◌}
use Rattle.std.proofs.lemmas.Bool.{eq-eqb}
use Rattle.ba_core.specs.Numbers.{code_part, node_of}
use Rattle.ba_core.specs.declared.codes.Code.{Code}
use Rattle.ba_core.specs.declared.identifiers.Id.{Id}
use Rattle.ba_core.specs.declared.protocols.Side.TheVariants.{Coordinator, Participant}
use Rattle.ba_message.specs.declared.endpoints.Epr.{Epr}
use Rattle.ba_message.specs.declared.messages.Letter.{Letter}
use Rattle.ba_message.specs.declared.messages.Message.{Message}
use Rattle.ba_message.specs.declared.messages.Message.TheVariants as message
use Rattle.ba_world_play.proofs.Arriving.{arrival_brings}
use Rattle.ba_world_play.specs.Arrivals.{Arrival, arrival, letter_arrival}
use Rattle.ba_world_runs.proofs.Recorded.{run_keeps}
use Rattle.ba_world_runs.specs.Runs.{IsRun}
use Rattle.ba_world_runs.specs.World.{Mail, Net, World, answer, letter, net_of, node_at}
use Rattle.ba_world_runs.specs.WorldSteps.{BringsInput}
use Rattle.ba_node_steps.proofs.RoutingLemmas as endpoint
use Rattle.ba_node_steps.proofs.RoutingLemmas.{object_of}
use Rattle.ba_node_steps.specs.Addresses.{HasText, coordinator_of, message_number, participant_of, register_code}
use Rattle.ba_node_steps.specs.Addresses.{registration_of, sender_of}
use Rattle.ba_node_steps.specs.Node.{IsHere, NodeState}
use Rattle.ba_node_steps.specs.Routing.{answer_input, identifier_in, input_by_address, letter_input, notice_input, register_input, told_input}
use Rattle.ba_node_steps.specs.declared.inputs.Input.{Input}
use Rattle.ba_node_steps.specs.declared.inputs.Input.TheVariants as input

-- ---- a letter

module _ (n : NodeState) (id : Id) (l : Letter) where
  abbrev register_here : Option Input
  register_here = register_input id l.message

  abbrev end_here : Option Input
  end_here = notice_input Coordinator id l.message

  abbrev part_here : Option Input
  part_here = notice_input Participant id l.message

  registers : l.to ≡ registration_of n.base id → input_by_address n id l ≡ register_here
  registers to = endpoint.registers n.base id l.to register_here end_here part_here None to

  to_coordinator : l.to ≡ coordinator_of n.base id → input_by_address n id l ≡ end_here
  to_coordinator to = endpoint.to_coordinator n.base id l.to register_here end_here part_here None to

  to_participant : l.to ≡ participant_of n.base id → input_by_address n id l ≡ part_here
  to_participant to = endpoint.to_participant n.base id l.to register_here end_here part_here None to

  object_input : code_part id.0 ≡ 0 → letter_input n id l ≡ input_by_address n id l
  object_input object = ap (λ (b : Bool). if b then input_by_address n id l else None) (eq-eqb (code_part id.0) 0 object)

has_text : (id : Id) → code_part id.0 ≡ 0 → HasText id
has_text id object = let high : id.0 / 2 ^ 96 ≡ 0 = object in omega (arith, high)

-- ---- where it arrives

abbrev at_node : ℕ → Input → Arrival
at_node k i = record { node = k; input = Some i }

arrives_with : (k j : ℕ) (i : Input) (input : Option Input) → k ≡ j → input ≡ Some i
    → ◌≡◌ {A = Arrival} (record { node = k; input = input }) (at_node j i)
arrives_with k j i input node is = λ x. record { node = node x; input = is x }

module _ (w : Net) (numbers : (k : ℕ) → (node_at w k).number ≡ k) where
  letter_arrives : (k : ℕ) (id : Id) (l : Letter) (i : Input) → IsHere (node_at w k) id → identifier_in l.to.address ≡ Some id
      → input_by_address (node_at w k) id l ≡ Some i → arrival w (letter l) ≡ at_node k i
  letter_arrives k id l i here object leads =
      let node : node_of id.0 ≡ k = here.node ∙ numbers k in
      let read : letter_input (node_at w k) id l ≡ Some i = object_input (node_at w k) id l here.object ∙ leads in
      ap (λ (found : Option Id). letter_arrival w found l) object
      ∙ arrives_with (node_of id.0) k i (letter_input (node_at w (node_of id.0)) id l) node
      (ap (λ (j : ℕ). letter_input (node_at w j) id l) node ∙ read)

  letter_leads : (k : ℕ) (l : Letter) (i : Input) → BringsInput (node_at w k) (letter l) i → arrival w (letter l) ≡ at_node k i
  letter_leads k l (input.Register scope protocol participant) (here, to, is) =
      letter_arrives k scope l (input.Register scope protocol participant) here
      (ap (λ (e : Epr). identifier_in e.address) to ∙ object_of (node_at w k).base (codes "/registration/") scope (has_text scope here.object))
      (registers (node_at w k) scope l to ∙ ap (register_input scope) is)
  letter_leads k l (input.Notice Coordinator id m) (here, to, is) =
      letter_arrives k id l (input.Notice Coordinator id m) here
      (ap (λ (e : Epr). identifier_in e.address) to ∙ object_of (node_at w k).base (codes "/coordinator/") id (has_text id here.object))
      (to_coordinator (node_at w k) id l to ∙ ap (notice_input Coordinator id) is)
  letter_leads k l (input.Notice Participant id m) (here, to, is) =
      letter_arrives k id l (input.Notice Participant id m) here
      (ap (λ (e : Epr). identifier_in e.address) to ∙ object_of (node_at w k).base (codes "/participant/") id (has_text id here.object))
      (to_participant (node_at w k) id l to ∙ ap (notice_input Participant id) is)
  letter_leads k l i brings = absurd brings

  -- ---- an answer

  sender_is : (number id : Id) → number ≡ message_number register_code id → code_part id.0 ≡ 0 → sender_of number ≡ id.0
  sender_is number id is object =
      let whole : number.0 ≡ 17 * 2 ^ 96 + id.0 = ap (λ (x : Id). x.0) is in
      let high : id.0 / 2 ^ 96 ≡ 0 = object in
      omega (arith, whole, high)

  is_register : (number id : Id) → number ≡ message_number register_code id → code_part id.0 ≡ 0
      → code_part number.0 ≡ register_code
  is_register number id is object =
      let whole : number.0 ≡ 17 * 2 ^ 96 + id.0 = ap (λ (x : Id). x.0) is in
      let high : id.0 / 2 ^ 96 ≡ 0 = object in
      let code : number.0 / 2 ^ 96 ≡ 17 = omega (arith, whole, high) in
      code

  answer_arrives : (k : ℕ) (number id : Id) (m : Message) (i : Input) → IsHere (node_at w k) id
      → number ≡ message_number register_code id → told_input id m ≡ Some i → arrival w (answer number m) ≡ at_node k i
  answer_arrives k number id m i here is told =
      let sender : sender_of number ≡ id.0 = sender_is number id is here.object in
      let node : node_of (sender_of number) ≡ k = ap node_of sender ∙ here.node ∙ numbers k in
      let coded : answer_input number m ≡ told_input (record { 0 = sender_of number }) m =
      ap (λ (b : Bool). if b then told_input (record { 0 = sender_of number }) m else None)
      (eq-eqb (code_part number.0) register_code (is_register number id is here.object)) in
      let named : told_input (record { 0 = sender_of number }) m ≡ told_input id m = (λ x. told_input (record { 0 = sender x }) m) in
      arrives_with (node_of (sender_of number)) k i (answer_input number m) node (coded ∙ named ∙ told)

  answer_leads : (k : ℕ) (number : Id) (m : Message) (i : Input) → BringsInput (node_at w k) (answer number m) i
      → arrival w (answer number m) ≡ at_node k i
  answer_leads k number (message.Registered coordinator) (input.Enrolled id told) (here, is, same) =
      answer_arrives k number id (message.Registered coordinator) (input.Enrolled id told) here is
      (ap (λ (e : Epr). Some (input.Enrolled id e)) same)
  answer_leads k number (message.Fault c) (input.RefusedBy id told) (here, is, same) =
      answer_arrives k number id (message.Fault c) (input.RefusedBy id told) here is (ap (λ (x : Code). Some (input.RefusedBy id x)) same)
  answer_leads k number m i brings = absurd brings

  leads : (k : ℕ) (m : Mail) (i : Input) → BringsInput (node_at w k) m i → arrival w m ≡ at_node k i
  leads k (letter l) i brings = letter_leads k l i brings
  leads k (answer number m) i brings = answer_leads k number m i brings

-- ---- in a run

pub arrives_there : (w : World) (before : List World) (k : ℕ) (m : Mail) (i : Input) → IsRun (w ∷ before)
    → BringsInput (node_at (net_of w) k) m i → arrival (net_of w) m ≡ record { node = k; input = Some i }
arrives_there w before k m i run brings =
    leads (net_of w) (λ j. ((run_keeps w before run).nodes j).number) k m i brings

pub brings_there : (w : World) (before : List World) (k : ℕ) (m : Mail) (i : Input) → IsRun (w ∷ before)
    → arrival (net_of w) m ≡ record { node = k; input = Some i } → BringsInput (node_at (net_of w) k) m i
brings_there w before k m i run is =
    let brings = arrival_brings (net_of w) m i (λ j. ((run_keeps w before run).nodes j).number) (ap (λ (a : Arrival). a.input) is) in
    subst (λ (j : ℕ). BringsInput (node_at (net_of w) j) m i) (ap (λ (a : Arrival). a.node) is) brings
