-- The input by an object's endpoint is the one that the definitions name: for the input of a letter.
use Rattle.std.proofs.Common.{◌≡◌, ◌≢◌, ◌∙◌, ℕ, List, Option, None, Some, IfSome, refl, sym, subst, eq-eqb, ◌<◌, ◌/◌, ◌^◌, arith, nat_eq}
use Rattle.std.proofs.lemmas.Bool.{cond-true}
use Rattle.ba_core.specs.Numbers.{code_part}
use Rattle.ba_core.specs.declared.identifiers.Id.{Id}
use Rattle.ba_core.specs.declared.protocols.Side.TheVariants as side
use Rattle.ba_message.specs.declared.endpoints.Epr.{Epr}
use Rattle.ba_message.specs.declared.messages.Letter.{Letter}
use Rattle.ba_node_addresses.specs.Paths.{endpoint_of, input_if_at}
use Rattle.ba_node_addresses.specs.declared.paths.Endpoint.{Endpoint}
use Rattle.ba_node_addresses.specs.declared.paths.Endpoint.TheVariants.{Registration, Coordinator, Participant}
use Rattle.ba_node_steps.proofs.RoutingLemmas.{nowhere, registers, to_coordinator, to_participant}
use Rattle.ba_node_steps.specs.Addresses.{HasText}
use Rattle.ba_node_steps.specs.Node.{NodeState}
use Rattle.ba_node_steps.specs.Routing.{input_by_address, letter_input, notice_input, register_input}
use Rattle.ba_node_steps.specs.declared.inputs.Input.{Input}

module _ (n : NodeState) (id : Id) (l : Letter) (small : HasText id) where
  abbrev here : Option Input
  here = input_by_address n id l

  by_endpoint : (e : Endpoint) → l.to ≡ endpoint_of n.base e id → input_if_at (Some e) id l.message ≡ here
  by_endpoint Registration is =
      sym (registers n.base id l.to (register_input id l.message) (notice_input side.Coordinator id l.message)
      (notice_input side.Participant id l.message) None is)
  by_endpoint Coordinator is =
      sym (to_coordinator n.base id l.to (register_input id l.message) (notice_input side.Coordinator id l.message)
      (notice_input side.Participant id l.message) None is)
  by_endpoint Participant is =
      sym (to_participant n.base id l.to (register_input id l.message) (notice_input side.Coordinator id l.message)
      (notice_input side.Participant id l.message) None is)

  by_found : (found : Option Endpoint) → IfSome found (λ e. l.to ≡ endpoint_of n.base e id)
      → ((e : Endpoint) → HasText id → l.to ≡ endpoint_of n.base e id → found ≡ Some e)
      → input_if_at found id l.message ≡ here
  by_found (Some e) its finds = by_endpoint e its
  by_found None its finds =
      let elsewhere : (e : Endpoint) → l.to ≢ endpoint_of n.base e id = λ e is. absurd (let h : None ≡ Some e = finds e small is in cc) in
      sym (nowhere n.base id l.to (register_input id l.message) (notice_input side.Coordinator id l.message)
      (notice_input side.Participant id l.message) None (elsewhere Registration) (elsewhere Coordinator) (elsewhere Participant))

pub letter_by_endpoint : (n : NodeState) (id : Id) (l : Letter) (base : List ℕ) (found : Option Endpoint) → code_part id.0 ≡ 0
    → IfSome found (λ e. l.to ≡ endpoint_of base e id)
    → ((e : Endpoint) → HasText id → l.to ≡ endpoint_of base e id → found ≡ Some e)
    → n.base ≡ base → input_if_at found id l.message ≡ letter_input n id l
letter_by_endpoint n id l base found object its finds same =
    let small : id.0 < 2 ^ 128 = let high : id.0 / 2 ^ 96 ≡ 0 = object in omega (arith, high) in
    by_found n id l small found (subst (λ b. IfSome found (λ e. l.to ≡ endpoint_of b e id)) (sym same) its)
    (subst (λ b. (e : Endpoint) → HasText id → l.to ≡ endpoint_of b e id → found ≡ Some e) (sym same) finds)
    ∙ sym (cond-true (nat_eq (code_part id.0) 0) (input_by_address n id l) None (eq-eqb (code_part id.0) 0 object))
