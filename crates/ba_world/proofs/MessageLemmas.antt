-- Where the messages of a world go, and the context of a scope as it is handed in; for the clauses of messages.
use Rattle.std.proofs.Common.{◌≡◌, ◌∙◌, ℕ, ◌^◌, ◌<◌, List, map, Option, None, Some, Result, Ok, Err, IfOk, sym, ap, subst, arith}
use Rattle.ba_world.specs.Mails.{mail_of}
use Rattle.ba_core.specs.Numbers.{node_of}
use Rattle.ba_core.specs.declared.identifiers.Id.{Id}
use Rattle.ba_core.specs.declared.memory.Memory.{Memory}
use Rattle.ba_message.proofs.OwnEndpoints.{own_endpoint_fits}
use Rattle.ba_message.specs.Endpoints.{Fits}
use Rattle.ba_message.specs.declared.endpoints.Epr.{Epr}
use Rattle.ba_message.specs.declared.messages.Letter.{Letter}
use Rattle.ba_world_play.proofs.Arriving.{mail_among}
use Rattle.ba_world_play.proofs.OwnAddresses.{registration_dials}
use Rattle.ba_world_play.specs.Arrivals.{Arrival, arrival, letter_arrival}
use Rattle.ba_world_play.specs.Plays.{WorldOnDisks, mail_at, node_base}
use Rattle.ba_world_play.specs.Posting.{CanBePosted}
use Rattle.ba_world_runs.specs.World as runs
use Rattle.ba_world_runs.specs.World.{Mail, Net, net_of, node_at}
use Rattle.ba_node_steps.specs.Addresses.{registration_of}
use Rattle.ba_node_steps.specs.Node.{NodeState}
use Rattle.ba_node_steps.specs.Routing.{identifier_in, letter_input}
use Rattle.ba_node_steps.specs.declared.inputs.Input.{Input}
use Rattle.ba_world.specs.Worlds.{IsStageOf, StageValue}
use Rattle.ba_world.specs.declared.messages.Delivery.{Delivery}
use Rattle.ba_world.specs.inside.Deliveries.{HasBases, IsDeliveryOf}
use Rattle.ba_world.specs.inside.Stages.{IsArrival, IsStaged}

-- ---- which message

module _ (v : StageValue) (number : ℕ) (found : Option Mail) (at : found ≡ mail_at (map mail_of v.bag) number) where
  found_in : (p : WorldOnDisks) → IsStageOf v p → mail_at p.world.bag number ≡ found
  found_in p is = ap (λ (bag : List Mail). mail_at bag number) (sym is.set.bag) ∙ sym at

  pub postable : IsStaged v → (m : Mail) → found ≡ Some m → CanBePosted m
  postable (p, is) m there = is.posts.posted m (mail_among p.world.bag number m (found_in p is ∙ there))

  pub arrives : (p : WorldOnDisks) → IsStageOf v p → (m : Mail) (to : Delivery) → found ≡ Some m
      → ((w : Net) → HasBases w → IsDeliveryOf w m to) → IsArrival p number (Ok to)
  arrives p is m to there goes =
      let d : IsDeliveryOf (net_of p.world) m to = goes (net_of p.world) is.posts.bases in
      record { sent = m; is = found_in p is ∙ there; node = d.node; input = d.input; answers = d.answers }

-- ---- where it goes

module _ (l arrived : Letter) (same : arrived ≡ l) where
  goes : (w : Net) (found : Option Id) → found ≡ identifier_in arrived.to.address
      → letter_arrival w found l ≡ arrival w (runs.letter l)
  goes w found is =
      ap (λ (o : Option Id). letter_arrival w o l) (is ∙ ap (λ (x : Letter). identifier_in x.to.address) same)

  answered : ◌≡◌ {A = Option Id} (Some arrived.number) (Some l.number)
  answered = ap (λ (x : Letter). Some x.number) same

  pub letter_goes_nowhere : None ≡ identifier_in arrived.to.address → (w : Net) → HasBases w
      → IsDeliveryOf w (runs.letter l) (record { node = 0; input = None; answers = Some arrived.number })
  letter_goes_nowhere none w bases = record {
    node = ap (λ (a : Arrival). a.node) (goes w None none);
    input = ap (λ (a : Arrival). a.input) (goes w None none);
    answers = answered;
  }

  pub letter_delivers : (id : Id) (node : ℕ) (base : List ℕ) (input : Option Input) → Some id ≡ identifier_in arrived.to.address
      → node ≡ node_of id.0 → base ≡ node_base node
      → ((n : NodeState) → n.base ≡ base → input ≡ letter_input n id arrived) → (w : Net) → HasBases w
      → IsDeliveryOf w (runs.letter l) (record { node = node; input = input; answers = Some arrived.number })
  letter_delivers id node base input id_here node_here base_here leads w bases =
      let k : ℕ = node_of id.0 in
      record {
        node = node_here ∙ ap (λ (a : Arrival). a.node) (goes w (Some id) id_here);
        input =
            leads (node_at w k) (bases k ∙ ap node_base (sym node_here) ∙ sym base_here)
            ∙ ap (letter_input (node_at w k) id) same
            ∙ ap (λ (a : Arrival). a.input) (goes w (Some id) id_here);
        answers = answered;
      }

  pub goes_as_sent : (id : Id) (result : Result Delivery Memory) → Some id ≡ identifier_in arrived.to.address
      → IfOk result (λ to. (w : Net) → HasBases w → Some id ≡ identifier_in arrived.to.address → IsDeliveryOf w (runs.letter arrived) to)
      → IfOk result (λ to. (w : Net) → HasBases w → IsDeliveryOf w (runs.letter l) to)
  goes_as_sent id (Ok to) here h = λ w bases. subst (λ (x : Letter). IsDeliveryOf w (runs.letter x) to) same (h w bases here)
  goes_as_sent id (Err e) here h = tt

-- ---- the context of a scope

pub own_registration_fits : (id : Id) (base : List ℕ) (e : Epr) → base ≡ node_base (node_of id.0) → e ≡ registration_of base id → Fits e
own_registration_fits id base e here is =
    let small : node_of id.0 < 2 ^ 32 = omega arith in
    let own : Fits (registration_of (node_base (node_of id.0)) id) =
    own_endpoint_fits (registration_of (node_base (node_of id.0)) id) (registration_dials (node_of id.0) small id)
    in
    subst Fits (sym (is ∙ ap (λ (b : List ℕ). registration_of b id) here)) own
