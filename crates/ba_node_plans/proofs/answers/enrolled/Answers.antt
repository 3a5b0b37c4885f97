use Rattle.std.proofs.Common.{◌≡◌, ◌∙◌}
use Rattle.ba_core.specs.declared.identifiers.Id.{Id}
use Rattle.ba_node_objects.specs.Changes.{Suits}
use Rattle.ba_node_plans.specs.Proposals.{proposed_step}
use Rattle.ba_node_plans.specs.declared.proposals.Proposal.{Proposal}
use Rattle.ba_node_objects.specs.Objects.{NodeInMemory}
use Rattle.ba_node_objects.specs.Finds.{FindsLone, FindsUp}
use Rattle.ba_node_plans.proofs.Planned.{nothing_suits}
use Rattle.ba_node_plans.proofs.Registered.{at_ok, enrolled_nowhere}
use Rattle.ba_node_steps.specs.Fits.{NodeFits}
use Rattle.ba_node_steps.specs.Node.{NodeState}
use Rattle.ba_node_steps.specs.Steps.{on_enrolled}
use Rattle.ba_node_plans.proofs.answers.enrolled.Goals as goal

pub returns-in-None : goal.returns-in-None
returns-in-None c =
    let n : NodeState = c.args.node.now.node in
    record {
      step = c.refused.ensures.step n ∙ enrolled_nowhere n c.args.id c.args.coordinator.now c.in-None.ensures.none;
      suits = nothing_suits c.args.node.now c.refused.result.change c.refused.ensures.change;
    }

pub returns-in-Some : goal.returns-in-Some
returns-in-Some c =
    let m : NodeInMemory = c.args.node.now in
    let here : NodeState = m.node in
    let f = c.in-Some.found in
    let e = c.args.coordinator.now in
    let Step : Proposal → Type 0 = λ proposal. (n : NodeState) (id : Id) → NodeFits n → FindsLone n id f.place f.part.now
    → proposed_step n proposal ≡ on_enrolled n id e in
    let Suit : Proposal → Type 0 = λ proposal. (m : NodeInMemory) (id : Id) → FindsLone m.node id f.place f.part.now
    → Suits m proposal.change in
    record {
      step = at_ok Step (λ proposal. proposed_step here proposal ≡ on_enrolled here c.args.id e) c.lone_enrolled.result
          (λ proposal h. h here c.args.id c.in-Some.ensures.some.node c.in-Some.ensures.some) c.lone_enrolled.ensures.step;
      suits = at_ok Suit (λ proposal. Suits m proposal.change) c.lone_enrolled.result (λ proposal h. h m c.args.id c.in-Some.ensures.some)
          c.lone_enrolled.ensures.suits;
    }

pub returns-in-Some-find_up : goal.returns-in-Some-find_up
returns-in-Some-find_up c =
    let m : NodeInMemory = c.args.node.now in
    let here : NodeState = m.node in
    let f = c.in-Some-find_up.found in
    let e = c.args.coordinator.now in
    let Step : Proposal → Type 0 = λ proposal. (n : NodeState) (id : Id) → NodeFits n → FindsUp n id f.place f.scope.now f.part.now
    → proposed_step n proposal ≡ on_enrolled n id e in
    let Suit : Proposal → Type 0 = λ proposal. (m : NodeInMemory) (id : Id)
    → FindsUp m.node id f.place f.scope.now f.part.now → Suits m proposal.change in
    record {
      step = at_ok Step (λ proposal. proposed_step here proposal ≡ on_enrolled here c.args.id e) c.up_enrolled.result
          (λ proposal h. h here c.args.id c.in-Some-find_up.ensures.some.node c.in-Some-find_up.ensures.some) c.up_enrolled.ensures.step;
      suits = at_ok Suit (λ proposal. Suits m proposal.change) c.up_enrolled.result
          (λ proposal h. h m c.args.id c.in-Some-find_up.ensures.some) c.up_enrolled.ensures.suits;
    }
