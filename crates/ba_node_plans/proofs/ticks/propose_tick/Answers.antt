use Rattle.std.proofs.Common.{◌≡◌, ◌∙◌}
use Rattle.ba_node_objects.specs.Objects.{NodeInMemory}
use Rattle.ba_node_plans.proofs.Registered.{at_ok}
use Rattle.ba_node_plans.proofs.Planned.{nothing_suits}
use Rattle.ba_node_plans.proofs.Ticked.{ticks_end, ticks_part, ticks_scope}
use Rattle.ba_node_plans.specs.Proposals.{proposed_tick}
use Rattle.ba_node_plans.specs.declared.proposals.TickProposal.{TickProposal}
use Rattle.ba_node_steps.specs.Node.{NodeState, lone, nowhere, upward}
use Rattle.ba_node_steps.specs.Ticks.{tick_at_end, tick_at_part, tick_step}
use Rattle.ba_node_plans.proofs.ticks.propose_tick.Goals as goal

pub returns-in-Some : goal.returns-in-Some
returns-in-Some c =
    let m : NodeInMemory = c.args.node.now in
    let finds = c.in-Some.ensures.some in
    record {
      step = c.tick_scope.ensures.step m.node c.args.id finds ∙ ticks_scope m.node c.args.now c.args.id _ _ finds;
      suits = c.tick_scope.ensures.suits m c.args.id finds;
    }

pub returns-in-Some-find_end : goal.returns-in-Some-find_end
returns-in-Some-find_end c =
    let n : NodeState = c.args.node.now.node in
    let f = c.in-Some-find_end.found in
    record {
      step = at_ok (λ (proposal : TickProposal). proposed_tick n proposal ≡ tick_at_end n f.scope.now f.end.now)
          (λ (proposal : TickProposal). proposed_tick n proposal ≡ tick_step n c.args.now c.args.id) c.tick_end.result
          (λ proposal h. h ∙ ticks_end n c.args.now c.args.id _ _ _ c.in_default.ensures.none c.in-Some-find_end.ensures.some)
          c.tick_end.ensures.step;
      suits = c.tick_end.ensures.suits;
    }

pub returns-in-Some-find_lone : goal.returns-in-Some-find_lone
returns-in-Some-find_lone c =
    let n : NodeState = c.args.node.now.node in
    let f = c.in-Some-find_lone.found in
    record {
      step = at_ok (λ (proposal : TickProposal). proposed_tick n proposal ≡ tick_at_part n (lone f.part.now))
          (λ (proposal : TickProposal). proposed_tick n proposal ≡ tick_step n c.args.now c.args.id) c.lone_at_tick.result
          (λ proposal h. h ∙ ticks_part n c.args.now c.args.id (lone f.part.now) c.in_default.ensures.none
          c.in_default-find_end.ensures.none c.in-Some-find_lone.ensures.some.placed)
          c.lone_at_tick.ensures.step;
      suits = c.lone_at_tick.ensures.suits;
    }

pub returns-in-None : goal.returns-in-None
returns-in-None c =
    let m : NodeInMemory = c.args.node.now in
    record {
      step = c.saying.ensures.step m.node ∙ ticks_part m.node c.args.now c.args.id nowhere c.in_default.ensures.none
          c.in_default-find_end.ensures.none c.in-None.ensures.none;
      suits = nothing_suits m c.saying.result.change c.saying.ensures.change;
    }

pub returns-in-Some-find_up : goal.returns-in-Some-find_up
returns-in-Some-find_up c =
    let n : NodeState = c.args.node.now.node in
    let f = c.in-Some-find_up.found in
    record {
      step = at_ok (λ (proposal : TickProposal). proposed_tick n proposal ≡ tick_at_part n (upward f.scope.now f.part.now))
          (λ (proposal : TickProposal). proposed_tick n proposal ≡ tick_step n c.args.now c.args.id) c.up_at_tick.result
          (λ proposal h. h ∙ ticks_part n c.args.now c.args.id (upward f.scope.now f.part.now) c.in_default.ensures.none
          c.in_default-find_end.ensures.none c.in-Some-find_up.ensures.some.placed)
          c.up_at_tick.ensures.step;
      suits = c.up_at_tick.ensures.suits;
    }
