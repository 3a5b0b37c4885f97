use Rattle.std.proofs.Common.{◌≡◌, ◌∙◌, Some, sym, ap}
use Rattle.ba_message.specs.declared.messages.Letter.{Letter}
use Rattle.ba_node_objects.specs.Objects.{NodeInMemory}
use Rattle.ba_node_plans.proofs.Planned.{nothing_suits}
use Rattle.ba_node_plans.proofs.Registered.{at_ok}
use Rattle.ba_node_plans.proofs.Ticked.{up_registered, up_registers, up_short}
use Rattle.ba_node_plans.specs.Proposals.{proposed_tick}
use Rattle.ba_node_plans.specs.declared.proposals.TickProposal.{TickProposal}
use Rattle.ba_node_steps.specs.Node.{NodeState, upward}
use Rattle.ba_node_steps.specs.Ticks.{letter_step, tick_at_part, tick_upward}
use Rattle.ba_node_plans.proofs.ticks.up_at_tick.Goals as goal

pub register_of-requires : goal.register_of-requires
register_of-requires c = up_short c.args.node.now.node c.args.id _ _ _ c.requires

pub returns-then-is_registering : goal.returns-then-is_registering
returns-then-is_registering c =
    let m : NodeInMemory = c.args.node.now in
    let n : NodeState = m.node in
    let f = c.args.found.now in
    record {
      step = c.saying.ensures.step n ∙ ap (λ (l : Letter). letter_step n (Some l)) c.in_ok-letter.ensures
          ∙ up_registers n f.scope.now f.part.now (sym c.is_registering.ensures ∙ c.if-is_registering.true);
      suits = nothing_suits m c.saying.result.change c.saying.ensures.change;
    }

pub returns : goal.returns
returns c =
    let n : NodeState = c.args.node.now.node in
    let f = c.args.found.now in
    record {
      step = at_ok (λ (proposal : TickProposal). proposed_tick n proposal ≡ tick_upward n f.scope.now f.part.now)
          (λ (proposal : TickProposal). proposed_tick n proposal ≡ tick_at_part n (upward f.scope.now f.part.now)) c.tick_above.result
          (λ proposal h. h ∙ up_registered n f.scope.now f.part.now (sym c.is_registering.ensures ∙ c.if-is_registering.false))
          c.tick_above.ensures.step;
      suits = c.tick_above.ensures.suits;
    }
