use Rattle.std.proofs.Common.{◌≡◌, ◌∙◌, Some, sym, ap}
use Rattle.ba_message.specs.declared.messages.Letter.{Letter}
use Rattle.ba_node_objects.specs.Objects.{NodeInMemory}
use Rattle.ba_node_plans.proofs.Planned.{nothing_suits}
use Rattle.ba_node_plans.proofs.Registered.{at_ok}
use Rattle.ba_node_plans.proofs.Ticked.{lone_registered, lone_registers, lone_short}
use Rattle.ba_node_plans.specs.Proposals.{proposed_tick}
use Rattle.ba_node_plans.specs.declared.proposals.TickProposal.{TickProposal}
use Rattle.ba_node_steps.specs.Node.{NodeState, lone}
use Rattle.ba_node_steps.specs.Ticks.{letter_step, tick_at_part, tick_lone}
use Rattle.ba_node_plans.proofs.ticks.lone_at_tick.Goals as goal

pub register_of-requires : goal.register_of-requires
register_of-requires c = lone_short c.args.node.now.node c.args.id _ _ c.requires

pub returns-then-is_registering : goal.returns-then-is_registering
returns-then-is_registering c =
    let m : NodeInMemory = c.args.node.now in
    let n : NodeState = m.node in
    let f = c.args.found.now in
    record {
      step = c.saying.ensures.step n ∙ ap (λ (l : Letter). letter_step n (Some l)) c.in_ok-letter.ensures
          ∙ lone_registers n f.part.now (sym c.is_registering.ensures ∙ c.if-is_registering.true);
      suits = nothing_suits m c.saying.result.change c.saying.ensures.change;
    }

pub returns : goal.returns
returns c =
    let n : NodeState = c.args.node.now.node in
    let f = c.args.found.now in
    record {
      step = at_ok (λ (proposal : TickProposal). proposed_tick n proposal ≡ tick_lone n f.part.now)
          (λ (proposal : TickProposal). proposed_tick n proposal ≡ tick_at_part n (lone f.part.now)) c.tick_lone.result
          (λ proposal h. h ∙ lone_registered n f.part.now (sym c.is_registering.ensures ∙ c.if-is_registering.false))
          c.tick_lone.ensures.step;
      suits = c.tick_lone.ensures.suits;
    }
