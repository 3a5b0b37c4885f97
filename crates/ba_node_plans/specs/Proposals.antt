-- Believe: the step that a proposal comes to.
use Rattle.ba_node_objects.specs.Changes.{changed_node}
use Rattle.ba_node_plans.specs.declared.proposals.Proposal.{Proposal}
use Rattle.ba_node_plans.specs.declared.proposals.TickProposal.{TickProposal}
use Rattle.ba_node_steps.specs.Node.{NodeState}
use Rattle.ba_node_steps.specs.Steps.{NodeStep}
use Rattle.ba_node_steps.specs.Ticks.{TickStep}

-- of an input
abbrev pub proposed_step : NodeState → Proposal → NodeStep
proposed_step n p = record { after = changed_node n p.change; reply = p.reply; written = p.written; wake = p.wake }

-- of a tick
abbrev pub proposed_tick : NodeState → TickProposal → TickStep
proposed_tick n p = record { after = changed_node n p.change; letter = p.letter; written = p.written; wake = p.wake }
