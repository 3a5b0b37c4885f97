-- Inside: a lone participant is made, where its registration can be dialed.
use Rattle.ba_core.specs.declared.protocols.Protocol.{Protocol}
use Rattle.ba_message.specs.declared.endpoints.Epr.{Epr}
use Rattle.ba_record.specs.declared.records.Record.TheVariants as journal
use Rattle.ba_scope_ends.specs.declared.parts.Part.{Part}
use Rattle.ba_node_steps.specs.Node.{NodeState, counter, next_id, with_new_part}
use Rattle.ba_node_steps.specs.Steps.{NodeStep, new_part, written_step}
use Rattle.ba_node_steps.specs.declared.answers.Reply.TheVariants as reply
use Rattle.ba_node_steps.specs.declared.answers.Wake.TheVariants as wake

abbrev pub join_step : NodeState → Protocol → Epr → NodeStep
join_step n protocol registration =
    let p : Part = new_part (next_id n 1) protocol registration in
    written_step (with_new_part n p) (reply.Joined p.id) (journal.Part (counter p.id) protocol registration) (wake.One p.id)
