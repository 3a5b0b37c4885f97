-- Inside: what a reply shows, given what the node makes next.
use Rattle.std.specs.Prelude.{Bool, true, false, Some}
use Rattle.ba_world_events.specs.declared.outcomes.Outcome.{Outcome}
use Rattle.ba_world_events.specs.declared.outcomes.Outcome.TheVariants as outcome
use Rattle.ba_world_places.specs.declared.calls.Answer.{Answer}
use Rattle.ba_world_places.specs.declared.calls.Answer.TheVariants as answer
use Rattle.ba_world_play.specs.Outcomes.{refused_outcome}
use Rattle.ba_node_steps.specs.Node.{NodeState, next_id}
use Rattle.ba_node_steps.specs.declared.answers.Reply.{Reply}
use Rattle.ba_node_steps.specs.declared.answers.Reply.TheVariants as reply
use Rattle.ba_node_steps.specs.declared.inputs.Input.{Input}
use Rattle.ba_node_steps.specs.declared.inputs.Input.TheVariants as input
use Rattle.ba_world.specs.declared.outcomes.Makes.{Makes}
use Rattle.ba_world.specs.declared.outcomes.Makes.TheVariants as makes

abbrev pub made_shown : Makes → Outcome
made_shown (makes.Scope id) = outcome.Made id
made_shown (makes.Child id up) = outcome.MadeUnder id up

abbrev pub reply_shown : Reply → Makes → Outcome
reply_shown reply.Accepted next = outcome.Done
reply_shown (reply.Context context) next = made_shown next
reply_shown (reply.Joined id) next = outcome.Made id
reply_shown (reply.Enrolment coordinator) next = outcome.Done
reply_shown (reply.SoapFault c) next = outcome.Fault c
reply_shown (reply.Refused why id) next = refused_outcome why id

-- what a node's answer to an input shows
abbrev pub answer_shown : Answer Reply → Makes → Outcome
answer_shown (answer.Taken r) next = reply_shown r next
answer_shown (answer.Untaken shown) next = shown

-- a scope is to be made under another
abbrev pub is_child : Input → Bool
is_child (input.Create expires (Some current) kind up) = true
is_child i = false

-- the scope that the node makes next, and with it the participant of one that is interposed
abbrev pub next_made : NodeState → Bool → Makes
next_made n true = makes.Child (next_id n 1) (next_id n 2)
next_made n false = makes.Scope (next_id n 1)
