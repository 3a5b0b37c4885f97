-- Believe: what an occasion at a node shows: what the node answered, or which message joined the bag.
use Rattle.std.specs.Prelude.{ℕ, nat_eq, Option, None, Some, if◌then◌else◌}
use Rattle.ba_core.specs.declared.codes.Code.TheVariants.{Other}
use Rattle.ba_core.specs.declared.identifiers.Id.{Id}
use Rattle.ba_world_events.specs.declared.outcomes.Label.{Label}
use Rattle.ba_world_events.specs.declared.outcomes.Label.TheVariants as label
use Rattle.ba_world_events.specs.declared.outcomes.Outcome.{Outcome}
use Rattle.ba_world_events.specs.declared.outcomes.Outcome.TheVariants as outcome
use Rattle.ba_message.specs.declared.messages.Message.{Message}
use Rattle.ba_message.specs.declared.messages.Message.TheVariants as message
use Rattle.ba_world_runs.specs.World.{formats, Mail, Occasion, answer, delivers, letter, own, ticks}
use Rattle.ba_node_steps.specs.Node.{NodeState, next_id}
use Rattle.ba_node_steps.specs.Steps.{node_step}
use Rattle.ba_node_steps.specs.declared.answers.Reply.{Reply}
use Rattle.ba_node_steps.specs.declared.answers.Reply.TheVariants as reply
use Rattle.ba_core.specs.declared.refusals.TheConstants.{BAD_ADDRESS}
use Rattle.ba_node_steps.specs.declared.inputs.Input.{Input}
use Rattle.ba_node_steps.specs.declared.inputs.Input.TheVariants as input

-- a message by what it is; contexts aren't sent in a world, and have no word
abbrev pub label_of : Message → Label
label_of (message.Create expires current kind up) = label.Fault Other
label_of (message.Created context) = label.Fault Other
label_of (message.Register protocol participant) = label.Register
label_of (message.Registered coordinator) = label.RegisterResponse
label_of (message.Notice n) = label.Notice n
label_of (message.Fault c) = label.Fault c

abbrev pub mail_label : Mail → Label
mail_label (letter l) = label_of l.message
mail_label (answer number m) = label_of m

-- an address that can't be dialed is no object's
abbrev pub refused_outcome : ℕ → Id → Outcome
refused_outcome why id = outcome.Refused why (if nat_eq why BAD_ADDRESS then None else Some id)

-- the scope that a node makes next, and with it the participant of one that is interposed
abbrev pub made_outcome : NodeState → Input → Outcome
made_outcome n (input.Create expires (Some current) kind up) = outcome.MadeUnder (next_id n 1) (next_id n 2)
made_outcome n i = outcome.Made (next_id n 1)

-- what a node's reply to an input shows
abbrev pub reply_outcome : NodeState → Input → Reply → Outcome
reply_outcome n i reply.Accepted = outcome.Done
reply_outcome n i (reply.Context context) = made_outcome n i
reply_outcome n i (reply.Joined id) = outcome.Made id
reply_outcome n i (reply.Enrolment coordinator) = outcome.Done
reply_outcome n i (reply.SoapFault c) = outcome.Fault c
reply_outcome n i (reply.Refused why id) = refused_outcome why id

-- what a delivery shows: the answer that joins the bag with this number, and else the node's reply
abbrev pub delivery_outcome : ℕ → Option Mail → Outcome → Outcome
delivery_outcome number None else_shown = else_shown
delivery_outcome number (Some m) else_shown = outcome.Reply number (mail_label m)

-- what a tick shows: the letter that joins the bag with this number, if there is one
abbrev pub tick_outcome : ℕ → Option Mail → Outcome
tick_outcome number None = outcome.Quiet
tick_outcome number (Some m) = outcome.Sent number (mail_label m)

-- what an occasion shows where its step is taken; a message that it sends gets this number
abbrev pub occasion_outcome : ℕ → NodeState → Occasion → Option Mail → Outcome
occasion_outcome number n (own now i) sends = reply_outcome n i (node_step n now i).reply
occasion_outcome number n (delivers now mail i) sends = delivery_outcome number sends (reply_outcome n i (node_step n now i).reply)
occasion_outcome number n (ticks now id) sends = tick_outcome number sends
occasion_outcome number n formats sends = outcome.Quiet
