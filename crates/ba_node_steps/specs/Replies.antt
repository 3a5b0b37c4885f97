-- Believe: which message a reply is to the one who asked, and that it can be written as an envelope.
use Rattle.std.specs.Prelude.{◌<◌, ◌^◌, Option, None, Some, IfSome}
use Rattle.ba_message.specs.Letters.{IsReply}
use Rattle.ba_message.specs.declared.messages.Message.{Message}
use Rattle.ba_message.specs.declared.messages.Message.TheVariants as message
use Rattle.ba_node_steps.specs.declared.answers.Reply.{Reply}
use Rattle.ba_node_steps.specs.declared.answers.Reply.TheVariants as reply
use Rattle.ba_node_steps.specs.declared.inputs.Input.{Input}
use Rattle.ba_node_steps.specs.declared.inputs.Input.TheVariants as input

-- A CreateCoordinationContextResponse, a RegisterResponse or a fault. That an input was accepted or refused, and which
-- participant was made, is told to the application alone.
abbrev pub message_of_reply : Reply → Option Message
message_of_reply (reply.Context context) = Some (message.Created context)
message_of_reply (reply.Enrolment coordinator) = Some (message.Registered coordinator)
message_of_reply (reply.SoapFault code) = Some (message.Fault code)
message_of_reply r = None

-- its message, where it is one, can be written
abbrev pub IsAnswerable : Reply → Type 0
IsAnswerable r = IfSome (message_of_reply r) IsReply

-- the time for which a context is asked has as many milliseconds as a message can say
abbrev pub HasFitTime : Input → Type 0
HasFitTime (input.Create expires current kind protocol) = IfSome expires (λ ms. ms < 2 ^ 32)
HasFitTime i = Unit {0}
