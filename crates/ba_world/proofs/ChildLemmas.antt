-- What a reply shows, by the scope that the node makes next; for the clauses of inputs.
use Rattle.std.proofs.Common.{◌≡◌, Some, refl}
use Rattle.ba_world_play.specs.Outcomes.{made_outcome, reply_outcome}
use Rattle.ba_node_steps.specs.Node.{NodeState}
use Rattle.ba_node_steps.specs.declared.answers.Reply.{Reply}
use Rattle.ba_node_steps.specs.declared.answers.Reply.TheVariants as reply
use Rattle.ba_node_steps.specs.declared.inputs.Input.{Input}
use Rattle.ba_node_steps.specs.declared.inputs.Input.TheVariants as input
use Rattle.ba_world.specs.inside.Shown.{is_child, made_shown, next_made, reply_shown}

made_is : (n : NodeState) (i : Input) → made_shown (next_made n (is_child i)) ≡ made_outcome n i
made_is n (input.Create expires (Some current) kind up) = refl
made_is n i = refl

pub reply_is : (n : NodeState) (i : Input) (r : Reply) → reply_shown r (next_made n (is_child i)) ≡ reply_outcome n i r
reply_is n i (reply.Context context) = made_is n i
reply_is n i r = refl
