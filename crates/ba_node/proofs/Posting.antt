-- The letters of a node can be posted, and its replies written; for the clauses `postable` and `answerable`.
use Rattle.std.proofs.Common.{ℕ, sym, subst, Option, None, Some, Result, Ok, Err, IfOk, IfSome}
use Rattle.ba_core.specs.declared.identifiers.Id.{Id}
use Rattle.ba_message.specs.Letters.{IsPostable}
use Rattle.ba_message.specs.declared.messages.Letter.{Letter}
use Rattle.ba_node.specs.Answers.{IsReplyOf}
use Rattle.ba_node.specs.declared.faults.NodeFault.{NodeFault}
use Rattle.ba_record.specs.Endpoints.{IsBase}
use Rattle.ba_node_steps.proofs.WhatIsSaid.{letter_postable, step_answers}
use Rattle.ba_node_steps.specs.Letters.{IsLetterOf}
use Rattle.ba_node_steps.specs.Node.{NodeState}
use Rattle.ba_node_steps.specs.Replies.{HasFitTime, IsAnswerable}
use Rattle.ba_node_steps.specs.Steps.{node_step}
use Rattle.ba_node_steps.specs.declared.answers.Done.{Done}
use Rattle.ba_node_steps.specs.declared.answers.Ticked.{Ticked}
use Rattle.ba_node_steps.specs.declared.inputs.Input.{Input}

module _ (n : NodeState) (is : IsBase n.base) (id : Id) where
  pub postable : (result : Result Ticked NodeFault) → IfOk result (λ ticked. IfSome ticked.letter (IsLetterOf n id))
      → IfOk result (λ ticked. IfSome ticked.letter IsPostable)
  postable (Err why) says = tt
  postable (Ok ticked) says = by_letter ticked.letter says
    where
      by_letter : (o : Option Letter) → IfSome o (IsLetterOf n id) → IfSome o IsPostable
      by_letter None of = tt
      by_letter (Some l) of = letter_postable n is id l of

pub answerable : (n : NodeState) → IsBase n.base → (now : ℕ) (i : Input) → HasFitTime i → (result : Result Done NodeFault)
    → IfOk result (IsReplyOf (node_step n now i)) → IfOk result (λ done. IsAnswerable done.reply)
answerable n is now i fit (Err why) says = tt
answerable n is now i fit (Ok done) says = subst IsAnswerable (sym says.reply) (step_answers n is now i fit)
