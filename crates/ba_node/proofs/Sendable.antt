-- The letter of a tick can be sent; for the clause `sendable`.
use Rattle.std.proofs.Common.{◌≡◌, ℕ, Option, None, Some, Result, Ok, Err, IfOk, IfSome, refl, sym, ap, ◌∙◌}
use Rattle.ba_core.specs.declared.identifiers.Id.{Id}
use Rattle.ba_message.specs.declared.messages.Letter.{Letter}
use Rattle.ba_node.specs.Answers.{IsLetterAtTick}
use Rattle.ba_node.specs.declared.faults.NodeFault.{NodeFault}
use Rattle.ba_node_steps.specs.Endpoints.{AllReachable}
use Rattle.ba_node_steps.specs.Letters.{IsLetterOf}
use Rattle.ba_node_steps.specs.Node.{NodeState}
use Rattle.ba_node_steps.specs.Ticks.{TickStep, tick_step}
use Rattle.ba_node_steps.specs.declared.answers.Ticked.{Ticked}
use Rattle.ba_node_steps.proofs.LettersSent.{letter_is}

pub sendable : (n : NodeState) (now : ℕ) (id : Id) (step : TickStep) (result : Result Ticked NodeFault) → step ≡ tick_step n now id
    → AllReachable n
    → IfOk result (IsLetterAtTick step) → IfOk result (λ ticked. IfSome ticked.letter (IsLetterOf n id))
sendable n now id step (Err why) is reaches told = tt
sendable n now id step (Ok ticked) is reaches told = by_letter ticked.letter refl
  where
    by_letter : (o : Option Letter) → ticked.letter ≡ o → IfSome o (IsLetterOf n id)
    by_letter None here = tt
    by_letter (Some l) here = letter_is n now id l reaches (ap (λ (s : TickStep). s.letter) (sym is) ∙ sym told.letter ∙ here)
