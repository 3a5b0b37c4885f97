use Rattle.std.proofs.Common.{IfOk, subst, sym}
use Rattle.ba_world.specs.Mails.{mail_of}
use Rattle.ba_world.specs.declared.mails.Mail.{Mail}
use Rattle.ba_world_runs.specs.World.{Net}
use Rattle.ba_world.specs.inside.Deliveries.{HasBases, IsDeliveryOf}
use Rattle.ba_world.proofs.messages.delivery_of.Goals as goal

pub returns-in-Letter : goal.returns-in-Letter
returns-in-Letter c =
    subst (λ (m : Mail). IfOk c.letter_delivery.result (λ to. (w : Net) → HasBases w → IsDeliveryOf w (mail_of m) to))
    (sym c.in-Letter.is) c.letter_delivery.ensures

pub returns-in-Answer : goal.returns-in-Answer
returns-in-Answer c =
    subst (λ (m : Mail). IfOk c.answer_delivery.result (λ to. (w : Net) → HasBases w → IsDeliveryOf w (mail_of m) to))
    (sym c.in-Answer.is) c.answer_delivery.ensures
