use Rattle.std.proofs.Common.{Some, refl}
use Rattle.ba_world.specs.Mails.{mail_of}
use Rattle.ba_world.proofs.MessageLemmas.{arrives, postable}
use Rattle.ba_world.proofs.stages.Stage.arrive.Goals as goal

pub delivery_of-requires : goal.delivery_of-requires
delivery_of-requires c =
    postable c.args.self.now c.args.number (Some (mail_of c.in-Some.mail.now)) c.in-Some.ensures c.requires
    (mail_of c.in-Some.mail.now) refl

pub returns-in_ok-delivery_of-in-Some : goal.returns-in_ok-delivery_of-in-Some
returns-in_ok-delivery_of-in-Some c = λ p is.
    arrives c.args.self.now c.args.number (Some (mail_of c.in-Some.mail.now)) c.in-Some.ensures p is (mail_of c.in-Some.mail.now)
    c.in_ok-delivery_of-in-Some.field-0 refl c.in_ok-delivery_of-in-Some.ensures
