-- Believe: a message that was sent, as definitions have it.
use Rattle.ba_world.specs.declared.mails.Mail.{Mail}
use Rattle.ba_world_runs.specs.World as runs
use Rattle.ba_world.specs.declared.mails.Mail.TheVariants as mail

-- a message of the bag, as definitions have it
abbrev pub mail_of : Mail → runs.Mail
mail_of (mail.Letter l) = runs.letter l
mail_of (mail.Answer number m) = runs.answer number m
