use Rattle.std.proofs.Common.{IsTrue, subst, sym}
use Rattle.ba_wire_limits.proofs.EncodedLetters.{letter_can_be_encoded}
use Rattle.ba_wire.specs.Envelopes.{CanEncode, is_numbered}
use Rattle.ba_wire.specs.declared.routes.Route.{Route}
use Rattle.ba_wire_short.proofs.PostedMessages.{letter_numbered, postable_times}
use Rattle.ba_world.proofs.mails.posted.Goals as goal

pub through_text-requires-clause-encodes : goal.through_text-requires-clause-encodes
through_text-requires-clause-encodes c =
    subst (λ (r : Route). CanEncode r c.args.letter.now.message) (sym c.in_ok-route.ensures)
    (letter_can_be_encoded c.args.letter.now c.requires)

pub through_text-requires-clause-numbered : goal.through_text-requires-clause-numbered
through_text-requires-clause-numbered c =
    subst (λ (r : Route). IsTrue (is_numbered r c.args.letter.now.message)) (sym c.in_ok-route.ensures)
    (letter_numbered c.args.letter.now)

pub through_text-requires-clause-times : goal.through_text-requires-clause-times
through_text-requires-clause-times c = postable_times c.args.letter.now.message c.requires.message
