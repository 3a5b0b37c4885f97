use Rattle.std.proofs.Common.{IsTrue, subst, sym}
use Rattle.ba_wire_limits.proofs.EncodedLetters.{letter_can_be_sent}
use Rattle.ba_wire.specs.Envelopes.{CanEncodeLetter, is_numbered}
use Rattle.ba_wire.specs.declared.routes.Route.{Route}
use Rattle.ba_wire_short.proofs.PostedMessages.{letter_numbered, postable_times}
use Rattle.ba_wire_short.proofs.codec.as_notice.Goals as goal

pub same_letter-requires-clause-encodes : goal.same_letter-requires-clause-encodes
same_letter-requires-clause-encodes c =
    subst (λ (r : Route). CanEncodeLetter c.args.source.now r c.args.letter.message) (sym c.in_ok-route.ensures)
    (letter_can_be_sent c.args.source.now c.args.letter c.requires.source c.requires.letter)

pub same_letter-requires-clause-numbered : goal.same_letter-requires-clause-numbered
same_letter-requires-clause-numbered c =
    subst (λ (r : Route). IsTrue (is_numbered r c.args.letter.message)) (sym c.in_ok-route.ensures)
    (letter_numbered c.args.letter)

pub same_letter-requires-clause-times : goal.same_letter-requires-clause-times
same_letter-requires-clause-times c = postable_times c.args.letter.message c.requires.letter.message
