use Rattle.std.proofs.Common.{IsTrue, subst, sym}
use Rattle.ba_wire_limits.proofs.EncodedLetters.{letter_can_be_encoded}
use Rattle.ba_wire.specs.Envelopes.{CanEncode, is_numbered}
use Rattle.ba_wire.specs.declared.routes.Route.{Route}
use Rattle.ba_wire_short.proofs.PostedMessages.{letter_numbered, postable_times}
use Rattle.ba_wire_short.proofs.codec.as_letter.Goals as goal

pub same_text-requires-clause-encodes : goal.same_text-requires-clause-encodes
same_text-requires-clause-encodes c =
    subst (λ (r : Route). CanEncode r c.args.letter.message) (sym c.in_ok-route.ensures)
    (letter_can_be_encoded c.args.letter c.requires)

pub same_text-requires-clause-numbered : goal.same_text-requires-clause-numbered
same_text-requires-clause-numbered c =
    subst (λ (r : Route). IsTrue (is_numbered r c.args.letter.message)) (sym c.in_ok-route.ensures)
    (letter_numbered c.args.letter)

pub same_text-requires-clause-times : goal.same_text-requires-clause-times
same_text-requires-clause-times c = postable_times c.args.letter.message c.requires.message
