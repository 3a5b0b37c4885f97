use Rattle.std.proofs.Common.{◌∙◌, refl, sym}
use Rattle.ba_world.proofs.MessageLemmas.{letter_delivers}
use Rattle.ba_world.proofs.messages.delivery_to.Goals as goal

pub returns : goal.returns
returns c = λ w bases here.
    letter_delivers c.args.arrived c.args.arrived refl c.args.id c.node-node.result c.in_ok-base.base c.letter_input-input.result here
    c.node-node.ensures c.in_ok-base.ensures (λ n same. c.letter_input-input.ensures n (same ∙ sym c.as_slice.ensures)) w bases
