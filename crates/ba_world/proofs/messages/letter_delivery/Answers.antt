use Rattle.std.proofs.Common.{◌∙◌, ap}
use Rattle.ba_node_steps.specs.Routing.{identifier_in}
use Rattle.ba_world.proofs.MessageLemmas.{goes_as_sent, letter_goes_nowhere}
use Rattle.ba_world.proofs.messages.letter_delivery.Goals as goal

pub returns-in-Some : goal.returns-in-Some
returns-in-Some c =
    goes_as_sent c.args.letter.now c.in_ok-arrived.arrived c.in_ok-arrived.ensures c.in-Some.id c.delivery_to.result
    (c.in-Some.ensures ∙ ap identifier_in c.as_slice.ensures) c.delivery_to.ensures

pub returns-in-None : goal.returns-in-None
returns-in-None c =
    letter_goes_nowhere c.args.letter.now c.in_ok-arrived.arrived c.in_ok-arrived.ensures
    (c.in-None.ensures ∙ ap identifier_in c.as_slice.ensures)
