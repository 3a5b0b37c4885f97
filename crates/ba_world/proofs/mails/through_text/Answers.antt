use Rattle.std.proofs.Common.{◌≡◌}
use Rattle.ba_wire.specs.Envelopes.{envelope_text}
use Rattle.ba_world.proofs.PostedMessages.{read_back}
use Rattle.ba_world.proofs.mails.through_text.Goals as goal

pub returns-in-Ok : goal.returns-in-Ok
returns-in-Ok c =
    let written : c.as_slice.result.now ≡ envelope_text c.args.route.now c.args.message.now =
    cc (c.in_ok-text.ensures, c.as_slice.ensures) in
    read_back c.args.route.now c.args.message.now c.as_slice.result.now c.in-Ok.decoded written
    c.requires.encodes c.requires.numbered c.requires.times c.in-Ok.ensures.only
