use Rattle.std.proofs.Common.{◌∙◌}
use Rattle.ba_wire_short.proofs.ReadAgain.{letter_read_again}
use Rattle.ba_wire_short.proofs.codec.same_letter.Goals as goal

pub returns-then-is_same : goal.returns-then-is_same
returns-then-is_same c =
    letter_read_again c.args.source.now c.args.route c.args.message c.args.bytes.now
    (c.is_same.ensures c.if-is_same.true ∙ c.as_slice.ensures ∙ c.in_ok-text.ensures)
    c.requires.encodes c.requires.numbered c.requires.times
