use Rattle.ba_wire.specs.Envelopes.{letter_tree}
use Rattle.ba_wire.proofs.WrittenParts.{text_of_same}
use Rattle.ba_wire.proofs.envelopes.encode_letter.Goals as goal

pub returns : goal.returns
returns c =
    text_of_same c.in_ok-tree.tree (letter_tree c.args.source.now c.args.route.now c.args.message.now) c.text_of.result
    c.in_ok-tree.ensures c.text_of.ensures
