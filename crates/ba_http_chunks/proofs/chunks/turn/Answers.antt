use Rattle.std.proofs.Common.{get_or}
use Rattle.ba_http_chunks.proofs.Feeding.{turned, first_byte}
use Rattle.ba_http_chunks.proofs.chunks.turn.Goals as goal

pub returns-in-Line : goal.returns-in-Line
returns-in-Line g c =
    let piece = c.args.piece.now in
    turned (g.T.Taker.stands c.args.taker.now) c.args.chunks (get_or piece 0 0) piece c.take_of_line.result c.requires
    (first_byte piece c.requires) c.take_of_line.ensures

pub returns-in-Bytes-eq0 : goal.returns-in-Bytes-eq0
returns-in-Bytes-eq0 g c =
    let piece = c.args.piece.now in
    turned (g.T.Taker.stands c.args.taker.now) c.args.chunks (get_or piece 0 0) piece c.take_return.result c.requires
    (first_byte piece c.requires) c.take_return.ensures

pub returns-in-Feed : goal.returns-in-Feed
returns-in-Feed g c =
    let piece = c.args.piece.now in
    turned (g.T.Taker.stands c.args.taker.now) c.args.chunks (get_or piece 0 0) piece c.take_feed.result c.requires
    (first_byte piece c.requires) c.take_feed.ensures
