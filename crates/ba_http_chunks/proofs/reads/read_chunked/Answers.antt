use Rattle.std.proofs.Common.{[], Ok, ◌∙◌, subst}
use Rattle.std.proofs.KnownBytes.{Keeps-refl}
use Rattle.ba_http_chunks.specs.inside.Progress.{Feeds}
use Rattle.ba_http_chunks.proofs.Blocks.{fed_then, fed_ended, fed_fault}
use Rattle.ba_http_chunks.proofs.Feeding.{rest_is}
use Rattle.ba_http_chunks.proofs.reads.read_chunked.Goals as goal

pub chunks_by-requires-clause-standing : goal.chunks_by-requires-clause-standing
chunks_by-requires-clause-standing g c =
    let so = g.T.Taker.stands in
    let feeds = subst (λ v. Feeds (so c.args.taker.now) (so c.feed.new.taker) c.first_chunks-chunks.result c.feed.new.chunks
    c.args.hand.now (Ok v))
    c.in-None.is c.in-Ok-feed.ensures in
    let f = feeds [] [] c.first_chunks-chunks.ensures in
    (c.args.hand.now, f.0, f.1)

pub returns-in-None-clause-body : goal.returns-in-None-clause-body
returns-in-None-clause-body g c =
    let so = g.T.Taker.stands in
    let feeds = subst (λ v. Feeds (so c.args.taker.now) (so c.feed.new.taker) c.first_chunks-chunks.result c.feed.new.chunks
    c.args.hand.now (Ok v))
    c.in-None.is c.in-Ok-feed.ensures in
    fed_then (so c.args.taker.now) (so c.feed.new.taker) (so c.chunks_by.new.taker) c.first_chunks-chunks.result c.feed.new.chunks
    c.args.hand.now
    (g.K.Link.left c.args.link.now) (g.K.Link.left c.chunks_by.new.link) c.chunks_by.result c.first_chunks-chunks.ensures feeds
    c.chunks_by.ensures.body

pub returns-clause-body : goal.returns-clause-body
returns-clause-body g c =
    let so = g.T.Taker.stands in
    let feeds = subst (λ v. Feeds (so c.args.taker.now) (so c.feed.new.taker) c.first_chunks-chunks.result c.feed.new.chunks
    c.args.hand.now (Ok v))
    c.in-Some.is c.in-Ok-feed.ensures in
    fed_ended (so c.args.taker.now) (so c.feed.new.taker) c.first_chunks-chunks.result c.feed.new.chunks c.args.hand.now c.in-Ok-copied.rest
    c.in-Some.at (g.K.Link.left c.args.link.now) (g.K.Link.left c.read_trailer.new.link) c.read_trailer.result
    c.first_chunks-chunks.ensures feeds
    (c.in-Ok-copied.ensures ∙ rest_is c.args.hand.now c.in-Some.at) c.read_trailer.ensures.trailer

pub returns-in-Err-feed-clause-body : goal.returns-in-Err-feed-clause-body
returns-in-Err-feed-clause-body g c =
    let so = g.T.Taker.stands in
    fed_fault (so c.args.taker.now) (so c.feed.new.taker) c.first_chunks-chunks.result c.feed.new.chunks c.args.hand.now
    (g.K.Link.left c.args.link.now) c.in-Err-feed.fault c.first_chunks-chunks.ensures c.in-Err-feed.ensures

pub returns-in-Err-feed-clause-written : goal.returns-in-Err-feed-clause-written
returns-in-Err-feed-clause-written g c = Keeps-refl (g.K.Link.written c.args.link.now)

pub returns-in_default-clause-written : goal.returns-in_default-clause-written
returns-in_default-clause-written g c = Keeps-refl (g.K.Link.written c.args.link.now)
