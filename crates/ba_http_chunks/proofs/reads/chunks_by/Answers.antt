use Rattle.std.proofs.Common.{[], ◌++◌, length, take, Ok, Err, refl, sym, ap, append-nil, ◌∙◌, subst, arith}
use Rattle.std.proofs.KnownBytes.{Consumes-trans, Consumes-nil, Keeps-refl, Keeps-trans}
use Rattle.ba_http_head.specs.declared.faults.HttpFault.TheVariants.{Memory}
use Rattle.ba_http_head.proofs.Steps.{no_read_fault}
use Rattle.ba_http_chunks.specs.inside.Progress.{Stands, Feeds}
use Rattle.ba_http_chunks.proofs.Composing.{gives_none}
use Rattle.ba_http_chunks.specs.Chunked.{Unchunks}
use Rattle.ba_http_chunks.proofs.Blocks.{block_ended, block_fault, block_end, block_silent, block_unread, block_on, silent_memory, rest_of}
use Rattle.ba_http_chunks.proofs.Blocks.{small_piece, within_size, some_piece, falls, not_none}
use Rattle.ba_http_chunks.proofs.TrailerSteps.{none_taken}
use Rattle.ba_http_chunks.proofs.Standing.{bounded}
use Rattle.ba_http_chunks.proofs.reads.chunks_by.Goals as goal

pub reading-init : goal.reading-init
reading-init g c = record {
  taken = λ fed body s. (
    [],
    [],
    Consumes-nil (g.K.Link.left c.args.link.now),
    subst (λ v. Stands c.args.from v (body ++ [])) (sym (append-nil fed)) (subst (Stands c.args.from fed) (sym (append-nil body)) s),
    gives_none (g.T.Taker.stands c.args.taker.now),
  );
  block = c.requires.block;
  written = Keeps-refl (g.K.Link.written c.args.link.now);
  stayed = refl;
}

pub returns-in-Ok-eq0-clause-body : goal.returns-in-Ok-eq0-clause-body
returns-in-Ok-eq0-clause-body g c = λ fed body s.
    let so = g.T.Taker.stands in
    let left = g.K.Link.left in
    let h = c.reading.invariant.taken fed body s in
    let t = c.in-Ok-eq0.ensures.taken in
    let piece = take c.in-Ok-eq0.field-0 c.read_some.new.block in
    block_end (so c.args.taker.now) (so c.reading.taker) c.reading.chunks fed body h.0 h.1 (left c.args.link.now)
    (left c.read_some.new.link) h.3 h.4 (so c.reading.taker) (take c.in-Ok-eq0.field-0 c.read_some.new.block)
    (Consumes-trans (left c.args.link.now) (left c.reading.link) (left c.read_some.new.link) h.0
    (take c.in-Ok-eq0.field-0 c.read_some.new.block) h.2 t.1)
    (ap (λ k. take k c.read_some.new.block) c.in-Ok-eq0.field-0-test ∙ none_taken c.read_some.new.block)
    (c.in-Ok-eq0.ensures.end c.in-Ok-eq0.field-0-test)

pub returns-in-Err-clause-body : goal.returns-in-Err-clause-body
returns-in-Err-clause-body g c = λ fed body s.
    let so = g.T.Taker.stands in
    let left = g.K.Link.left in
    let h = c.reading.invariant.taken fed body s in
    subst (λ f. Unchunks (λ given. so c.args.taker.now (given ++ body)) (so c.reading.taker) fed (left c.args.link.now)
    (left c.read_some.new.link) (Err f)) (sym c.in-Err.ensures.fault)
    (block_unread (so c.args.taker.now) (so c.reading.taker) c.reading.chunks fed body h.0 h.1 (left c.args.link.now)
    (left c.reading.link) h.3 h.4 (so c.reading.taker) (left c.read_some.new.link) h.2 c.in-Err.ensures.none)

pub returns-in-Err-feed-clause-body : goal.returns-in-Err-feed-clause-body
returns-in-Err-feed-clause-body g c = λ fed body s.
    let so = g.T.Taker.stands in
    let left = g.K.Link.left in
    let h = c.reading.invariant.taken fed body s in
    let t = c.in-Ok.ensures.taken in
    block_fault (so c.args.taker.now) (so c.reading.taker) c.reading.chunks fed body h.0 h.1 (left c.args.link.now)
    (left c.read_some.new.link) h.3 h.4 (so c.feed.new.taker) c.feed.new.chunks (take c.in-Ok.size c.read_some.new.block)
    c.in-Err-feed.fault
    (Consumes-trans (left c.args.link.now) (left c.reading.link) (left c.read_some.new.link) h.0
    (take c.in-Ok.size c.read_some.new.block) h.2 t.1)
    (small_piece c.read_some.new.block c.in-Ok.size c.reading.block t.0 c.reading.invariant.block) c.in-Err-feed.ensures

pub returns-in-Some-clause-body : goal.returns-in-Some-clause-body
returns-in-Some-clause-body g c = λ fed body s.
    let so = g.T.Taker.stands in
    let left = g.K.Link.left in
    let h = c.reading.invariant.taken fed body s in
    let t = c.in-Ok.ensures.taken in
    let feeds = subst (λ v. Feeds (so c.reading.taker) (so c.feed.new.taker) c.reading.chunks c.feed.new.chunks
    (take c.in-Ok.size c.read_some.new.block) (Ok v)) c.in-Some.is c.in-Ok-feed.ensures in
    block_ended (so c.args.taker.now) (so c.reading.taker) c.reading.chunks fed body h.0 h.1 (left c.args.link.now)
    (left c.read_some.new.link) h.3 h.4 (so c.feed.new.taker) c.feed.new.chunks (take c.in-Ok.size c.read_some.new.block)
    c.in-Ok-copied.rest
    c.in-Some.at (left c.read_trailer.new.link) c.read_trailer.result
    (Consumes-trans (left c.args.link.now) (left c.reading.link) (left c.read_some.new.link) h.0
    (take c.in-Ok.size c.read_some.new.block) h.2 t.1)
    (small_piece c.read_some.new.block c.in-Ok.size c.reading.block t.0 c.reading.invariant.block) feeds
    (c.in-Ok-copied.ensures ∙ rest_of c.read_some.new.block c.in-Some.at c.in-Ok.size
    (within_size c.read_some.new.block c.in-Ok.size c.in-Some.at feeds.0))
    c.read_trailer.ensures.trailer

pub reading-preserved : goal.reading-preserved
reading-preserved g c =
    let so = g.T.Taker.stands in
    let left = g.K.Link.left in
    let t = c.in-Ok.ensures.taken in
    let feeds = subst (λ v. Feeds (so c.reading.taker) (so c.feed.new.taker) c.reading.chunks c.feed.new.chunks
    (take c.in-Ok.size c.read_some.new.block) (Ok v)) c.in-None.is c.in-Ok-feed.ensures in
    record {
      taken = λ fed body s.
          let h = c.reading.invariant.taken fed body s in
          let o = block_on (so c.args.taker.now) (so c.reading.taker) c.reading.chunks fed body h.0 h.1 (left c.args.link.now)
          (left c.read_some.new.link) h.3 h.4 (so c.feed.new.taker) c.feed.new.chunks (take c.in-Ok.size c.read_some.new.block) feeds in (
            h.0 ++ take c.in-Ok.size c.read_some.new.block,
            o.0,
            Consumes-trans (left c.args.link.now) (left c.reading.link) (left c.read_some.new.link) h.0
                (take c.in-Ok.size c.read_some.new.block) h.2 t.1,
            o.1,
            o.2,
          );
      block = c.in-Ok.ensures.block ∙ c.reading.invariant.block;
      written = Keeps-trans (g.K.Link.written c.args.link.now) (g.K.Link.written c.reading.link) (g.K.Link.written c.read_some.new.link)
          c.reading.invariant.written c.in-Ok.ensures.written;
      stayed = c.in-Ok.ensures.stayed (no_read_fault _) ∙ c.reading.invariant.stayed;
    }

pub reading-smaller : goal.reading-smaller
reading-smaller g c =
    let so = g.T.Taker.stands in
    let start = c.requires.standing in
    let h = c.reading.invariant.taken start.0 start.1 start.2 in
    let feeds = subst (λ v. Feeds (so c.reading.taker) (so c.feed.new.taker) c.reading.chunks c.feed.new.chunks
    (take c.in-Ok.size c.read_some.new.block) (Ok v)) c.in-None.is c.in-Ok-feed.ensures in
    let f = feeds (start.0 ++ h.0) (start.1 ++ h.1) h.3 in
    falls c.reading.chunks.count c.feed.new.chunks.count (start.0 ++ h.0) (take c.in-Ok.size c.read_some.new.block) h.3.count f.1.count
    (bounded c.reading.chunks (start.0 ++ h.0) (start.1 ++ h.1) h.3)
    (some_piece c.read_some.new.block c.in-Ok.size (length c.reading.block) c.in-Ok.ensures.taken.0 c.in-Ok.ensures.block
    (not_none c.in-Ok.size c.in-Ok.size-test.1))

pub returns-in_default-clause-body : goal.returns-in_default-clause-body
returns-in_default-clause-body g c = λ fed body s.
    let so = g.T.Taker.stands in
    let left = g.K.Link.left in
    let h = c.reading.invariant.taken fed body s in
    let t = c.in-Ok.ensures.taken in
    block_silent (so c.args.taker.now) (so c.reading.taker) c.reading.chunks fed body h.0 h.1 (left c.args.link.now)
    (left c.read_some.new.link) h.3 h.4 (so c.feed.new.taker) (take c.in-Ok.size c.read_some.new.block) Memory
    (Consumes-trans (left c.args.link.now) (left c.reading.link) (left c.read_some.new.link) h.0
    (take c.in-Ok.size c.read_some.new.block) h.2 t.1)
    (small_piece c.read_some.new.block c.in-Ok.size c.reading.block t.0 c.reading.invariant.block)
    (silent_memory (λ given. so c.args.taker.now (given ++ body)) (so c.feed.new.taker)
    (fed ++ (h.0 ++ take c.in-Ok.size c.read_some.new.block)) (left c.read_some.new.link))
