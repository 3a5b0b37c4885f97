use Rattle.std.proofs.Common.{◌<◌, [], ◌++◌, length, length-append, arith, refl, ap, Err, inl, rules, ◌∙◌}
use Rattle.std.proofs.KnownBytes.{Consumes-trans, Consumes-nil, Keeps-refl, Keeps-trans}
use Rattle.ba_http_head.proofs.Steps.{no_read_fault}
use Rattle.ba_http_body.proofs.Counting.{given_on, given_none, given_all, stops_on, not_given_on, too_many_so}
use Rattle.ba_http_body.proofs.remaining_bodies.remaining_by.Goals as goal

pub reading-init : goal.reading-init
reading-init g c = record {
  taken = (
    [],
    Consumes-nil (g.K.Link.left c.args.link.now),
    omega arith,
    inl refl,
    given_none (g.T.Taker.stands c.args.taker.now) c.args.past,
  );
  block = c.requires;
  written = Keeps-refl (g.K.Link.written c.args.link.now);
  stayed = refl;
}

pub reading-preserved : goal.reading-preserved
reading-preserved g c =
    let h = c.reading.invariant.taken in
    let t = c.in-Ok.ensures.taken in
    let left = g.K.Link.left in
    let short : length h.0 < c.args.past = omega (arith, c.reading-test.true, h.2) in
    record {
      taken = (
        h.0 ++ t.0,
        Consumes-trans (left c.args.link.now) (left c.reading.link) (left c.give_block.new.link) h.0 t.0 h.1 t.3,
        omega (arith, c.saturating_sub-left.ensures, h.2, t.1, length-append h.0 t.0),
        stops_on [] h.0 t.0 c.args.past short (omega (arith, t.1, t.2, c.reading.invariant.block)),
        given_on (g.T.Taker.stands c.args.taker.now) (g.T.Taker.stands c.reading.taker) (g.T.Taker.stands c.give_block.new.taker)
            c.args.past c.reading.left h.0 t.0 h.2 h.4 t.4,
      );
      block = search rules;
      written = Keeps-trans (g.K.Link.written c.args.link.now) (g.K.Link.written c.reading.link)
          (g.K.Link.written c.give_block.new.link) c.reading.invariant.written c.in-Ok.ensures.written;
      stayed = c.in-Ok.ensures.stayed (no_read_fault _) ∙ c.reading.invariant.stayed;
    }

pub reading-smaller : goal.reading-smaller
reading-smaller g c = omega (arith, c.saturating_sub-left.ensures, c.reading-test.true, c.in-Ok.size-test.1)

pub returns-clause-body : goal.returns-clause-body
returns-clause-body g c =
    let h = c.reading.invariant.taken in (
      h.0,
      h.1,
      h.3,
      too_many_so (g.T.Taker.stands c.args.taker.now) (g.T.Taker.stands c.reading.taker) h.0 c.args.past (g.K.Link.left c.reading.link)
          (omega (arith, c.reading-test.false, h.2)),
    )

pub returns-in-Ok-eq0-clause-body : goal.returns-in-Ok-eq0-clause-body
returns-in-Ok-eq0-clause-body g c =
    let h = c.reading.invariant.taken in
    let t = c.in-Ok-eq0.ensures.taken in
    let left = g.K.Link.left in
    let short : length h.0 < c.args.past = omega (arith, c.reading-test.true, h.2) in
    let size : length (h.0 ++ t.0) < c.args.past = omega (arith, short, t.1, c.in-Ok-eq0.field-0-test, length-append h.0 t.0) in (
      h.0 ++ t.0,
      Consumes-trans (left c.args.link.now) (left c.reading.link) (left c.give_block.new.link) h.0 t.0 h.1 t.3,
      stops_on [] h.0 t.0 c.args.past short (omega (arith, t.1, t.2, c.reading.invariant.block)),
      (
        size,
        c.in-Ok-eq0.ensures.end c.in-Ok-eq0.field-0-test,
        given_all (g.T.Taker.stands c.args.taker.now) (g.T.Taker.stands c.give_block.new.taker) c.args.past (h.0 ++ t.0) size
            (given_on (g.T.Taker.stands c.args.taker.now) (g.T.Taker.stands c.reading.taker) (g.T.Taker.stands c.give_block.new.taker)
            c.args.past c.reading.left h.0 t.0 h.2 h.4 t.4),
      ),
    )

pub returns-in-Err-clause-body : goal.returns-in-Err-clause-body
returns-in-Err-clause-body g c =
    let h = c.reading.invariant.taken in
    let told = c.in-Err.ensures in
    let left = g.K.Link.left in
    not_given_on (g.T.Taker.stands c.args.taker.now) (g.T.Taker.stands c.give_block.new.taker) (left c.args.link.now) (left c.reading.link)
    (left c.give_block.new.link) h.0 told.few.0 c.args.past c.in-Err.fault h.1 (omega (arith, c.reading-test.true, h.2))
    told.faults told.few.1
    (omega (arith, told.few.2, c.reading.invariant.block)) (λ read. told.none (ap Err read))
