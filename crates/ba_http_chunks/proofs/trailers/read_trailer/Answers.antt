use Rattle.std.proofs.Common.{◌≡◌, ◌≤◌, [], ◌++◌, length, take, length-append, Err, refl, sym, ap, append-nil, append_assoc, inl, rules}
use Rattle.std.proofs.Common.{◌∙◌, subst, arith}
use Rattle.std.proofs.KnownBytes.{Consumes-trans, Consumes-nil, Keeps-refl, Keeps-trans}
use Rattle.ba_http_head.specs.declared.faults.HttpFault.TheVariants.{Truncated}
use Rattle.ba_http_head.specs.declared.headings.Heading.TheVariants.{Trailer}
use Rattle.ba_http_head.specs.HeadLines.{IsOpen}
use Rattle.ba_http_head.specs.Looks.{IsLooked, Shows}
use Rattle.ba_http_head.proofs.Steps.{empty, no_read_fault}
use Rattle.ba_http_head.proofs.LookLemmas.{begun, open_short}
use Rattle.ba_http_chunks.specs.inside.Trailers.{answer_to, TrailerSo, ReadsTrailer}
use Rattle.ba_http_chunks.proofs.TrailerSteps.{trailer_on, trailer_unread, trailer_shown, none_taken, looked_whole, stops_after}
use Rattle.ba_http_chunks.proofs.trailers.read_trailer.Goals as goal

pub reading-init : goal.reading-init
reading-init g c = record {
  taken = ([], Consumes-nil (g.K.Link.left c.args.link.now), sym (append-nil c.args.hand), inl refl);
  within = omega arith;
  so_far = subst (λ v. IsLooked Trailer v (record { place = 0; filled = 0 })) (sym (none_taken c.args.hand)) (begun Trailer);
  room = refl;
  block = c.requires;
  written = Keeps-refl (g.K.Link.written c.args.link.now);
  stayed = refl;
}

pub returns-in-Some-clause-trailer : goal.returns-in-Some-clause-trailer
returns-in-Some-clause-trailer g c =
    let t = c.reading.invariant.taken in
    let left = g.K.Link.left c.reading.link in
    let told = c.in-Some.ensures in
    subst (ReadsTrailer c.args.hand c.args.count (g.K.Link.left c.args.link.now) left) (sym c.answer_to.ensures) (
      t.0,
      t.1,
      t.3,
      subst (λ v. TrailerSo v c.args.count left (answer_to c.in-Some.shown c.args.count)) t.2
          (trailer_shown c.in-Some.shown c.reading.bytes c.scan.new.at c.args.count left
          (subst (λ v. c.scan.new.at ≤ length v) c.as_slice.ensures told.within)
          (subst (λ v. Shows Trailer (take c.scan.new.at v) c.in-Some.shown) c.as_slice.ensures told.shown)),
    )

pub returns-in-Ok-eq0-clause-trailer : goal.returns-in-Ok-eq0-clause-trailer
returns-in-Ok-eq0-clause-trailer g c =
    let t = c.reading.invariant.taken in
    let left = g.K.Link.left in
    let looked = subst (λ v. IsLooked Trailer v c.scan.new.line) c.as_slice.ensures (c.in-None.ensures.more refl).1 in
    let read = c.in-Ok-eq0.ensures.taken in
    let none : read.0 ≡ [] = empty read.0 (read.1 ∙ c.in-Ok-eq0.field-0-test) in
    let same : c.reading.bytes ++ read.0 ≡ c.reading.bytes = ap (λ v. c.reading.bytes ++ v) none ∙ append-nil c.reading.bytes in
    trailer_on c.args.hand c.reading.bytes t.0 c.args.count (left c.args.link.now) (left c.reading.link) (left c.read_block.new.link)
    read.0 (Err Truncated) t.2 t.1 read.4 looked.open_yet (omega (arith, read.1, read.2, c.reading.invariant.block))
    (subst (IsOpen Trailer) (sym same) looked.open_yet, c.in-Ok-eq0.ensures.end c.in-Ok-eq0.field-0-test)

pub returns-in-Err-clause-trailer : goal.returns-in-Err-clause-trailer
returns-in-Err-clause-trailer g c =
    let t = c.reading.invariant.taken in
    let left = g.K.Link.left in
    let looked = subst (λ v. IsLooked Trailer v c.scan.new.line) c.as_slice.ensures (c.in-None.ensures.more refl).1 in
    let told = c.in-Err.ensures in
    let few = told.few in
    trailer_unread c.args.hand c.reading.bytes t.0 c.args.count (left c.args.link.now) (left c.reading.link) (left c.read_block.new.link)
    few.0 c.in-Err.fault t.2 t.1 looked.open_yet told.faults few.1 (omega (arith, few.2, c.reading.invariant.block))
    (λ read. told.none (ap Err read))

pub reading-smaller : goal.reading-smaller
reading-smaller g c =
    let read = c.in-Ok.ensures.taken in
    let looked = subst (λ v. IsLooked Trailer v c.scan.new.line) c.as_slice.ensures (c.in-None.ensures.more refl).1 in
    let small = open_short Trailer c.reading.bytes looked.open_yet in
    omega (arith, read.1, ap length read.3, length-append c.reading.bytes read.0, small, c.in-Ok.field-0-test.1)

pub reading-preserved : goal.reading-preserved
reading-preserved g c =
    let t = c.reading.invariant.taken in
    let left = g.K.Link.left in
    let read = c.in-Ok.ensures.taken in
    let more = c.in-None.ensures.more refl in
    let at : c.scan.new.at ≡ length c.reading.bytes = more.0 ∙ ap length c.as_slice.ensures in
    let looked = subst (λ v. IsLooked Trailer v c.scan.new.line) c.as_slice.ensures more.1 in
    record {
      taken = (
        t.0 ++ read.0,
        Consumes-trans (left c.args.link.now) (left c.reading.link) (left c.read_block.new.link) t.0 read.0 t.1 read.4,
        read.3 ∙ ap (λ v. v ++ read.0) t.2 ∙ append_assoc c.args.hand t.0 read.0,
        stops_after c.args.hand c.reading.bytes t.0 read.0 t.2 looked.open_yet (omega (arith, read.1, read.2, c.reading.invariant.block)),
      );
      within = omega (arith, at, ap length read.3, length-append c.reading.bytes read.0);
      so_far = subst (λ v. IsLooked Trailer v c.scan.new.line)
          (sym (looked_whole c.reading.bytes read.0 c.read_block.new.bytes c.scan.new.at at read.3)) looked;
      room = search rules;
      block = search rules;
      written = Keeps-trans (g.K.Link.written c.args.link.now) (g.K.Link.written c.reading.link) (g.K.Link.written c.read_block.new.link)
          c.reading.invariant.written c.in-Ok.ensures.written;
      stayed = c.in-Ok.ensures.stayed (no_read_fault _) ∙ c.reading.invariant.stayed;
    }
