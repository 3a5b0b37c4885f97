use Rattle.std.proofs.Common.{◌≡◌, ◌≤◌, [], ◌++◌, length, take, length-append, Err, refl, sym, ap, append-nil, rules, ◌∙◌, subst, arith}
use Rattle.std.specs.Io.KnownBytes.{Consumes}
use Rattle.ba_http_head.specs.declared.faults.HttpFault.TheVariants.{Truncated}
use Rattle.ba_http_head.specs.HeadLines.{IsOpen}
use Rattle.std.proofs.KnownBytes.{Consumes-trans}
use Rattle.ba_http_head.specs.Looks.{IsLooked, Shows}
use Rattle.ba_http_head.specs.inside.Fetches.{Fetches, ended}
use Rattle.ba_http_head.proofs.Steps.{fetched, nothing, kept, kept_on, empty, not_read, found_so, no_read_fault}
use Rattle.ba_http_head.proofs.LookLemmas.{begun, open_short}
use Rattle.ba_http_head.proofs.fetches.fetch_by.Goals as goal

pub reading-init : goal.reading-init
reading-init g c =
    let none : c.new-hand.result ≡ [] = c.new-hand.ensures in
    record {
      taken = subst (Consumes (g.K.Link.left c.args.link.now) (g.K.Link.left c.args.link.now)) (sym none)
          (nothing (g.K.Link.left c.args.link.now));
      at = ap length (sym none);
      so_far = subst (λ v. IsLooked c.args.heading v (record { place = 0; filled = 0 })) (sym none) (begun c.args.heading);
      room = refl;
      block = c.requires;
      written = kept (g.K.Link.written c.args.link.now);
      stayed = refl;
    }

pub returns-in-Ok-eq0-clause-found : goal.returns-in-Ok-eq0-clause-found
returns-in-Ok-eq0-clause-found g c =
    let told = c.in-Ok-eq0.ensures in
    let t = told.taken in
    let none : t.0 ≡ [] = empty t.0 (t.1 ∙ c.in-Ok-eq0.field-0-test) in
    let same : c.read_block.new.bytes ≡ c.reading.hand = t.3 ∙ ap (λ v. c.reading.hand ++ v) none ∙ append-nil c.reading.hand in
    fetched c.args.heading (g.K.Link.left c.args.link.now) (g.K.Link.left c.reading.link)
    (g.K.Link.left c.read_block.new.link) c.reading.hand t.0 c.read_block.new.bytes (Err Truncated)
    c.reading.invariant.taken t.4 c.reading.invariant.so_far.open_yet (omega (arith, t.1, t.2, c.reading.invariant.block)) t.3
    (subst (IsOpen c.args.heading) (sym same) c.reading.invariant.so_far.open_yet, told.end c.in-Ok-eq0.field-0-test)

pub returns-in-Err-clause-found : goal.returns-in-Err-clause-found
returns-in-Err-clause-found g c =
    let told = c.in-Err.ensures in
    let few = told.few in
    not_read c.args.heading (g.K.Link.left c.args.link.now) (g.K.Link.left c.reading.link) (g.K.Link.left c.read_block.new.link)
    c.reading.hand few.0 c.in-Err.fault c.reading.invariant.taken c.reading.invariant.so_far.open_yet told.faults few.1
    (omega (arith, few.2, c.reading.invariant.block)) (λ read. told.none (ap Err read))

pub reading-smaller : goal.reading-smaller
reading-smaller g c =
    let t = c.in-Ok.ensures.taken in
    let looked = (c.in-None.ensures.more refl).1 in
    let small = open_short c.args.heading c.as_slice.result.now looked.open_yet in
    let some = c.in-Ok.field-0-test.1 in
    omega (arith, t.1, ap length t.3, length-append c.reading.hand t.0, ap length c.as_slice.ensures, small, some)

pub reading-preserved : goal.reading-preserved
reading-preserved g c =
    let t = c.in-Ok.ensures.taken in
    let more = c.in-None.ensures.more refl in
    let w = c.in-Ok.ensures.written in
    record {
      taken = subst (Consumes (g.K.Link.left c.args.link.now) (g.K.Link.left c.read_block.new.link)) (sym t.3)
          (Consumes-trans (g.K.Link.left c.args.link.now) (g.K.Link.left c.reading.link)
          (g.K.Link.left c.read_block.new.link) c.reading.hand t.0 c.reading.invariant.taken t.4);
      at = more.0 ∙ ap length c.as_slice.ensures;
      so_far = subst (λ v. IsLooked c.args.heading v c.scan.new.line) c.as_slice.ensures more.1;
      room = search rules;
      block = search rules;
      written = kept_on (g.K.Link.written c.args.link.now) (g.K.Link.written c.reading.link)
          (g.K.Link.written c.read_block.new.link) c.reading.invariant.written w;
      stayed = c.in-Ok.ensures.stayed (no_read_fault _) ∙ c.reading.invariant.stayed;
    }

pub returns-in-Some-clause-found : goal.returns-in-Some-clause-found
returns-in-Some-clause-found g c =
    let t = c.in-Ok.ensures.taken in
    let told = c.in-Some.ensures in
    let new = g.K.Link.left c.read_block.new.link in
    subst (Fetches c.args.heading (g.K.Link.left c.args.link.now) new) (sym c.ended.ensures)
    (fetched c.args.heading (g.K.Link.left c.args.link.now) (g.K.Link.left c.reading.link) new c.reading.hand t.0 c.read_block.new.bytes
    (ended c.in-Some.shown c.read_block.new.bytes c.scan.new.at)
    c.reading.invariant.taken t.4 c.reading.invariant.so_far.open_yet (omega (arith, t.1, t.2, c.reading.invariant.block)) t.3
    (found_so c.args.heading c.in-Some.shown c.read_block.new.bytes c.scan.new.at new
    (subst (λ v. c.scan.new.at ≤ length v) c.as_slice.ensures told.within)
    (subst (λ v. Shows c.args.heading (take c.scan.new.at v) c.in-Some.shown) c.as_slice.ensures told.shown)))
