use Rattle.std.proofs.Common.{drop, length-drop, Ok, Err, arith, refl, subst}
use Rattle.ba_http_chunks.specs.inside.Progress.{TurnsBy}
use Rattle.ba_http_chunks.proofs.Feeding.{feed_none, feed_on, feed_last, feed_fault, feed_all, rest_is}
use Rattle.ba_http_chunks.proofs.chunks.feed.Goals as goal

pub feeding-init : goal.feeding-init
feeding-init g c = record {
  within = omega arith;
  so_far = feed_none (g.T.Taker.stands c.args.taker.now) c.args.chunks.now c.args.piece.now;
}

pub feeding-preserved : goal.feeding-preserved
feeding-preserved g c =
    let so = g.T.Taker.stands in
    let turns = subst (λ v. TurnsBy (so c.feeding.taker) (so c.turn.new.taker) c.feeding.chunks (drop c.feeding.at c.args.piece.now) (Ok v))
    c.in-On.is (subst (λ v. TurnsBy (so c.feeding.taker) (so c.turn.new.taker) c.feeding.chunks v (Ok c.in-Ok.turned))
    (rest_is c.args.piece.now c.feeding.at) c.in-Ok.ensures) in
    record {
      within = omega (arith, turns.1, length-drop c.feeding.at c.args.piece.now, c.feeding-test.true);
      so_far = feed_on (so c.args.taker.now) (so c.feeding.taker) (so c.turn.new.taker) c.args.chunks.now c.feeding.chunks
          c.args.piece.now c.feeding.at c.feeding.invariant.so_far c.in-On.next c.in-On.size turns;
    }

pub feeding-smaller : goal.feeding-smaller
feeding-smaller g c =
    let so = g.T.Taker.stands in
    let turns = subst (λ v. TurnsBy (so c.feeding.taker) (so c.turn.new.taker) c.feeding.chunks (drop c.feeding.at c.args.piece.now) (Ok v))
    c.in-On.is (subst (λ v. TurnsBy (so c.feeding.taker) (so c.turn.new.taker) c.feeding.chunks v (Ok c.in-Ok.turned))
    (rest_is c.args.piece.now c.feeding.at) c.in-Ok.ensures) in
    omega (arith, turns.0, turns.1, length-drop c.feeding.at c.args.piece.now, c.feeding-test.true)

pub returns : goal.returns
returns g c =
    let so = g.T.Taker.stands in
    feed_all (so c.args.taker.now) (so c.feeding.taker) c.args.chunks.now c.feeding.chunks c.args.piece.now c.feeding.at
    c.feeding-test.false c.feeding.invariant.within c.feeding.invariant.so_far

pub returns-in-Err : goal.returns-in-Err
returns-in-Err g c =
    let so = g.T.Taker.stands in
    feed_fault (so c.args.taker.now) (so c.feeding.taker) (so c.turn.new.taker) c.args.chunks.now c.feeding.chunks
    c.args.piece.now c.feeding.at c.feeding.invariant.so_far c.feeding.chunks c.in-Err.fault c.feeding-test.true
    (subst (λ v. TurnsBy (so c.feeding.taker) (so c.turn.new.taker) c.feeding.chunks v (Err c.in-Err.fault))
    (rest_is c.args.piece.now c.feeding.at) c.in-Err.ensures)

pub returns-in-Last : goal.returns-in-Last
returns-in-Last g c =
    let so = g.T.Taker.stands in
    let turns = subst (λ v. TurnsBy (so c.feeding.taker) (so c.turn.new.taker) c.feeding.chunks (drop c.feeding.at c.args.piece.now) (Ok v))
    c.in-Last.is (subst (λ v. TurnsBy (so c.feeding.taker) (so c.turn.new.taker) c.feeding.chunks v (Ok c.in-Ok.turned))
    (rest_is c.args.piece.now c.feeding.at) c.in-Ok.ensures) in
    feed_last (so c.args.taker.now) (so c.feeding.taker) (so c.turn.new.taker) c.args.chunks.now c.feeding.chunks
    c.args.piece.now c.feeding.at c.feeding.invariant.so_far
    (record { spot = c.feeding.chunks.spot; got = c.feeding.chunks.got; count = c.in-Last.count }) c.in-Last.count refl
    c.feeding-test.true turns
