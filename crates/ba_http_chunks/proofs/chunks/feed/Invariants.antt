use Rattle.std.proofs.Common.{◌-◌, ◌≤◌, length, take, None, Ok}
use Rattle.ba_http_chunks.specs.inside.Progress.{Feeds}
use Rattle.ba_http_chunks.proofs.chunks.feed.Given as goal

abbrev pub invariant-feeding : goal.invariant-feeding
invariant-feeding g l = record {
  within : l.at ≤ length l.piece;
  so_far : Feeds (g.T.Taker.stands l.initial.taker) (g.T.Taker.stands l.taker) l.initial.chunks l.chunks (take l.at l.piece) (Ok None);
}

abbrev pub decreases-feeding : goal.decreases-feeding
decreases-feeding g l = length l.piece - l.at
