use Rattle.std.proofs.Common.{◌≡◌, ℕ, ◌-◌, ◌≤◌, List, [], ◌++◌, length, take}
use Rattle.std.specs.Io.KnownBytes.{Consumes, Keeps}
use Rattle.ba_http_head.specs.declared.blocks.TheConstants.{BLOCK}
use Rattle.ba_http_body.specs.Counted.{StopsAt}
use Rattle.ba_http_body.proofs.counted_bodies.count_by.Given as goal

abbrev pub invariant-reading : goal.invariant-reading
invariant-reading g l = record {
  taken : (taken : List ℕ) × Consumes (g.K.Link.left l.initial.link) (g.K.Link.left l.link) taken × (l.left ≡ l.count - length taken)
      × StopsAt [] l.count taken
      × ((given : List ℕ) → g.T.Taker.stands l.initial.taker given → g.T.Taker.stands l.taker (given ++ take l.count taken));
  block : length l.block ≡ BLOCK;
  written : Keeps (g.K.Link.written l.initial.link) (g.K.Link.written l.link);
  stayed : g.K.Link.faults l.link ≡ g.K.Link.faults l.initial.link;
}

abbrev pub decreases-reading : goal.decreases-reading
decreases-reading g l = l.left
