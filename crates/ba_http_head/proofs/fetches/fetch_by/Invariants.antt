use Rattle.std.proofs.Common.{◌≡◌, ◌-◌, ◌≤◌, length}
use Rattle.std.specs.Io.KnownBytes.{Consumes, Keeps}
use Rattle.ba_http_head.specs.declared.scans.TheConstants.{MOST_FIELDS}
use Rattle.ba_http_head.specs.declared.blocks.TheConstants.{BLOCK}
use Rattle.ba_http_head.specs.Looks.{IsLooked}
use Rattle.ba_http_head.proofs.fetches.fetch_by.Given as goal

abbrev pub invariant-reading : goal.invariant-reading
invariant-reading g l = record {
  taken : Consumes (g.K.Link.left l.initial.link) (g.K.Link.left l.link) l.hand;
  at : l.at ≡ length l.hand;
  so_far : IsLooked l.heading l.hand l.line;
  room : length l.room ≡ MOST_FIELDS;
  block : length l.block ≡ BLOCK;
  written : Keeps (g.K.Link.written l.initial.link) (g.K.Link.written l.link);
  stayed : g.K.Link.faults l.link ≡ g.K.Link.faults l.initial.link;
}

abbrev pub decreases-reading : goal.decreases-reading
decreases-reading g l = 16384 - length l.hand
