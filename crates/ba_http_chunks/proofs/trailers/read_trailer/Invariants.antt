use Rattle.std.proofs.Common.{◌≡◌, ◌-◌, ◌≤◌, List, ℕ, ◌++◌, length, take}
use Rattle.std.specs.Io.KnownBytes.{Consumes, Keeps}
use Rattle.ba_http_head.specs.declared.blocks.TheConstants.{BLOCK}
use Rattle.ba_http_head.specs.declared.headings.Heading.TheVariants.{Trailer}
use Rattle.ba_http_head.specs.declared.scans.TheConstants.{MOST_FIELDS}
use Rattle.ba_http_head.specs.Looks.{IsLooked}
use Rattle.ba_http_chunks.specs.inside.Trailers.{StopsOpen}
use Rattle.ba_http_chunks.proofs.trailers.read_trailer.Given as goal

abbrev pub invariant-reading : goal.invariant-reading
invariant-reading g l = record {
  taken : (taken : List ℕ) × Consumes (g.K.Link.left l.initial.link) (g.K.Link.left l.link) taken × (l.bytes ≡ l.fn.hand ++ taken)
      × StopsOpen l.fn.hand taken;
  within : l.at ≤ length l.bytes;
  so_far : IsLooked Trailer (take l.at l.bytes) l.line;
  room : length l.room ≡ MOST_FIELDS;
  block : length l.block ≡ BLOCK;
  written : Keeps (g.K.Link.written l.initial.link) (g.K.Link.written l.link);
  stayed : g.K.Link.faults l.link ≡ g.K.Link.faults l.initial.link;
}

abbrev pub decreases-reading : goal.decreases-reading
decreases-reading g l = 16385 - length l.bytes
