use Rattle.std.proofs.Common.{◌≡◌, ◌-◌, ◌≤◌, length, take}
use Rattle.ba_http_head.specs.declared.scans.TheConstants.{MOST_FIELDS}
use Rattle.ba_http_head.specs.Looks.{IsLooked}
use Rattle.ba_http_head.proofs.scans.scan.Given as goal

abbrev pub invariant-looking : goal.invariant-looking
invariant-looking l = record {
  within : l.at ≤ length l.bytes;
  so_far : IsLooked l.heading (take l.at l.bytes) l.line;
  room : length l.room ≡ MOST_FIELDS;
}

abbrev pub decreases-looking : goal.decreases-looking
decreases-looking l = length l.bytes - l.at
