use Rattle.std.proofs.Common.{◌≡◌, length, ◌-◌, ◌≤◌, take}
use Rattle.std.specs.Io.KnownBytes.{Appends, Keeps}
use Rattle.ba_ports.proofs.outputs.send_all.Given as goal

abbrev pub invariant-pieces : goal.invariant-pieces
invariant-pieces g l = record {
  within : l.at ≤ length l.bytes;
  front : Appends (g.L.Link.written l.initial.link) (g.L.Link.written l.link) (take l.at l.bytes);
  others : Keeps (g.L.Link.left l.initial.link) (g.L.Link.left l.link);
  stayed : g.L.Link.faults l.link ≡ g.L.Link.faults l.initial.link;
}

abbrev pub decreases-pieces : goal.decreases-pieces
decreases-pieces g l = length l.bytes - l.at
