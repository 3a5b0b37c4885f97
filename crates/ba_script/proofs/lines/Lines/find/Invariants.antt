use Rattle.std.proofs.Common.{◌≡◌, ◌-◌, length}
use Rattle.std.specs.Io.KnownBytes.{Keeps, prepend_known}
use Rattle.ba_script.proofs.lines.Lines.find.Given as goal

abbrev pub invariant-reading : goal.invariant-reading
invariant-reading g l = record {
  kept : Keeps (prepend_known l.initial.self (g.S.Source.left l.initial.source)) (prepend_known l.self (g.S.Source.left l.source));
  stayed : g.S.Source.faults l.source ≡ g.S.Source.faults l.initial.source;
}

abbrev pub decreases-reading : goal.decreases-reading
decreases-reading g l = 257 - length l.self
