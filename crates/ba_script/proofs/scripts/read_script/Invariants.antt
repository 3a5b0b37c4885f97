use Rattle.std.proofs.Common.{◌≡◌}
use Rattle.ba_script.proofs.Streaming.{StandsAt}
use Rattle.ba_script.proofs.scripts.read_script.Given as goal

abbrev pub invariant-lines : goal.invariant-lines
invariant-lines g l = record {
  stayed : g.S.Source.faults l.source ≡ g.S.Source.faults l.initial.source;
  stands : StandsAt (g.S.Source.left l.initial.source) (g.S.Source.left l.source) l.lines l.form l.read l.pairs l.worlds;
}
