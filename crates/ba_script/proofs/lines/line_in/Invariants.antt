use Rattle.std.proofs.Common.{◌≤◌, take}
use Rattle.ba_script.specs.inside.Lines.{HasNoFeed}
use Rattle.ba_script.proofs.lines.line_in.Given as goal

abbrev pub invariant-loop-index : goal.invariant-loop-index
invariant-loop-index l = record {
  clear : HasNoFeed (take l.index l.bytes);
  short : l.index ≤ 256;
}
