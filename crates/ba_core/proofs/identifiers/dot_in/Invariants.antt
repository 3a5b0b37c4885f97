use Rattle.std.proofs.Common.{take}
use Rattle.ba_core.specs.Texts.{HasNoDot}
use Rattle.ba_core.proofs.identifiers.dot_in.Given as goal

abbrev pub invariant-loop-index : goal.invariant-loop-index
invariant-loop-index l = HasNoDot (take l.index l.text)
