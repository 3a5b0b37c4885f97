-- What is left trims to what the whole trims to, and grows shorter.
use Rattle.std.proofs.Common.{◌≡◌, length}
use Rattle.ba_soap_shapes.specs.Elements.{trim_start}
use Rattle.ba_soap_shapes.proofs.elements.trim_start.Given as goal

abbrev pub invariant-loop-left : goal.invariant-loop-left
invariant-loop-left l = trim_start l.left ≡ trim_start l.bytes

abbrev pub decreases-loop-left : goal.decreases-loop-left
decreases-loop-left l = length l.left
