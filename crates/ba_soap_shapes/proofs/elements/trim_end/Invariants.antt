-- What is left trims to what the whole trims to, and grows shorter.
use Rattle.std.proofs.Common.{◌≡◌, length}
use Rattle.ba_soap_shapes.specs.Elements.{trim_end}
use Rattle.ba_soap_shapes.proofs.elements.trim_end.Given as goal

abbrev pub invariant-loop-last : goal.invariant-loop-last
invariant-loop-last l = trim_end l.left ≡ trim_end l.bytes

abbrev pub decreases-loop-last : goal.decreases-loop-last
decreases-loop-last l = length l.left
