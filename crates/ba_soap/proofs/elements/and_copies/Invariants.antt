-- The copies so far stand after the attributes.
use Rattle.std.proofs.Common.{◌≡◌, ◌++◌, take}
use Rattle.ba_soap.proofs.elements.and_copies.Given as goal

abbrev pub invariant-loop-other : goal.invariant-loop-other
invariant-loop-other l = l.all ≡ l.fn.attributes ++ take l.other-index l.others
