-- The blocks so far are those of the parameters so far.
use Rattle.std.proofs.Common.{◌≡◌, ◌++◌, take, map}
use Rattle.ba_tree.specs.declared.trees.Content.TheVariants.{Child}
use Rattle.ba_soap.specs.Elements.{marked_tree}
use Rattle.ba_soap.proofs.elements.and_parameters.Given as goal

abbrev pub invariant-loop-parameter : goal.invariant-loop-parameter
invariant-loop-parameter l = l.all ≡ l.fn.blocks ++ map Child (map marked_tree (take l.parameter-index l.parameters))
