-- The copies so far and those of the rest are those of all.
use Rattle.std.proofs.Common.{◌≡◌, ◌++◌, drop, map}
use Rattle.ba_soap_shapes.specs.Elements.{children}
use Rattle.ba_soap_shapes.specs.Endpoints.{unmarked_tree}
use Rattle.ba_soap_shapes.proofs.endpoints.unmarked_children.Given as goal

abbrev pub invariant-loop-part : goal.invariant-loop-part
invariant-loop-part l = l.trees ++ map unmarked_tree (children (drop l.part-index l.content)) ≡ map unmarked_tree (children l.content)
