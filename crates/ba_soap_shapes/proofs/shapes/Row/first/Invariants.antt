-- What is found in the content that is left, from the next number on, is what is found in all.
use Rattle.std.proofs.Common.{◌≡◌, drop}
use Rattle.ba_soap_shapes.specs.Elements.{first_child}
use Rattle.ba_soap_shapes.specs.Shapes.{line_of, names}
use Rattle.ba_soap_shapes.proofs.shapes.Row.first.Given as goal

abbrev pub invariant-loop-index : goal.invariant-loop-index
invariant-loop-index g l = first_child (names (line_of l.self) l.parent) l.next (drop l.index l.content)
    ≡ first_child (names (line_of l.self) l.parent) l.fn.number l.content
