use Rattle.std.proofs.Common.{◌≡◌, ◌++◌, drop, map}
use Rattle.ba_soap_shapes.specs.Elements.{children}
use Rattle.ba_soap.proofs.headers.children.Given as goal

abbrev pub invariant-loop-part : goal.invariant-loop-part
invariant-loop-part l = map (λ child. child.now) l.found.items ++ children (drop l.part-index l.content) ≡ children l.content
