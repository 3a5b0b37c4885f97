-- The texts so far and those that are left are those of all parts.
use Rattle.std.proofs.Common.{◌≡◌, ◌++◌, drop}
use Rattle.ba_soap_shapes.specs.Elements.{own_texts}
use Rattle.ba_soap_shapes.proofs.elements.own_texts.Given as goal

abbrev pub invariant-loop-part : goal.invariant-loop-part
invariant-loop-part l = l.texts ++ own_texts (drop l.part-index l.content) ≡ own_texts l.content
