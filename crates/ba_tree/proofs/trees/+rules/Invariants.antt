-- The parts so far keep the rules.
use Rattle.std.proofs.Common.{◌≡◌, true, take}
use Rattle.std.specs.List.{list_all}
use Rattle.ba_tree.specs.Trees.{is_fit_element, within}
use Rattle.ba_tree.proofs.trees.+rules.Given as goal

abbrev pub invariant-elements_are_fit-loop-part : goal.invariant-elements_are_fit-loop-part
invariant-elements_are_fit-loop-part l = list_all (λ c. list_all is_fit_element (within c).elements) (take l.part-index l.content) ≡ true
