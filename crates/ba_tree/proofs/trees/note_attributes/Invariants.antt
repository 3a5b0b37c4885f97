-- What is noted so far and the attributes that are left lead to the same row as all attributes.
use Rattle.std.proofs.Common.{◌≡◌, drop, map}
use Rattle.ba_tree.specs.Spaces.{all_noted}
use Rattle.ba_tree.proofs.trees.note_attributes.Given as goal

abbrev pub invariant-loop-attribute : goal.invariant-loop-attribute
invariant-loop-attribute l = all_noted l.most l.fn.spaces (map (λ a. a.name.space) l.attributes)
    ≡ all_noted l.most l.noted (map (λ a. a.name.space) (drop l.attribute-index l.attributes))
