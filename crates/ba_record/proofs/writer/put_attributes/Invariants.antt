use Rattle.std.proofs.Common.{◌≡◌, map, drop}
use Rattle.ba_tree.specs.Trees.{joined}
use Rattle.ba_record.specs.Coding.{attribute_coding}
use Rattle.ba_record.specs.Rooms.{filled}
use Rattle.ba_record.proofs.writer.put_attributes.Given as goal

abbrev pub invariant-loop-attribute : goal.invariant-loop-attribute
invariant-loop-attribute l = filled l.out (joined (map attribute_coding (drop l.attribute-index l.attributes))) ≡ filled l.initial.out
    (joined (map attribute_coding l.attributes))
