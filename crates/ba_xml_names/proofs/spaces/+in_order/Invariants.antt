use Rattle.std.proofs.Common.{length}
use Rattle.std.specs.Vec.Iter.{into_iter_items}
use Rattle.ba_xml_names.proofs.spaces.+in_order.Given as goal

abbrev pub decreases-in_order : goal.decreases-in_order
decreases-in_order l = length (into_iter_items l.raws)
