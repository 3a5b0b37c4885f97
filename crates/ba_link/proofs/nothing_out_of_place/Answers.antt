use Rattle.ba_link.proofs.Kept.{part_in_place, end_in_place}
use Rattle.ba_link.proofs.nothing_out_of_place.Goals as goal

pub returns-clause-part : goal.returns-clause-part
returns-clause-part c = part_in_place

pub returns-clause-end : goal.returns-clause-end
returns-clause-end c = end_in_place
