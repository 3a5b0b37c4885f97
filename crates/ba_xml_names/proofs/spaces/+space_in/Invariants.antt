use Rattle.std.proofs.Common.{length}
use Rattle.ba_xml_names.proofs.spaces.+space_in.Given as goal

abbrev pub decreases-space_in : goal.decreases-space_in
decreases-space_in l = length l.declarations.now
