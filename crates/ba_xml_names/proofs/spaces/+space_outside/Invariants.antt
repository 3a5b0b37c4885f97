use Rattle.std.proofs.Common.{length}
use Rattle.ba_xml_names.proofs.spaces.+space_outside.Given as goal

abbrev pub decreases-space_outside : goal.decreases-space_outside
decreases-space_outside l = length l.levels.now
