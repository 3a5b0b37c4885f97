use Rattle.std.proofs.Common.{length}
use Rattle.ba_xml_names.proofs.spaces.+declared.Given as goal

abbrev pub decreases-declared : goal.decreases-declared
decreases-declared l = length l.attributes.now
