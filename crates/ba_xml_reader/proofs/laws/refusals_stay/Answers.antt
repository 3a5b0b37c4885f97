use Rattle.std.proofs.Common.{ap, ◌∙◌}
use Rattle.ba_xml_reader.specs.inside.Machine.{answer_of, run, start}
use Rattle.ba_xml_reader.specs.inside.Readings.{Going}
use Rattle.ba_xml_reader.proofs.Kept.{stays}
use Rattle.ba_xml_reader.proofs.Runs.{run_append}
use Rattle.ba_xml_reader.proofs.laws.refusals_stay.Goals as goal

pub returns : goal.returns
returns c = λ front more reason place is other.
    ap answer_of (run_append (Going start 0) front more) ∙ stays (run (Going start 0) front) more reason place is other
