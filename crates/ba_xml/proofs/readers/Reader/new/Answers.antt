use Rattle.std.proofs.Common.{ap, sym, ◌∙◌}
use Rattle.ba_xml_reader.proofs.Runs.{run_none}
use Rattle.ba_xml_reader.specs.inside.Machine.{start}
use Rattle.ba_xml_reader.specs.inside.Readings.{Going}
use Rattle.ba_xml.proofs.readers.Reader.new.Goals as goal

pub returns : goal.returns
returns c = run_none (Going start 0) ∙ ap (λ scan. Going scan 0) (sym c.in_ok-scan.ensures)
