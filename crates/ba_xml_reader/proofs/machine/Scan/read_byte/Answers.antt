use Rattle.std.proofs.Common.{sym, ◌∙◌}
use Rattle.ba_xml_reader.proofs.PutOn.{first_byte}
use Rattle.ba_xml_reader.proofs.machine.Scan.read_byte.Goals as goal

pub returns-clause-read : goal.returns-clause-read
returns-clause-read c = first_byte c.args.self.now c.args.taken c.args.bytes.now c.requires ∙ sym c.in_ok-refusal.ensures
