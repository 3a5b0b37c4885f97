use Rattle.std.proofs.Common.{arith}
use Rattle.ba_xml_reader.proofs.WholeEmpties.{empty_put}
use Rattle.ba_xml_reader.proofs.machine.Scan.read_slash.Goals as goal

pub returns-clause-read : goal.returns-clause-read
returns-clause-read c =
    empty_put c.args.self.now c.put_empty.new.self c.args.bytes.now c.in_ok-refusal.refusal c.in-Some.count c.args.taken
    c.in-Some.ensures.tag c.in-Some.ensures.count c.in-Some.ensures.front (omega (arith, c.in-Some.ensures.most, c.requires.most))
    c.in_ok-refusal.ensures
