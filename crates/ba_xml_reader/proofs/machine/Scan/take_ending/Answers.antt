use Rattle.std.proofs.Common.{arith}
use Rattle.ba_xml_reader.proofs.WholeEndings.{ending_put}
use Rattle.ba_xml_reader.proofs.machine.Scan.take_ending.Goals as goal

pub returns-clause-read : goal.returns-clause-read
returns-clause-read c _ =
    ending_put c.args.self.now c.put_ending.new.self c.args.bytes.now c.in-Some.name c.args.taken c.in-Some.ensures.text
    c.in-Some.ensures.ending (omega (arith, c.in-Some.ensures.most, c.requires)) c.in_ok-put_ending.ensures
