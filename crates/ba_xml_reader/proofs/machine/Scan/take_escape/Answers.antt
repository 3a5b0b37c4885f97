use Rattle.std.proofs.Common.{arith, ap, length}
use Rattle.ba_xml_reader.proofs.WholeEscapes.{escape_put}
use Rattle.ba_xml_reader.proofs.machine.Scan.take_escape.Goals as goal

pub returns-clause-read : goal.returns-clause-read
returns-clause-read c _ =
    escape_put c.args.self.now c.put_meant.new.self c.args.bytes.now c.in-Some.escape c.byte.result
    (length c.as_slice.result.now) c.args.taken
    c.in-Some.ensures.text c.in-Some.ensures.front (omega (arith, c.in-Some.ensures.most, c.requires))
    (ap length c.as_slice.ensures) c.byte.ensures
    c.in_ok-put_meant.ensures
