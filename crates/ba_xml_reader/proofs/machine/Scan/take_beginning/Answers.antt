use Rattle.std.proofs.Common.{◌-◌, take, drop, length, ap, arith}
use Rattle.ba_xml_reader.proofs.Runs.{from_there}
use Rattle.ba_xml_reader.proofs.WholeBeginnings.{beginning_put}
use Rattle.ba_xml_reader.proofs.machine.Scan.take_beginning.Goals as goal

pub returns-clause-read : goal.returns-clause-read
returns-clause-read c _ =
    beginning_put c.args.self.now c.put_beginning.new.self c.args.bytes.now
    (take c.in-Some.name (take (length c.args.bytes.now - 1) (drop 1 c.args.bytes.now))) c.in-Some.name c.args.taken c.in-Some.ensures.text
    c.in-Some.ensures.level c.in-Some.ensures.beginning (omega (arith, c.in-Some.ensures.most, c.requires))
    (ap (λ xs. take c.in-Some.name xs) (from_there 1 c.args.bytes.now)) c.in_ok-put_beginning.ensures
