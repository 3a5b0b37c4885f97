use Rattle.std.proofs.Common.{◌+◌, ◌-◌, take, drop, length, refl, ap, arith}
use Rattle.ba_xml_reader.proofs.Runs.{from_there}
use Rattle.ba_xml_reader.proofs.WholePairs.{pair_put}
use Rattle.ba_xml_reader.proofs.machine.Scan.take_pair.Goals as goal

pub returns-clause-read : goal.returns-clause-read
returns-clause-read c _ =
    pair_put c.args.self.now c.put_pair.new.self c.args.bytes.now (take c.in-Some.field-0.name c.args.bytes.now)
    (take c.in-Some.field-0.value (take (length c.args.bytes.now - (c.in-Some.field-0.name + 2))
    (drop (c.in-Some.field-0.name + 2) c.args.bytes.now)))
    c.in-Some.field-0 c.args.taken c.in-Some.ensures.room c.in-Some.ensures.pair (omega (arith, c.in-Some.ensures.most, c.requires)) refl
    (ap (λ xs. take c.in-Some.field-0.value xs) (from_there (c.in-Some.field-0.name + 2) c.args.bytes.now)) c.in_ok-put_pair.ensures
