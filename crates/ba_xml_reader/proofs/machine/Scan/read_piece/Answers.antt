use Rattle.std.proofs.Common.{◌≡◌, ◌+◌, take, subst, arith}
use Rattle.std.specs.Prelude.{IfOk}
use Rattle.ba_xml_reader.specs.inside.Machine.{run, reading_at}
use Rattle.ba_xml_reader.specs.inside.Readings.{Going}
use Rattle.ba_xml_reader.proofs.machine.Scan.read_piece.Goals as goal

pub returns-then-count-eq0-clause-read : goal.returns-then-count-eq0-clause-read
returns-then-count-eq0-clause-read c =
    subst (λ scan. IfOk c.read_byte.result (λ taking. run (Going scan c.args.taken) (take taking.count c.args.bytes.now)
    ≡ reading_at c.read_byte.new.self (c.args.taken + taking.count) taking.refusal))
    (c.in_ok-count.ensures.none c.if-count-eq0.true) c.read_byte.ensures.read

pub returns-clause-read : goal.returns-clause-read
returns-clause-read c = c.in_ok-count.ensures.read (omega (arith, c.if-count-eq0.false))
