use Rattle.std.proofs.Common.{◌++◌, arith}
use Rattle.std.proofs.KnownBytes.{Consumes-trans}
use Rattle.std.proofs.lemmas.Grind.{common_steps}
use Rattle.ba_ports.proofs.inputs.read_by.Goals as goal

pub returns-in-Err-clause-bounded : goal.returns-in-Err-clause-bounded
returns-in-Err-clause-bounded g c =
    let few = c.in-Err.ensures.few in
    let small = few.2 in (
      c.reading.bytes ++ few.0,
      Consumes-trans (g.S.Source.left c.args.source.now) (g.S.Source.left c.reading.source)
          (g.S.Source.left c.read_block.new.source) c.reading.bytes few.0 c.reading.invariant.taken few.1,
      grind (arith, common_steps, small),
    )

pub returns-then-len-limit-clause-bounded : goal.returns-then-len-limit-clause-bounded
returns-then-len-limit-clause-bounded g c =
    let taken = c.in-Ok.ensures.taken in
    let size = taken.1 in
    let small = taken.2 in (
      c.reading.bytes ++ taken.0,
      Consumes-trans (g.S.Source.left c.args.source.now) (g.S.Source.left c.reading.source)
          (g.S.Source.left c.read_block.new.source) c.reading.bytes taken.0 c.reading.invariant.taken taken.4,
      grind (arith, common_steps, size, small),
    )
