use Rattle.std.proofs.Common.{ap, sym, ◌∙◌}
use Rattle.ba_record.specs.Coding.{coding}
use Rattle.ba_record.specs.Rooms.{filled}
use Rattle.ba_record.specs.declared.records.Record.{Record}
use Rattle.ba_record.proofs.writer.put_record.Goals as goal

pub returns-in-Enrolled : goal.returns-in-Enrolled
returns-in-Enrolled c = c.put_enrolled.ensures ∙ ap (λ (x : Record). filled c.args.out.now (coding x)) (sym c.in-Enrolled.is)
