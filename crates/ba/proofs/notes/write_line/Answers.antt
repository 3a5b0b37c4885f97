use Rattle.std.proofs.Common.{refl}
use Rattle.ba.specs.Notes.{counted_text}
use Rattle.ba.proofs.NoteLemmas.{err_after}
use Rattle.ba.proofs.notes.write_line.Goals as goal

pub returns-clause-part : goal.returns-clause-part
returns-clause-part g c =
    err_after c.write_all.result
    (g.N.Sink.written c.args.notes.now) (g.N.Sink.written c.write_counted.new.notes) (g.N.Sink.written c.write_all.new.sink)
    (counted_text c.args.word.now c.args.number) c.args.end.now c.args.end.now refl
    c.in_ok-write_counted.ensures.all c.write_all.ensures.part
