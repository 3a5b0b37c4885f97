use Rattle.std.proofs.Common.{refl, ◌++◌, codes}
use Rattle.ba.specs.Notes.{counted_text}
use Rattle.ba.proofs.NoteLemmas.{err_after}
use Rattle.ba.proofs.notes.write_counts.Goals as goal

pub returns-clause-part : goal.returns-clause-part
returns-clause-part g c =
    let rest = counted_text c.args.other.now c.args.count ++ codes "\n" in
    err_after c.write_line.result
    (g.N.Sink.written c.args.notes.now) (g.N.Sink.written c.write_counted.new.notes) (g.N.Sink.written c.write_line.new.notes)
    (counted_text c.args.word.now c.args.number) rest rest refl
    c.in_ok-write_counted.ensures.all c.write_line.ensures.part
