use Rattle.std.proofs.Common.{decimal, ◌∙◌}
use Rattle.ba.proofs.NoteLemmas.{err_after}
use Rattle.ba.proofs.notes.write_counted.Goals as goal

pub returns-clause-part : goal.returns-clause-part
returns-clause-part g c =
    err_after c.write_all-2.result
    (g.N.Sink.written c.args.notes.now) (g.N.Sink.written c.write_all.new.sink) (g.N.Sink.written c.write_all-2.new.sink)
    c.args.word.now c.as_bytes.result.now (decimal c.args.number) (c.as_bytes.ensures.value ∙ c.format.ensures.text)
    c.in_ok-write_all.ensures.all c.write_all-2.ensures.part
