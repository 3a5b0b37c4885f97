use Rattle.std.proofs.Common.{rules}
use Rattle.ba_pair.specs.PairPlay.{happens}
use Rattle.ba_cmd_replay.proofs.Breaks.{part_with_line}
use Rattle.ba_cmd_replay.proofs.plays.play_event.Goals as goal

pub returns-in-Err-clause-broken : goal.returns-in-Err-clause-broken
returns-in-Err-clause-broken g c =
    part_with_line (happens c.args.pair.now c.args.event.now) c.step.new.self c.in-Ok.line c.args.number c.args.text.now c.show.new.out
    (g.K.Sink.written c.args.sink.now) (g.K.Sink.written c.write_full.new.sink) c.in-Ok.ensures.step (search rules) c.in-Err.ensures.part
