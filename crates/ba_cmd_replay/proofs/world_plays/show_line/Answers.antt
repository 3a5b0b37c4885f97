use Rattle.ba_world_events.specs.Outcomes.{summary_line}
use Rattle.ba_cmd_replay.proofs.Shown.{line_shown}
use Rattle.ba_cmd_replay.proofs.world_plays.show_line.Goals as goal

pub returns-in-Ok-clause-shown : goal.returns-in-Ok-clause-shown
returns-in-Ok-clause-shown g c =
    line_shown (g.K.Sink.written c.args.sink.now) (g.K.Sink.written c.let_out.new.sink) c.args.text.now (summary_line c.args.summary.now)
    c.show_summary.new.out c.let_out.new.text c.let_out.result c.in-Ok.ensures.ok c.let_out.ensures.goes c.let_out.ensures.broken
