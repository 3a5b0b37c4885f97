use Rattle.std.proofs.Common.{◌∷◌, [], ℕ, Option, Err, map, subst, sym}
use Rattle.ba_world_events.specs.Outcomes.{summary_line}
use Rattle.ba_world_play.specs.Shows.{ending_lines, summaries}
use Rattle.ba_world_play.specs.declared.missing.Missing.{Missing}
use Rattle.ba_cmd_replay.proofs.Shown.{broken_written, held_start, rest_written}
use Rattle.ba_cmd_replay.specs.inside.WorldPlays.{AreLinesWritten, halt_told}
use Rattle.ba_cmd_replay.proofs.world_plays.write_end.Goals as goal

pub returns-in-Ok-clause-written : goal.returns-in-Ok-clause-written
returns-in-Ok-clause-written g c p is count =
    subst (λ (h : Option (ℕ × Missing)). AreLinesWritten (c.args.text.now ∷ ending_lines p (halt_told h)) (g.K.Sink.written c.args.sink.now)
    (g.K.Sink.written c.write_rest.new.sink) c.write_rest.result) (sym c.in-None.is)
    (rest_written (c.args.text.now ∷ map summary_line (summaries p)) (g.K.Sink.written c.args.sink.now)
    (g.K.Sink.written c.show_ending.new.sink) (g.K.Sink.written c.write_rest.new.sink) c.show_ending.new.text c.write_rest.result
    (c.in-Ok.ensures.shown p is count) c.write_rest.ensures.written c.write_rest.ensures.broken)

pub returns-in-Err-clause-written : goal.returns-in-Err-clause-written
returns-in-Err-clause-written g c p is count =
    subst (λ (h : Option (ℕ × Missing)). AreLinesWritten {A = Unit {0}} (c.args.text.now ∷ ending_lines p (halt_told h))
    (g.K.Sink.written c.args.sink.now) (g.K.Sink.written c.show_ending.new.sink) (Err c.in-Err.fault)) (sym c.in-None.is)
    (broken_written (Unit {0}) (Unit {0}) (c.args.text.now ∷ map summary_line (summaries p)) (g.K.Sink.written c.args.sink.now)
    (g.K.Sink.written c.show_ending.new.sink) c.show_ending.new.text c.in-Err.fault (c.in-Err.ensures.shown p is count))

pub returns-in-Some-clause-written : goal.returns-in-Some-clause-written
returns-in-Some-clause-written g c p is count =
    let before = g.K.Sink.written c.args.sink.now in
    subst (λ (h : Option (ℕ × Missing)). AreLinesWritten (c.args.text.now ∷ ending_lines p (halt_told h)) before
    (g.K.Sink.written c.write_rest-in-Some.new.sink) c.write_rest-in-Some.result) (sym c.in-Some.is)
    (rest_written (c.args.text.now ∷ []) before before (g.K.Sink.written c.write_rest-in-Some.new.sink) c.args.text.now
    c.write_rest-in-Some.result (held_start before c.args.text.now) c.write_rest-in-Some.ensures.written
    c.write_rest-in-Some.ensures.broken)
