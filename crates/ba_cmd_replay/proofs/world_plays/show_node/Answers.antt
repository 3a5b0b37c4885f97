use Rattle.std.proofs.Common.{◌∷◌, List, sym, ◌∙◌, subst, map}
use Rattle.ba_world_events.specs.Outcomes.{summary_line}
use Rattle.ba_world_events.specs.declared.summaries.Summary.{Summary}
use Rattle.ba_cmd_replay.proofs.Endings.{node_down, node_up}
use Rattle.ba_cmd_replay.specs.inside.WorldPlays.{AreLinesShown}
use Rattle.ba_cmd_replay.proofs.world_plays.show_node.Goals as goal

pub returns-then-not-up-clause-shown : goal.returns-then-not-up-clause-shown
returns-then-not-up-clause-shown g c p is has =
    let down = node_down p c.args.node has (sym (c.up.ensures p is) ∙ c.if-not-up.true) in
    subst (λ (ss : List Summary). AreLinesShown (c.args.text.now ∷ map summary_line ss) (g.K.Sink.written c.args.sink.now)
    (g.K.Sink.written c.show_line.new.sink) c.show_line.new.text c.show_line.result) (sym down) c.show_line.ensures.shown

pub returns-clause-shown : goal.returns-clause-shown
returns-clause-shown g c p is has =
    let up = sym (c.up.ensures p is) ∙ c.if-not-up.false in
    subst (λ (ss : List Summary). AreLinesShown (c.args.text.now ∷ map summary_line ss) (g.K.Sink.written c.args.sink.now)
    (g.K.Sink.written c.show_objects.new.sink) c.show_objects.new.text c.show_objects.result) (sym (node_up p c.args.node has up))
    (c.show_objects.ensures.shown p is up)
