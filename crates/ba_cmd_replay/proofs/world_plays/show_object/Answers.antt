use Rattle.std.proofs.Common.{[], ◌∷◌, Option, subst}
use Rattle.ba_world_events.specs.Outcomes.{summary_line}
use Rattle.ba_world_events.specs.declared.summaries.Summary.{Summary}
use Rattle.ba_node_steps.specs.declared.answers.Seen.{Seen}
use Rattle.ba_cmd_replay.specs.inside.WorldPlays.{AreLinesShown, object_lines}
use Rattle.ba_cmd_replay.proofs.world_plays.show_object.Goals as goal

pub returns-in-Some-clause-shown : goal.returns-in-Some-clause-shown
returns-in-Some-clause-shown g c p is =
    let before = g.K.Sink.written c.args.sink.now in
    let now = g.K.Sink.written c.show_line.new.sink in
    let text = c.args.text.now in
    subst (λ (s : Option Seen). AreLinesShown (text ∷ object_lines c.args.id s) before now c.show_line.new.text c.show_line.result)
    (c.in-Some.ensures p is)
    (subst (λ (s : Summary). AreLinesShown (text ∷ summary_line s ∷ []) before now c.show_line.new.text c.show_line.result)
    c.object_summary.ensures c.show_line.ensures.shown)
