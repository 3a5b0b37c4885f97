use Rattle.std.proofs.Common.{◌≡◌, ◌∷◌}
use Rattle.ba_world_play.specs.Plays.{WorldOnDisks}
use Rattle.ba_world_play.specs.Shows.{node_summaries}
use Rattle.ba_world.specs.Worlds.{IsWorldOf}
use Rattle.ba_cmd_replay.proofs.Endings.{numbered}
use Rattle.ba_cmd_replay.specs.inside.WorldPlays.{HoldsRest}
use Rattle.ba_cmd_replay.proofs.world_plays.show_ending.Given as goal

abbrev pub invariant-nodes : goal.invariant-nodes
invariant-nodes g l = record {
  shown : (p : WorldOnDisks) → IsWorldOf l.world p → p.count ≡ l.nodes
      → HoldsRest (l.initial.text ∷ numbered (node_summaries p.world) l.index) (g.K.Sink.written l.initial.sink) (g.K.Sink.written l.sink)
      l.text;
  stayed : g.K.Sink.faults l.sink ≡ g.K.Sink.faults l.initial.sink;
}
