use Rattle.std.proofs.Common.{◌≡◌, true, ◌∷◌}
use Rattle.ba_world_play.specs.Plays.{WorldOnDisks}
use Rattle.ba_world_play.specs.Shows.{summaries_at}
use Rattle.ba_world.specs.Worlds.{IsWorldOf, is_node_up}
use Rattle.ba_cmd_replay.proofs.Endings.{numbered}
use Rattle.ba_cmd_replay.specs.inside.WorldPlays.{HoldsRest}
use Rattle.ba_cmd_replay.proofs.world_plays.show_objects.Given as goal

abbrev pub invariant-counters : goal.invariant-counters
invariant-counters g l = record {
  shown : (p : WorldOnDisks) → IsWorldOf l.world p → is_node_up p l.node ≡ true
      → HoldsRest (l.initial.text ∷ numbered (summaries_at (p.world.nodes l.node).state) l.index) (g.K.Sink.written l.initial.sink)
      (g.K.Sink.written l.sink) l.text;
  stayed : g.K.Sink.faults l.sink ≡ g.K.Sink.faults l.initial.sink;
}
