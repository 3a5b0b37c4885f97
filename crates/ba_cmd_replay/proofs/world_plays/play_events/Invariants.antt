use Rattle.std.proofs.Common.{◌≡◌, ◌∷◌, List, ℕ, drop}
use Rattle.ba_world_play.specs.Shows.{story}
use Rattle.ba_cmd_replay.proofs.Stories.{PlayedTo}
use Rattle.ba_cmd_replay.specs.inside.WorldPlays.{HoldsRest}
use Rattle.ba_cmd_replay.proofs.world_plays.play_events.Given as goal

abbrev pub invariant-events : goal.invariant-events
invariant-events g l = record {
  lines : List (List ℕ);
  played : PlayedTo (story l.nodes l.events) l.world lines (drop l.number-index l.events);
  shown : HoldsRest (l.initial.text ∷ lines) (g.K.Sink.written l.initial.sink) (g.K.Sink.written l.sink) l.text;
  stayed : g.K.Sink.faults l.sink ≡ g.K.Sink.faults l.initial.sink;
}
