use Rattle.std.proofs.Common.{◌≡◌, drop}
use Rattle.ba_pair.specs.PairPlay.{play}
use Rattle.ba_pair.specs.PairState.{starting_pair}
use Rattle.ba_cmd_replay.proofs.Breaks.{SoFar}
use Rattle.ba_cmd_replay.proofs.plays.play_pair.Given as goal

abbrev pub invariant-events : goal.invariant-events
invariant-events g l = record {
  so_far : SoFar (play (starting_pair l.fn.protocol) l.events) (g.K.Sink.written l.initial.sink) (g.K.Sink.written l.sink) l.text
      (play l.pair (drop l.number-index l.events));
  stayed : g.K.Sink.faults l.sink ≡ g.K.Sink.faults l.initial.sink;
}
