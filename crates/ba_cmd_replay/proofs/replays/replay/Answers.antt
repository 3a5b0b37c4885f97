use Rattle.ba_cmd_replay.proofs.Promised.{broken_play, broken_story, none_handed_out, unread_script, whole_play, whole_story}
use Rattle.ba_world_play.specs.Shows.{story}
use Rattle.ba_cmd_replay.proofs.replays.replay.Goals as goal

pub returns-in-Ok-clause-done : goal.returns-in-Ok-clause-done
returns-in-Ok-clause-done g c =
    let script = rw c.in-Ok-Pair.field-0-is at c.in-Ok-Pair.ensures.script in
    let whole = rw c.as_slice.ensures at c.in-Ok.ensures.whole in
    let written = rw c.as_slice.ensures at c.in-Ok.ensures.written in
    whole_play (g.S.Source.left c.args.source.now) c.in-Ok-Pair.protocol c.in-Ok-Pair.events (g.K.Sink.written c.args.sink.now)
    (g.K.Sink.written c.play_pair.new.sink) script whole written

pub returns-in-Ok-Pair-clause-stops : goal.returns-in-Ok-Pair-clause-stops
returns-in-Ok-Pair-clause-stops g c =
    let script = rw c.in-Ok-Pair.field-0-is at c.in-Ok-Pair.ensures.script in
    let broken = rw c.as_slice.ensures at c.in-Err-play_pair.ensures.broken in
    rw c.unplayed_fault.ensures (broken_play (g.S.Source.left c.args.source.now) (g.S.Source.left c.read_script.new.source)
    c.in-Ok-Pair.protocol c.in-Ok-Pair.events
    (g.K.Sink.written c.args.sink.now) (g.K.Sink.written c.play_pair.new.sink) c.in-Err-play_pair.fault script broken)

pub returns-clause-stops : goal.returns-clause-stops
returns-clause-stops g c =
    rw c.unread_fault.ensures (unread_script (g.S.Source.left c.args.source.now) (g.S.Source.left c.read_script.new.source)
    (g.K.Sink.written c.args.sink.now) c.in-Err.fault
    c.in-Err.ensures.fault c.in-Err.ensures.reads)

pub returns-in-Ok-play_world-clause-done : goal.returns-in-Ok-play_world-clause-done
returns-in-Ok-play_world-clause-done g c =
    let script = rw c.in-Ok-World.field-0-is at c.in-Ok-World.ensures.script in
    let whole = rw c.as_slice-in-Ok-World.ensures at c.in-Ok-play_world.ensures.whole in
    let written = rw c.as_slice-in-Ok-World.ensures at c.in-Ok-play_world.ensures.written in
    whole_story (g.S.Source.left c.args.source.now) c.in-Ok-World.nodes c.in-Ok-World.events (g.K.Sink.written c.args.sink.now)
    (g.K.Sink.written c.play_world.new.sink) script whole written

pub returns-in-Ok-World-clause-stops : goal.returns-in-Ok-World-clause-stops
returns-in-Ok-World-clause-stops g c =
    let script = rw c.in-Ok-World.field-0-is at c.in-Ok-World.ensures.script in
    let broken = rw c.as_slice-in-Ok-World.ensures at c.in-Err-play_world.ensures.broken in
    rw c.unplayed_fault-in-Err-play_world.ensures (broken_story (g.S.Source.left c.args.source.now) (g.S.Source.left
    c.read_script.new.source)
    c.in-Ok-World.nodes c.in-Ok-World.events
    (g.K.Sink.written c.args.sink.now) (g.K.Sink.written c.play_world.new.sink) c.in-Err-play_world.fault script broken)

pub returns-in-Ok-World-clause-none : goal.returns-in-Ok-World-clause-none
returns-in-Ok-World-clause-none g c =
    let handed = rw c.as_slice-in-Ok-World.ensures at c.in-Err-play_world.ensures.handed in
    rw c.unplayed_fault-in-Err-play_world.ensures (none_handed_out (story c.in-Ok-World.nodes c.in-Ok-World.events).last c.args.disks.now
    c.play_world.new.disks c.in-Err-play_world.fault handed c.requires)
