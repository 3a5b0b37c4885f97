use Rattle.std.proofs.Common.{◌∷◌}
use Rattle.ba_world_play.specs.Shows.{ending_lines, story}
use Rattle.ba_cmd_replay.proofs.Counts.{story_count}
use Rattle.ba_cmd_replay.proofs.WholeStories.{answered, disks_lost, end_broken, end_written, events_broken, none_handed}
use Rattle.ba_cmd_replay.specs.inside.WorldPlays.{halt_told}
use Rattle.ba_cmd_replay.proofs.world_plays.play_world.Goals as goal

pub returns-in-Err-clause-broken : goal.returns-in-Err-clause-broken
returns-in-Err-clause-broken g c =
    events_broken (Unit {0}) (story c.args.nodes c.args.events.now) (g.K.Sink.written c.args.sink.now) (g.K.Sink.written
    c.play_events.new.sink)
    c.play_events.new.text c.new-text.result c.in-Err.fault c.new-text.ensures c.in-Err.ensures.shown

pub returns-in-Err-write_end-clause-broken : goal.returns-in-Err-write_end-clause-broken
returns-in-Err-write_end-clause-broken g c =
    let s = story c.args.nodes c.args.events.now in
    end_broken s (halt_told c.in-Ok.played.halt) (g.K.Sink.written c.args.sink.now) (g.K.Sink.written c.play_events.new.sink)
    (g.K.Sink.written c.write_end.new.sink) c.new-text.result c.play_events.new.text c.in-Err-write_end.fault c.new-text.ensures
    c.in-Ok.ensures.led.halt c.in-Ok.ensures.shown
    (c.in-Err-write_end.ensures.written s.last c.in-Ok.ensures.led.is (story_count c.args.nodes c.args.events.now))

pub returns-in-Err-write_end-clause-handed : goal.returns-in-Err-write_end-clause-handed
returns-in-Err-write_end-clause-handed g c =
    let s = story c.args.nodes c.args.events.now in
    none_handed s.last c.args.disks.now (c.play_events.new.text ∷ ending_lines s.last (halt_told c.in-Ok.played.halt))
    (g.K.Sink.written c.play_events.new.sink) (g.K.Sink.written c.write_end.new.sink) c.in-Err-write_end.fault
    (c.in-Err-write_end.ensures.written s.last c.in-Ok.ensures.led.is (story_count c.args.nodes c.args.events.now))

pub returns-in-Ok-into_disks-clause-written : goal.returns-in-Ok-into_disks-clause-written
returns-in-Ok-into_disks-clause-written g c =
    let s = story c.args.nodes c.args.events.now in
    let before = g.K.Sink.written c.args.sink.now in
    let now = g.K.Sink.written c.write_end.new.sink in
    let written = end_written s (halt_told c.in-Ok.played.halt) before (g.K.Sink.written c.play_events.new.sink) now
    c.new-text.result c.play_events.new.text c.new-text.ensures c.in-Ok.ensures.led.halt c.in-Ok.ensures.shown
    (c.in_default.ensures.written s.last c.in-Ok.ensures.led.is (story_count c.args.nodes c.args.events.now)) in
    (answered s c.in-Ok.played.halt before now c.args.disks.now c.in-Ok-into_disks.left c.halted.result c.halted.ensures
    c.in-Ok.ensures.led.halt written (c.in-Ok-into_disks.ensures s.last c.in-Ok.ensures.led.is)).written

pub returns-in-Ok-into_disks-clause-broken : goal.returns-in-Ok-into_disks-clause-broken
returns-in-Ok-into_disks-clause-broken g c =
    let s = story c.args.nodes c.args.events.now in
    let before = g.K.Sink.written c.args.sink.now in
    let now = g.K.Sink.written c.write_end.new.sink in
    let written = end_written s (halt_told c.in-Ok.played.halt) before (g.K.Sink.written c.play_events.new.sink) now
    c.new-text.result c.play_events.new.text c.new-text.ensures c.in-Ok.ensures.led.halt c.in-Ok.ensures.shown
    (c.in_default.ensures.written s.last c.in-Ok.ensures.led.is (story_count c.args.nodes c.args.events.now)) in
    (answered s c.in-Ok.played.halt before now c.args.disks.now c.in-Ok-into_disks.left c.halted.result c.halted.ensures
    c.in-Ok.ensures.led.halt written (c.in-Ok-into_disks.ensures s.last c.in-Ok.ensures.led.is)).broken

pub returns-clause-broken : goal.returns-clause-broken
returns-clause-broken g c =
    let s = story c.args.nodes c.args.events.now in
    let before = g.K.Sink.written c.args.sink.now in
    let now = g.K.Sink.written c.write_end.new.sink in
    disks_lost s before now
    (end_written s (halt_told c.in-Ok.played.halt) before (g.K.Sink.written c.play_events.new.sink) now
    c.new-text.result c.play_events.new.text c.new-text.ensures c.in-Ok.ensures.led.halt c.in-Ok.ensures.shown
    (c.in_default.ensures.written s.last c.in-Ok.ensures.led.is (story_count c.args.nodes c.args.events.now)))
