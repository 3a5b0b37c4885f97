use Rattle.std.proofs.Common.{◌+◌, refl, subst, rules, drop, get_or, ◌∙◌}
use Rattle.std.proofs.KnownBytes.{Appends-nil}
use Rattle.ba_core.specs.declared.notices.Act.TheVariants as act
use Rattle.ba_pair.specs.PairPlay.{Numbered, happens, play}
use Rattle.ba_pair.specs.PairState.{starting_pair}
use Rattle.ba_pair.specs.declared.events.PairEvent.TheVariants as event
use Rattle.ba_cmd_replay.proofs.Breaks.{SoFar, plays_on, breaks_off, breaks_at_end, ends_whole, no_write_fault, none_so_far, play_at, play_past}
use Rattle.ba_cmd_replay.proofs.plays.play_pair.Goals as goal

pub returns-in_default-clause-broken : goal.returns-in_default-clause-broken
returns-in_default-clause-broken g c = (0, Appends-nil _)

pub returns-in-Err-clause-broken : goal.returns-in-Err-clause-broken
returns-in-Err-clause-broken g c =
    let none : Numbered = (0, event.Act act.Completed) in
    let events = c.args.events.now in
    let at = c.events.number-index in
    let e = get_or events at none in
    let whole = play (starting_pair c.args.protocol) events in
    let before = g.K.Sink.written c.args.sink.now in
    let now = g.K.Sink.written c.events.sink in
    breaks_off whole c.events.pair e (λ next. play next (drop (at + 1) events)) (happens c.events.pair e.1)
    c.events.text before now (g.K.Sink.written c.play_event.new.sink) c.in-Err.fault
    (subst (SoFar whole before now c.events.text) (play_at c.events.pair events at none c.events-test.true) c.events.invariant.so_far)
    c.in-Err.ensures.broken

pub events-init : goal.events-init
events-init g c = record {
  so_far = none_so_far _ _ _ _ (search rules) (search rules);
  stayed = refl;
}

pub events-preserved : goal.events-preserved
events-preserved g c =
    let none : Numbered = (0, event.Act act.Completed) in
    let events = c.args.events.now in
    let at = c.events.number-index in
    let e = get_or events at none in
    let whole = play (starting_pair c.args.protocol) events in
    let before = g.K.Sink.written c.args.sink.now in
    let now = g.K.Sink.written c.events.sink in
    let played = c.in_default-play_event.ensures.played in
    record {
      so_far = plays_on whole c.events.pair c.play_event.new.pair e (λ next. play next (drop (at + 1) events)) (happens c.events.pair e.1)
          played.0 c.events.text c.play_event.new.text before now (g.K.Sink.written c.play_event.new.sink)
          (subst (SoFar whole before now c.events.text) (play_at c.events.pair events at none c.events-test.true) c.events.invariant.so_far)
          played.1 played.2;
      stayed = c.in_default-play_event.ensures.stayed (no_write_fault _) ∙ c.events.invariant.stayed;
    }

pub returns-in-Ok-write_all-clause-written : goal.returns-in-Ok-write_all-clause-written
returns-in-Ok-write_all-clause-written g c =
    let events = c.args.events.now in
    let whole = play (starting_pair c.args.protocol) events in
    let before = g.K.Sink.written c.args.sink.now in
    let now = g.K.Sink.written c.events.sink in
    ends_whole whole c.events.pair c.events.text before now (g.K.Sink.written c.write_all.new.sink)
    (subst (SoFar whole before now c.events.text)
    (play_past c.events.pair events c.events.number-index c.events-test.false) c.events.invariant.so_far)
    (rw c.as_slice.ensures at c.in-Ok-write_all.ensures.all)

pub returns-clause-broken : goal.returns-clause-broken
returns-clause-broken g c =
    let events = c.args.events.now in
    let whole = play (starting_pair c.args.protocol) events in
    let before = g.K.Sink.written c.args.sink.now in
    let now = g.K.Sink.written c.events.sink in
    breaks_at_end whole c.events.pair c.events.text before now (g.K.Sink.written c.write_all.new.sink)
    (subst (SoFar whole before now c.events.text)
    (play_past c.events.pair events c.events.number-index c.events-test.false) c.events.invariant.so_far)
    (rw c.as_slice.ensures at c.in-Err-write_all.ensures.part)
