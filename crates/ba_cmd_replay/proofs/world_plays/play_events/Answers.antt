use Rattle.std.proofs.Common.{◌+◌, ◌++◌, ◌∷◌, [], ℕ, List, Err, None, refl, subst, sym, map, drop, get_or, ◌∙◌}
use Rattle.std.proofs.lemmas.List.{drop_all}
use Rattle.ba_core.specs.declared.protocols.Kind.TheVariants.{Atomic}
use Rattle.ba_world_events.specs.Events.{NumberedEvent}
use Rattle.ba_world_events.specs.declared.events.Event.TheVariants as event
use Rattle.ba_world_play.specs.Shows.{event_line, story, story_from}
use Rattle.ba_cmd_replay.proofs.Breaks.{no_write_fault}
use Rattle.ba_cmd_replay.proofs.Shown.{broken_at, held_start, shown_more}
use Rattle.ba_cmd_replay.proofs.Stories.{PlayedTo, all_played, all_shown, events_at, left_led, left_shown, none_played, plays_on}
use Rattle.ba_cmd_replay.specs.declared.world_plays.Played.{Played}
use Rattle.ba_cmd_replay.specs.inside.WorldPlays.{HoldsRest, AreLinesShown}
use Rattle.ba_cmd_replay.proofs.world_plays.play_events.Goals as goal

-- what stands past the last event
past : NumberedEvent
past = (0, event.Create 0 Atomic None None)

pub events-init : goal.events-init
events-init g c = record {
  lines = [];
  played = none_played c.in-Ok.world c.args.nodes c.args.events.now c.in-Ok.ensures;
  shown = held_start (g.K.Sink.written c.args.sink.now) c.args.text.now;
  stayed = refl;
}

pub returns-in-Err-show_event-clause-shown : goal.returns-in-Err-show_event-clause-shown
unfolding past
returns-in-Err-show_event-clause-shown g c =
    let events = c.args.events.now in
    let at : ℕ = c.events.number-index in
    let e = get_or events at past in
    let whole = story c.args.nodes events in
    let now = g.K.Sink.written c.events.sink in
    let new = g.K.Sink.written c.show_event.new.sink in
    let line = event_line (e.0, c.in-Ok-step.outcome) in
    let lines = c.events.invariant.lines in
    let so_far = subst (PlayedTo whole c.events.world lines) (events_at events at past c.events-test.true) c.events.invariant.played in
    let next = plays_on whole c.events.world c.step.new.self lines e (drop (at + 1) events) c.in-Ok-step.outcome so_far
    c.in-Ok-step.ensures.play in
    let rest = map event_line (story_from next.before next.now (drop (at + 1) events)).lines in
    subst (λ (ls : List (List ℕ)). AreLinesShown {A = Played} (c.args.text.now ∷ ls) (g.K.Sink.written c.args.sink.now) new
    c.show_event.new.text
    (Err c.in-Err-show_event.fault)) (sym next.shown)
    (broken_at (Unit {0}) Played (c.args.text.now ∷ lines) (line ∷ []) rest (g.K.Sink.written c.args.sink.now) now new
    c.events.text c.show_event.new.text c.show_event.new.text c.in-Err-show_event.fault c.events.invariant.shown
    c.in-Err-show_event.ensures.shown)

pub events-preserved : goal.events-preserved
unfolding past
events-preserved g c =
    let events = c.args.events.now in
    let at : ℕ = c.events.number-index in
    let e = get_or events at past in
    let whole = story c.args.nodes events in
    let line = event_line (e.0, c.in-Ok-step.outcome) in
    let lines = c.events.invariant.lines in
    let so_far = subst (PlayedTo whole c.events.world lines) (events_at events at past c.events-test.true) c.events.invariant.played in
    record {
      lines = lines ++ line ∷ [];
      played = plays_on whole c.events.world c.step.new.self lines e (drop (at + 1) events) c.in-Ok-step.outcome so_far
          c.in-Ok-step.ensures.play;
      shown = shown_more (c.args.text.now ∷ lines) (line ∷ []) (g.K.Sink.written c.args.sink.now) (g.K.Sink.written c.events.sink)
          (g.K.Sink.written c.show_event.new.sink) c.events.text c.show_event.new.text c.events.invariant.shown
          c.in_default-show_event.ensures.shown;
      stayed = c.in_default-show_event.ensures.stayed (no_write_fault _) ∙ c.events.invariant.stayed;
    }

pub returns-in-Err-clause-led : goal.returns-in-Err-clause-led
unfolding past
returns-in-Err-clause-led g c =
    let events = c.args.events.now in
    let at : ℕ = c.events.number-index in
    let e = get_or events at past in
    let whole = story c.args.nodes events in
    let lines = c.events.invariant.lines in
    let so_far = subst (PlayedTo whole c.events.world lines) (events_at events at past c.events-test.true) c.events.invariant.played in
    left_led whole c.events.world c.step.new.self lines e (drop (at + 1) events) c.in-Err.fault c.left_at.result so_far
    c.in-Err.ensures.play
    c.left_at.ensures

pub returns-in-Err-clause-shown : goal.returns-in-Err-clause-shown
unfolding past
returns-in-Err-clause-shown g c =
    let events = c.args.events.now in
    let at : ℕ = c.events.number-index in
    let e = get_or events at past in
    let whole = story c.args.nodes events in
    let lines = c.events.invariant.lines in
    let so_far = subst (PlayedTo whole c.events.world lines) (events_at events at past c.events-test.true) c.events.invariant.played in
    left_shown whole c.events.world c.step.new.self lines e (drop (at + 1) events) c.in-Err.fault c.left_at.result c.args.text.now
    c.events.text
    (g.K.Sink.written c.args.sink.now) (g.K.Sink.written c.events.sink) so_far c.in-Err.ensures.play c.left_at.ensures
    c.events.invariant.shown

pub returns-clause-led : goal.returns-clause-led
returns-clause-led g c =
    let events = c.args.events.now in
    all_played (story c.args.nodes events) c.events.world c.events.invariant.lines
    (subst (PlayedTo (story c.args.nodes events) c.events.world c.events.invariant.lines)
    (drop_all c.events.number-index events c.events-test.false) c.events.invariant.played)

pub returns-clause-shown : goal.returns-clause-shown
returns-clause-shown g c =
    let events = c.args.events.now in
    let whole = story c.args.nodes events in
    let same = all_shown whole c.events.world c.events.invariant.lines
    (subst (PlayedTo whole c.events.world c.events.invariant.lines)
    (drop_all c.events.number-index events c.events-test.false) c.events.invariant.played) in
    subst (λ (ls : List (List ℕ)). HoldsRest (c.args.text.now ∷ ls) (g.K.Sink.written c.args.sink.now) (g.K.Sink.written c.events.sink)
    c.events.text) (sym same) c.events.invariant.shown
