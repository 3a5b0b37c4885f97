use Rattle.std.proofs.Common.{◌≡◌, ◌+◌, ◌∷◌, ℕ, List, Err, arith, refl, subst, sym, map, ◌∙◌}
use Rattle.ba_world_events.specs.Outcomes.{summary_line}
use Rattle.ba_world_play.specs.Shows.{summaries_at}
use Rattle.ba_node_steps.specs.Node.{last}
use Rattle.ba_cmd_replay.proofs.Breaks.{no_write_fault}
use Rattle.ba_cmd_replay.proofs.Endings.{after_number, numbered, object_shown, one_more}
use Rattle.ba_cmd_replay.proofs.Shown.{broken_at, held_start, shown_more}
use Rattle.ba_cmd_replay.specs.inside.WorldPlays.{HoldsRest, AreLinesShown}
use Rattle.ba_cmd_replay.proofs.world_plays.show_objects.Goals as goal

pub returns-in-Err-clause-shown : goal.returns-in-Err-clause-shown
returns-in-Err-clause-shown g c p is up =
    let f = summaries_at (p.world.nodes c.args.node).state in
    let at : ℕ = c.counters.index in
    let before = g.K.Sink.written c.args.sink.now in
    let now = g.K.Sink.written c.counters.sink in
    let new = g.K.Sink.written c.show_object.new.sink in
    let all = last (p.world.nodes c.args.node).state in
    let same = object_shown c.args.world.now p c.of.result c.args.node (at + 1) is up c.of.ensures.node c.of.ensures.id in
    let end = c.last-index-end.ensures p is up in
    let later = after_number f at all (omega (arith, c.counters-test.true, end)) in
    let broken : AreLinesShown {A = Unit {0}} (c.counters.text ∷ map summary_line (f (at + 1))) now new c.show_object.new.text (Err
    c.in-Err.fault) =
    subst (λ (ls : List (List ℕ)). AreLinesShown {A = Unit {0}} (c.counters.text ∷ ls) now new c.show_object.new.text (Err c.in-Err.fault))
    same
    (c.in-Err.ensures.shown p is) in
    subst (λ (ls : List (List ℕ)). AreLinesShown {A = Unit {0}} (c.args.text.now ∷ ls) before new c.show_object.new.text (Err
    c.in-Err.fault))
    (sym later.1)
    (broken_at (Unit {0}) (Unit {0}) (c.args.text.now ∷ numbered f at) (map summary_line (f (at + 1))) later.0 before now new
    c.counters.text c.show_object.new.text c.show_object.new.text c.in-Err.fault (c.counters.invariant.shown p is up) broken)

pub counters-init : goal.counters-init
counters-init g c = record {
  shown = λ p is up. held_start (g.K.Sink.written c.args.sink.now) c.args.text.now;
  stayed = refl;
}

pub counters-preserved : goal.counters-preserved
counters-preserved g c = record {
  shown = λ p is up.
      let f = summaries_at (p.world.nodes c.args.node).state in
      let at : ℕ = c.counters.index in
      let before = g.K.Sink.written c.args.sink.now in
      let now = g.K.Sink.written c.counters.sink in
      let new = g.K.Sink.written c.show_object.new.sink in
      let same = object_shown c.args.world.now p c.of.result c.args.node (at + 1) is up c.of.ensures.node c.of.ensures.id in
      subst (λ (ls : List (List ℕ)). HoldsRest (c.args.text.now ∷ ls) before new c.show_object.new.text) (sym (one_more f at))
      (shown_more (c.args.text.now ∷ numbered f at) (map summary_line (f (at + 1))) before now new c.counters.text c.show_object.new.text
      (c.counters.invariant.shown p is up)
      (subst (λ (ls : List (List ℕ)). HoldsRest (c.counters.text ∷ ls) now new c.show_object.new.text) same
      (c.in_default.ensures.shown p is)));
  stayed = c.in_default.ensures.stayed (no_write_fault _) ∙ c.counters.invariant.stayed;
}

pub returns-clause-shown : goal.returns-clause-shown
returns-clause-shown g c p is up =
    let f = summaries_at (p.world.nodes c.args.node).state in
    let before = g.K.Sink.written c.args.sink.now in
    let now = g.K.Sink.written c.counters.sink in
    let end = c.last-index-end.ensures p is up in
    let all : c.counters.index ≡ last (p.world.nodes c.args.node).state =
    omega (arith, c.counters-test.false, c.counters.auto.index-end, end) in
    subst (λ (m : ℕ). HoldsRest (c.args.text.now ∷ numbered f m) before now c.counters.text) all (c.counters.invariant.shown p is up)
