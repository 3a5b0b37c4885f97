use Rattle.std.proofs.Common.{◌≡◌, ◌+◌, ◌≤◌, ◌∷◌, [], ℕ, List, Err, arith, refl, subst, sym, map, length, ◌∙◌}
use Rattle.ba_world_events.specs.Outcomes.{summary_line}
use Rattle.ba_world_events.specs.declared.summaries.Summary.TheVariants as summary
use Rattle.ba_world_play.specs.Shows.{node_summaries}
use Rattle.ba_cmd_replay.proofs.Breaks.{no_write_fault}
use Rattle.ba_cmd_replay.proofs.Endings.{after_node, all_lines, node_there, numbered, one_more}
use Rattle.ba_cmd_replay.proofs.Shown.{broken_at, held_start, shown_more, shown_on}
use Rattle.ba_cmd_replay.specs.inside.WorldPlays.{HoldsRest, AreLinesShown}
use Rattle.ba_cmd_replay.proofs.world_plays.show_ending.Goals as goal

pub returns-in-Err-clause-shown : goal.returns-in-Err-clause-shown
returns-in-Err-clause-shown g c p is count =
    let f = node_summaries p.world in
    let at : ℕ = c.nodes.index in
    let before = g.K.Sink.written c.args.sink.now in
    let now = g.K.Sink.written c.nodes.sink in
    let new = g.K.Sink.written c.show_node.new.sink in
    let to : at + 1 ≤ p.count = omega (arith, c.nodes-test.true, count) in
    let from : 1 ≤ at + 1 = omega arith in
    let later = after_node p at (omega (arith, to)) in
    subst (λ (ls : List (List ℕ)). AreLinesShown {A = Unit {0}} (c.args.text.now ∷ ls) before new c.show_node.new.text (Err
    c.in-Err.fault)) (sym
    later.1)
    (broken_at (Unit {0}) (Unit {0}) (c.args.text.now ∷ numbered f at) (map summary_line (f (at + 1))) later.0 before now new
    c.nodes.text c.show_node.new.text c.show_node.new.text c.in-Err.fault (c.nodes.invariant.shown p is count)
    (c.in-Err.ensures.shown p is (node_there p (at + 1) from to)))

pub nodes-init : goal.nodes-init
nodes-init g c = record {
  shown = λ p is count. held_start (g.K.Sink.written c.args.sink.now) c.args.text.now;
  stayed = refl;
}

pub nodes-preserved : goal.nodes-preserved
nodes-preserved g c = record {
  shown = λ p is count.
      let f = node_summaries p.world in
      let at : ℕ = c.nodes.index in
      let before = g.K.Sink.written c.args.sink.now in
      let now = g.K.Sink.written c.nodes.sink in
      let new = g.K.Sink.written c.show_node.new.sink in
      let to : at + 1 ≤ p.count = omega (arith, c.nodes-test.true, count) in
      let from : 1 ≤ at + 1 = omega arith in
      subst (λ (ls : List (List ℕ)). HoldsRest (c.args.text.now ∷ ls) before new c.show_node.new.text) (sym (one_more f at))
      (shown_more (c.args.text.now ∷ numbered f at) (map summary_line (f (at + 1))) before now new c.nodes.text c.show_node.new.text
      (c.nodes.invariant.shown p is count)
      (c.in_default.ensures.shown p is (node_there p (at + 1) from to)));
  stayed = c.in_default.ensures.stayed (no_write_fault _) ∙ c.nodes.invariant.stayed;
}

pub returns-clause-shown : goal.returns-clause-shown
returns-clause-shown g c p is count =
    let f = node_summaries p.world in
    let before = g.K.Sink.written c.args.sink.now in
    let now = g.K.Sink.written c.nodes.sink in
    let new = g.K.Sink.written c.show_line.new.sink in
    let line = summary_line (summary.Bag (length p.world.bag)) in
    let all : c.nodes.index ≡ p.count = omega (arith, c.nodes-test.false, c.nodes.auto.index-end, count) in
    let held : HoldsRest (c.args.text.now ∷ numbered f p.count) before now c.nodes.text =
    subst (λ (m : ℕ). HoldsRest (c.args.text.now ∷ numbered f m) before now c.nodes.text) all (c.nodes.invariant.shown p is count) in
    subst (λ (ls : List (List ℕ)). AreLinesShown (c.args.text.now ∷ ls) before new c.show_line.new.text c.show_line.result) (sym (all_lines
    p))
    (shown_on (c.args.text.now ∷ numbered f p.count) (line ∷ []) before now new c.nodes.text c.show_line.new.text c.show_line.result held
    (subst (λ (n : ℕ). AreLinesShown (c.nodes.text ∷ summary_line (summary.Bag n) ∷ []) now new c.show_line.new.text c.show_line.result)
    (c.bag.ensures p is) c.show_line.ensures.shown))
