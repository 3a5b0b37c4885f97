use Rattle.std.proofs.Common.{◌∙◌, sym}
use Rattle.ba_node_objects.specs.Objects.{NodeInMemory}
use Rattle.ba_node_plans.proofs.Planned.{nothing_suits, scope_suits}
use Rattle.ba_node_plans.proofs.Ticked.{end_says, end_short, end_ticks}
use Rattle.ba_node_plans.proofs.ticks.tick_end.Goals as goal

pub letter_of_end-requires : goal.letter_of_end-requires
letter_of_end-requires c = end_short c.args.node.now.node c.args.id _ _ _ c.requires

pub returns-then-not-changes_at_tick : goal.returns-then-not-changes_at_tick
returns-then-not-changes_at_tick c =
    let m : NodeInMemory = c.args.node.now in
    let f = c.args.found.now in
    record {
      step = c.saying.ensures.step m.node
          ∙ end_says m.node f.scope.now f.end.now _ _ _ c.at_tick-next.ensures.state c.at_tick-next.ensures.says c.in_ok-letter.ensures
          (sym c.changes_at_tick.ensures ∙ c.if-not-changes_at_tick.true);
      suits = nothing_suits m c.saying.result.change c.saying.ensures.change;
    }

pub returns : goal.returns
returns c =
    let m : NodeInMemory = c.args.node.now in
    let f = c.args.found.now in
    record {
      step = (rw c.wake_after_tick.ensures at (c.changing.ensures.step m.node))
          ∙ end_ticks m.node c.args.id f.place f.scope.now f.end.now _ _ _ c.requires c.at_tick-next.ensures.state
          c.at_tick-next.ensures.says c.in_ok-letter.ensures (sym c.changes_at_tick.ensures ∙ c.if-not-changes_at_tick.false);
      suits = scope_suits m f.place f.scope.now _ c.changing.result.change c.requires.at tt c.changing.ensures.change;
    }
