use Rattle.std.proofs.Common.{◌∙◌, sym}
use Rattle.ba_node_objects.specs.Objects.{NodeInMemory}
use Rattle.ba_node_plans.proofs.Planned.{nothing_suits, scope_suits}
use Rattle.ba_node_plans.proofs.Ticked.{up_acts, up_says, up_short, up_talks}
use Rattle.ba_node_plans.proofs.ticks.tick_above.Goals as goal

pub letter_of_part-requires : goal.letter_of_part-requires
letter_of_part-requires c = up_short c.args.node.now.node c.args.id _ _ _ c.requires

pub returns-then-talks : goal.returns-then-talks
returns-then-talks c =
    let m : NodeInMemory = c.args.node.now in
    let f = c.args.found.now in
    record {
      step = c.changing.ensures.step m.node
          ∙ up_talks m.node c.args.id f.place f.scope.now f.part.now _ _ c.requires c.up_says.ensures c.in_ok-letter.ensures
          (sym c.talks.ensures ∙ c.if-talks.true);
      suits = scope_suits m f.place f.scope.now _ c.changing.result.change c.requires.at tt c.changing.ensures.change;
    }

pub returns-then-stays_at_tick : goal.returns-then-stays_at_tick
returns-then-stays_at_tick c =
    let m : NodeInMemory = c.args.node.now in
    let f = c.args.found.now in
    record {
      step = c.saying.ensures.step m.node
          ∙ up_says m.node f.scope.now f.part.now _ _ c.up_says.ensures c.in_ok-letter.ensures (sym c.talks.ensures ∙ c.if-talks.false)
          (sym (c.stays_at_tick.ensures c.requires.up) ∙ c.if-stays_at_tick.true);
      suits = nothing_suits m c.saying.result.change c.saying.ensures.change;
    }

pub returns : goal.returns
returns c =
    let m : NodeInMemory = c.args.node.now in
    let f = c.args.found.now in
    record {
      step = c.changing-2.ensures.step m.node
          ∙ up_acts m.node c.args.id f.place f.scope.now f.part.now _ _ c.requires c.up_says.ensures c.in_ok-letter.ensures
          (sym c.talks.ensures ∙ c.if-talks.false) (sym (c.stays_at_tick.ensures c.requires.up) ∙ c.if-stays_at_tick.false);
      suits = scope_suits m f.place f.scope.now _ c.changing-2.result.change c.requires.at tt c.changing-2.ensures.change;
    }
