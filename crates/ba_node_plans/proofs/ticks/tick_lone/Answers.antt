use Rattle.std.proofs.Common.{◌∙◌, sym}
use Rattle.ba_node_objects.specs.Objects.{NodeInMemory}
use Rattle.ba_node_plans.proofs.Planned.{lone_suits, nothing_suits}
use Rattle.ba_node_plans.proofs.Ticked.{lone_says, lone_short, lone_ticks}
use Rattle.ba_node_plans.proofs.ticks.tick_lone.Goals as goal

pub letter_of_part-requires : goal.letter_of_part-requires
letter_of_part-requires c = lone_short c.args.node.now.node c.args.id _ _ c.requires

pub letter_of_part-requires-2 : goal.letter_of_part-requires-2
letter_of_part-requires-2 c = lone_short c.args.node.now.node c.args.id _ _ c.requires

pub returns-then-not-talks : goal.returns-then-not-talks
returns-then-not-talks c =
    let m : NodeInMemory = c.args.node.now in
    let f = c.args.found.now in
    record {
      step = c.saying.ensures.step m.node
          ∙ lone_says m.node f.part.now _ _ c.p_says-says.ensures c.in_ok-letter.ensures (sym c.talks.ensures ∙ c.if-not-talks.true);
      suits = nothing_suits m c.saying.result.change c.saying.ensures.change;
    }

pub returns : goal.returns
returns c =
    let m : NodeInMemory = c.args.node.now in
    let f = c.args.found.now in
    record {
      step = c.changing.ensures.step m.node
          ∙ lone_ticks m.node c.args.id f.place f.part.now _ _ c.requires c.says.ensures c.in_ok-letter-2.ensures
          (sym c.talks.ensures ∙ c.if-not-talks.false);
      suits = lone_suits m f.place f.part.now _ c.changing.result.change c.requires.at c.requires.own c.changing.ensures.change;
    }
