use Rattle.ba_node_plans.proofs.Made.{made_part}
use Rattle.ba_node_plans.proofs.creating.make_part.Goals as goal

pub returns : goal.returns
returns c = record {
  step = made_part c.args.node.now.node c.args.protocol c.args.registration _ _ _ _ c.next_id-id.ensures c.counter.ensures
      c.in_ok-kept.ensures c.new_part.ensures;
  suits = c.requires.room;
}
