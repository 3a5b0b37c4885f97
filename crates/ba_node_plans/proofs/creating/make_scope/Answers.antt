use Rattle.ba_node_plans.proofs.Made.{made_scope}
use Rattle.ba_node_plans.proofs.creating.make_scope.Goals as goal

pub returns : goal.returns
returns c = record {
  step = made_scope c.args.node.now.node c.args.now c.args.expires c.args.kind c.args.up c.args.wake _ _ _ _ _ _ c.next_id-id.ensures
      c.counter.ensures c.deadline_after-deadline.ensures c.in_ok-above.ensures c.in_ok-context.ensures c.make.ensures;
  suits = c.requires.room;
}
