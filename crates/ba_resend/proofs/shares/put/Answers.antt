use Rattle.std.proofs.Common.{subst, sym}
use Rattle.ba_resend.proofs.TournamentLemmas.{start_settled, start_below, start_slots, turn_settled, turn_below, turn_slots}
use Rattle.ba_resend.proofs.shares.put.Goals as goal

pub loop-node-init : goal.loop-node-init
loop-node-init c = record {
  settled = start_settled c.args.tree.now c.args.place c.args.due c.placed_entry.result c.placed_entry.ensures c.requires.fits c.requires.place;
  below = start_below c.args.tree.now c.args.place c.placed_entry.result c.requires.place;
  slots = start_slots c.args.tree.now c.args.place c.args.due c.placed_entry.result c.placed_entry.ensures;
}

pub loop-node-preserved : goal.loop-node-preserved
loop-node-preserved c = record {
  settled = turn_settled c.loop-node.tree c.loop-node.node _ _ c.earlier.result c.earlier.ensures c.loop-node.invariant.settled c.loop-node-test.true c.loop-node.invariant.below;
  below = turn_below c.loop-node.tree c.loop-node.node c.earlier.result c.loop-node.invariant.below;
  slots = turn_slots c.loop-node.tree c.loop-node.node c.earlier.result _ c.loop-node.invariant.below c.loop-node.invariant.slots;
}
