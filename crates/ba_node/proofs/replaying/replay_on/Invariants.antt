use Rattle.std.proofs.Common.{length}
use Rattle.ba_node.proofs.Histories.{Going}
use Rattle.ba_node.proofs.replaying.replay_on.Given as goal

abbrev pub invariant-records : goal.invariant-records
invariant-records l = Going l.fn.objects.node l.fn.rest.items l.rest.items l.place l.objects.node

abbrev pub decreases-records : goal.decreases-records
decreases-records l = length l.rest.items
