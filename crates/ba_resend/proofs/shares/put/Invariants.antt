use Rattle.std.proofs.Common.{ℕ, ◌≡◌, ◌<◌, set, drop, length}
use Rattle.ba_resend.specs.inside.Tournaments.{IsSettledBut, half, slots_of}
use Rattle.std.specs.Prelude.{slice_set}
use Rattle.ba_resend.proofs.shares.put.Given as goal

abbrev pub invariant-loop-node : goal.invariant-loop-node
invariant-loop-node l = record {
  settled : IsSettledBut l.tree l.node;
  below : l.node < half l.tree;
  slots : slots_of l.tree ≡ slice_set (slots_of l.fn.tree) l.place l.fn.due;
}

abbrev pub decreases-loop-node : goal.decreases-loop-node
decreases-loop-node l = l.node
