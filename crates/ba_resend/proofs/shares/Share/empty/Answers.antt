use Rattle.std.proofs.Common.{rules}
use Rattle.ba_resend.proofs.FirstLemmas.{nothing_due}
use Rattle.ba_resend.proofs.shares.Share.empty.Goals as goal

pub returns-in-Ok-clause-nothing : goal.returns-in-Ok-clause-nothing
returns-in-Ok-clause-nothing c j = nothing_due _ c.in-Ok.tree.items (c.in-Ok.ensures.items_if_clones_equal (λ y k. search rules)) j
