use Rattle.std.proofs.Common.{arith, ap, ◌∙◌, ◌<◌, ℕ}
use Rattle.ba_core.specs.Numbers.{id_of}
use Rattle.ba_world_places.proofs.ScopeLemmas.{knows_all, knows_with}
use Rattle.ba_node_steps.specs.Node.{last}
use Rattle.ba_world_places.proofs.places.scopes_of.Goals as goal

pub loop-counter-preserved : goal.loop-counter-preserved
loop-counter-preserved c =
    knows_with c.args.node.now.node c.loop-counter.known c.in_ok-more.more c.loop-counter.counter c.of-id.result c.kind_at.result
    c.loop-counter.invariant
    (c.of-id.ensures.id ∙ ap (λ (k : ℕ). id_of k c.loop-counter.counter) c.number-number.ensures)
    c.kind_at.ensures c.in_ok-more.ensures

pub returns : goal.returns
returns c =
    let past : last c.args.node.now.node < c.loop-counter.counter = omega (arith, c.last-last.ensures.value) in
    knows_all c.args.node.now.node c.loop-counter.known c.loop-counter.counter c.last-last.ensures.fits past c.loop-counter.invariant
