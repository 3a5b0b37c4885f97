use Rattle.ba_world_places.proofs.ScopeLemmas.{KnowsUpTo}
use Rattle.ba_world_places.proofs.places.scopes_of.Given as goal

abbrev pub invariant-loop-counter : goal.invariant-loop-counter
invariant-loop-counter l = KnowsUpTo l.node.node l.known l.counter
