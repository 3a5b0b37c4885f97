use Rattle.ba_world.specs.inside.Stages.{ArePlacesAtStart}
use Rattle.ba_world.proofs.stages.first_places.Given as goal

-- the first nodes are at their places
abbrev pub invariant-loop-before : goal.invariant-loop-before
invariant-loop-before l = ArePlacesAtStart l.before l.places.items
