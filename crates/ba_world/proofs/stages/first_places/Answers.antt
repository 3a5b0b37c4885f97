use Rattle.std.proofs.Common.{rules, ◌≡◌, ℕ, ◌+◌, [], ◌∷◌, ◌++◌, List, sym, subst, arith}
use Rattle.ba_world_places.specs.declared.places.Place.{Place}
use Rattle.ba_world.proofs.StageAnswers.{no_places, one_more}
use Rattle.ba_world.specs.inside.Stages.{ArePlacesAtStart}
use Rattle.ba_world.proofs.stages.first_places.Goals as goal

pub loop-before-init : goal.loop-before-init
loop-before-init c = subst (λ (places : List Place). ArePlacesAtStart 0 places) (sym c.new-places.ensures.items) no_places

pub loop-before-preserved : goal.loop-before-preserved
loop-before-preserved c =
    let grown : c.push.new.self.items ≡ c.loop-before.places.items ++ c.in_ok-place.place ∷ [] = search rules in
    subst (λ (places : List Place). ArePlacesAtStart (c.loop-before.before + 1) places) (sym grown)
    (one_more c.loop-before.before c.loop-before.places.items c.in_ok-place.place c.loop-before.invariant c.in_ok-place.ensures)

pub returns : goal.returns
returns c =
    let low = c.loop-before-test.false in
    let high = c.loop-before.auto.before-end in
    let all : c.loop-before.before ≡ c.args.nodes = omega (arith, low, high) in
    subst (λ (n : ℕ). ArePlacesAtStart n c.loop-before.places.items) all c.loop-before.invariant
