use Rattle.std.proofs.Common.{◌≡◌, None, Some, sym, ap, ◌∙◌, true≢false}
use Rattle.std.specs.Option.{option_map}
use Rattle.ba_world_places.specs.declared.places.Place.TheVariants as place
use Rattle.ba_node_steps.specs.Node.{last}
use Rattle.ba_world.proofs.PlaceLemmas.{down_there, matches_there, nowhere_up}
use Rattle.ba_world.specs.inside.Stages.{place_at}
use Rattle.ba_world.proofs.stages.Stage.last.Goals as goal

pub returns-in-Some-Up : goal.returns-in-Some-Up
returns-in-Some-Up c = λ p stage up.
    let at : place_at c.args.self.now c.args.node ≡ Some (place.Up c.in-Some-Up.held) =
    sym c.place.ensures ∙ ap (option_map (λ at. at.now)) c.in-Some-Up.is ∙ ap Some c.in-Some-Up.field-0-is
    in
    c.last.ensures.value ∙ ap last (matches_there c.args.self.now p stage.set c.args.node (place.Up c.in-Some-Up.held) at).place.state

pub returns-in-Some-Down : goal.returns-in-Some-Down
returns-in-Some-Down c = λ p stage up.
    let at : place_at c.args.self.now c.args.node ≡ Some (place.Down c.in-Some-Down.field-0-0 c.in-Some-Down.field-0-1) =
    sym c.place.ensures ∙ ap (option_map (λ at. at.now)) c.in-Some-Down.is ∙ ap Some c.in-Some-Down.field-0-is
    in
    absurd (true≢false (sym up
    ∙ down_there c.args.self.now p stage.set c.args.node c.in-Some-Down.field-0-0 c.in-Some-Down.field-0-1 at))

pub returns-in-None : goal.returns-in-None
returns-in-None c = λ p stage up.
    let at : place_at c.args.self.now c.args.node ≡ None = sym c.place.ensures ∙ ap (option_map (λ at. at.now)) c.in-None.is in
    absurd (true≢false (sym up ∙ nowhere_up c.args.self.now p stage.set c.args.node at))
