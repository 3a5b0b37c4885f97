use Rattle.std.proofs.Common.{◌≡◌, Some, sym, ap, ◌∙◌}
use Rattle.std.specs.Option.{option_map}
use Rattle.ba_core.specs.Numbers.{node_of}
use Rattle.ba_world.proofs.PlaceLemmas.{kind_there, no_kind_there}
use Rattle.ba_world.specs.inside.Stages.{place_at}
use Rattle.ba_world.proofs.stages.Stage.scope_kind.Goals as goal

pub returns-in-Some-scope_kind : goal.returns-in-Some-scope_kind
returns-in-Some-scope_kind c = λ p stage.
    let at : Some c.in-Some.place.now ≡ place_at c.args.self.now (node_of c.args.scope.0) =
    sym (ap (option_map (λ at. at.now)) c.in-Some.is) ∙ c.place.ensures ∙ ap (place_at c.args.self.now) c.node.ensures
    in
    kind_there c.args.self.now p stage.set c.args.scope c.in-Some.place.now at c.scope_kind.result c.scope_kind.ensures
    c.in-Some-scope_kind.kind c.in-Some-scope_kind.is

pub returns-in-None : goal.returns-in-None
returns-in-None c = λ p stage.
    let at : Some c.in-Some.place.now ≡ place_at c.args.self.now (node_of c.args.scope.0) =
    sym (ap (option_map (λ at. at.now)) c.in-Some.is) ∙ c.place.ensures ∙ ap (place_at c.args.self.now) c.node.ensures
    in
    no_kind_there c.args.self.now p stage.set c.args.scope c.in-Some.place.now at c.scope_kind.result c.scope_kind.ensures
    c.in-None.is
