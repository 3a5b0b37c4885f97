use Rattle.std.proofs.Common.{◌≤◌, ◌∙◌, length, arith}
use Rattle.ba_world.proofs.PlaceLemmas.{taken_there}
use Rattle.ba_world.specs.contracts.stages.Stage.{the_view}
use Rattle.ba_world.proofs.stages.Stage.take.Goals as goal

pub returns-clause-taken : goal.returns-clause-taken
returns-clause-taken c =
    let low : 1 ≤ c.args.node = omega arith in
    let within : c.args.node ≤ length c.self.inside.places.items = omega (arith, c.len.ensures) in
    taken_there _ (the_view c.self.inside) c.self.view_is c.args.node low within c.replace.result c.replace.new.dest _
    (c.replace.ensures.value ∙ c.index_mut.ensures.value)
