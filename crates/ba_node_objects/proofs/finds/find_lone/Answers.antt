use Rattle.std.proofs.Common.{◌<◌, length, refl}
use Rattle.std.proofs.lemmas.Option.{slice_get_read}
use Rattle.ba_node_objects.specs.Objects.{node_of_fields}
use Rattle.ba_node_objects.proofs.Found.{lone_at}
use Rattle.ba_node_steps.specs.Node.{NodeState}
use Rattle.ba_node_objects.proofs.finds.find_lone.Goals as goal

pub returns-in-None : goal.returns-in-None
returns-in-None c =
    let n : NodeState = node_of_fields c.args.node.now in
    record { some = tt; none = c.in-None.ensures.none }

pub returns-in-Some : goal.returns-in-Some
returns-in-Some c =
    let n : NodeState = node_of_fields c.args.node.now in
    let place = c.in-Some.place in
    let within : place < length n.parts = c.in-Some.ensures.within in
    let at = slice_get_read n.parts (length n.parts) place c.index.result.now refl within c.index.ensures in
    record { some = lone_at n c.args.id place c.index.result.now c.requires.node c.in-Some.ensures.some at; none = tt }
