use Rattle.std.proofs.Common.{◌<◌, length, refl, sym}
use Rattle.std.proofs.lemmas.Option.{slice_get_read}
use Rattle.ba_node_objects.specs.Objects.{node_of_fields}
use Rattle.ba_node_objects.proofs.Found.{end_is_there, end_placed, no_end}
use Rattle.ba_node_steps.specs.Node.{NodeState}
use Rattle.ba_node_objects.proofs.finds.find_end.Goals as goal

pub returns-in-None : goal.returns-in-None
returns-in-None c =
    let n : NodeState = node_of_fields c.args.node.now in
    record { some = tt; none = no_end n c.args.id c.in-None.ensures.none }

pub returns-in-None-end : goal.returns-in-None-end
returns-in-None-end c =
    let n : NodeState = node_of_fields c.args.node.now in
    let place = c.in-Some.place in
    let within : place < length n.scopes = c.in-Some.ensures.within in
    let at = slice_get_read n.scopes (length n.scopes) place c.index-scope.result.now refl within c.index-scope.ensures in
    absurd (end_is_there n c.args.id place c.index-scope.result.now c.in-Some.ensures.some at (sym c.in-None-end.ensures))

pub returns-in-Some-end : goal.returns-in-Some-end
returns-in-Some-end c =
    let n : NodeState = node_of_fields c.args.node.now in
    let place = c.in-Some.place in
    let within : place < length n.scopes = c.in-Some.ensures.within in
    let at = slice_get_read n.scopes (length n.scopes) place c.index-scope.result.now refl within c.index-scope.ensures in
    record {
      some = end_placed n c.args.id place c.index-scope.result.now _ c.requires.node c.in-Some.ensures.some at (sym c.in-Some-end.ensures);
      none = tt;
    }
