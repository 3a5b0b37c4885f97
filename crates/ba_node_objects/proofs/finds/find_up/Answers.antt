use Rattle.std.proofs.Common.{◌<◌, length, refl, sym}
use Rattle.std.proofs.lemmas.Option.{slice_get_read}
use Rattle.ba_node_objects.specs.Objects.{node_of_fields}
use Rattle.ba_node_objects.proofs.Found.{nobody_at, up_at, up_is_there}
use Rattle.ba_node_steps.specs.Node.{NodeState}
use Rattle.ba_node_objects.proofs.finds.find_up.Goals as goal

pub returns-in-None : goal.returns-in-None
returns-in-None c =
    let n : NodeState = node_of_fields c.args.node.now in
    record { some = tt; none = nobody_at n c.args.id c.requires.alone c.in-None.ensures.none }

pub returns-in-None-up : goal.returns-in-None-up
returns-in-None-up c =
    let n : NodeState = node_of_fields c.args.node.now in
    let place = c.in-Some.place in
    let within : place < length n.scopes = c.in-Some.ensures.within in
    let at = slice_get_read n.scopes (length n.scopes) place c.index-scope.result.now refl within c.index-scope.ensures in
    absurd (up_is_there n c.args.id place c.index-scope.result.now c.in-Some.ensures.some at (sym c.in-None-up.ensures))

pub returns-in-Some-up : goal.returns-in-Some-up
returns-in-Some-up c =
    let n : NodeState = node_of_fields c.args.node.now in
    let place = c.in-Some.place in
    let within : place < length n.scopes = c.in-Some.ensures.within in
    let at = slice_get_read n.scopes (length n.scopes) place c.index-scope.result.now refl within c.index-scope.ensures in
    record {
      some = up_at n c.args.id place c.index-scope.result.now _ c.requires.fits.node c.requires.alone c.in-Some.ensures.some at
          (sym c.in-Some-up.ensures);
      none = tt;
    }
