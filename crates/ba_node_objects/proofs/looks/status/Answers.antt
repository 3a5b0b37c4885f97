use Rattle.ba_node_objects.proofs.Shows.{shows_end, shows_place, shows_scope}
use Rattle.ba_node_objects.specs.Objects.{node_of_fields}
use Rattle.ba_node_steps.specs.Node.{NodeState, lone, nowhere, upward}
use Rattle.ba_node_objects.proofs.looks.status.Goals as goal

pub returns-in-Some : goal.returns-in-Some
returns-in-Some c =
    let n : NodeState = node_of_fields c.args.node.now in
    rw (c.kind.ensures, c.verdict.ensures) (shows_scope n c.args.id c.in-Some.found.scope.now c.in-Some.ensures.some.found)

pub returns-in-Some-find_end : goal.returns-in-Some-find_end
returns-in-Some-find_end c =
    let n : NodeState = node_of_fields c.args.node.now in
    let f = c.in-Some-find_end.found in
    shows_end n c.args.id f.scope.now f.end.now c.in_default.ensures.none c.in-Some-find_end.ensures.some.placed

pub returns-in-Some-find_lone : goal.returns-in-Some-find_lone
returns-in-Some-find_lone c =
    let n : NodeState = node_of_fields c.args.node.now in
    let f = c.in-Some-find_lone.found in
    shows_place n c.args.id (lone f.part.now) c.in_default.ensures.none c.in_default-find_end.ensures.none
    c.in-Some-find_lone.ensures.some.placed

pub returns-in-None : goal.returns-in-None
returns-in-None c =
    let n : NodeState = node_of_fields c.args.node.now in
    shows_place n c.args.id nowhere c.in_default.ensures.none c.in_default-find_end.ensures.none c.in-None.ensures.none

pub returns-in-Some-find_up : goal.returns-in-Some-find_up
returns-in-Some-find_up c =
    let n : NodeState = node_of_fields c.args.node.now in
    let f = c.in-Some-find_up.found in
    shows_place n c.args.id (upward f.scope.now f.part.now) c.in_default.ensures.none c.in_default-find_end.ensures.none
    c.in-Some-find_up.ensures.some.placed
