use Rattle.std.proofs.Common.{subst}
use Rattle.ba_scope_ends.proofs.Places.{found_if_some, none_if_none}
use Rattle.ba_scope_ends.specs.Ends.{same_id}
use Rattle.ba_scope_ends.specs.declared.parts.Part.{Part}
use Rattle.ba_node_objects.proofs.Spotted.{lone_spotted, lone_within, not_lone, nowhere_lone}
use Rattle.ba_node_objects.specs.Objects.{node_of_fields}
use Rattle.ba_node_objects.specs.inside.Spots.{StandsAt}
use Rattle.ba_node_steps.specs.Node.{NodeState}
use Rattle.ba_node_objects.proofs.finds.place_of_lone.Goals as goal

pub returns-in-Some-InScope-clause-none : goal.returns-in-Some-InScope-clause-none
returns-in-Some-InScope-clause-none c =
    let n : NodeState = node_of_fields c.args.node.now in
    not_lone n c.args.id _ c.requires.node (subst (StandsAt n c.args.id) c.in-Some-InScope.field-0-is c.in-Some-InScope.ensures)

pub returns-in-Some-Lone-clause-some : goal.returns-in-Some-Lone-clause-some
returns-in-Some-Lone-clause-some c =
    let n : NodeState = node_of_fields c.args.node.now in
    let stands = subst (StandsAt n c.args.id) c.in-Some-Lone.field-0-is c.in-Some-Lone.ensures in
    rw c.in-Some-Lone.place-is (lone_spotted n c.args.id c.in-Some-Lone.place c.requires.node stands)

pub returns-in-Some-Lone-clause-within : goal.returns-in-Some-Lone-clause-within
returns-in-Some-Lone-clause-within c =
    let n : NodeState = node_of_fields c.args.node.now in
    let stands = subst (StandsAt n c.args.id) c.in-Some-Lone.field-0-is c.in-Some-Lone.ensures in
    rw c.in-Some-Lone.place-is (lone_within n c.args.id c.in-Some-Lone.place stands)

pub returns-in-Some-Nowhere-clause-none : goal.returns-in-Some-Nowhere-clause-none
returns-in-Some-Nowhere-clause-none c =
    let n : NodeState = node_of_fields c.args.node.now in
    nowhere_lone n c.args.id (subst (StandsAt n c.args.id) c.in-Some-Nowhere.field-0-is c.in-Some-Nowhere.ensures)

pub returns-in-None-clause-some : goal.returns-in-None-clause-some
returns-in-None-clause-some c =
    found_if_some (λ (p : Part). same_id p.id c.args.id) c.args.node.now.parts.items c.position_of_lone.result
    (rw c.deref.ensures.value at c.position_of_lone.ensures)

pub returns-in-None-clause-none : goal.returns-in-None-clause-none
returns-in-None-clause-none c =
    none_if_none (λ (p : Part). same_id p.id c.args.id) c.args.node.now.parts.items c.position_of_lone.result
    (rw c.deref.ensures.value at c.position_of_lone.ensures)
