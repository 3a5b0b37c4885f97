use Rattle.std.proofs.Common.{◌≡◌, ◌∙◌, ap, sym, slice_get, Some, subst}
use Rattle.ba_scope_ends.proofs.Places.{found_if_some, none_if_none}
use Rattle.ba_core.specs.declared.identifiers.Id.{Id}
use Rattle.ba_scope_ends.specs.Ends.{same_id}
use Rattle.ba_node_objects.proofs.Spotted.{lone_in_no_scope, not_in_scope, owns_itself, scope_read, scope_spotted, scope_within}
use Rattle.ba_node_objects.proofs.Spotted.{nowhere_in_scopes}
use Rattle.ba_node_objects.specs.Objects.{node_of_fields}
use Rattle.ba_node_objects.specs.inside.Spots.{StandsAt}
use Rattle.ba_scope.specs.Scope.{ScopeState}
use Rattle.ba_node_steps.specs.Node.{NodeState}
use Rattle.ba_node_objects.proofs.finds.place_of_scope.Goals as goal

pub returns-then-eq-clause-some : goal.returns-then-eq-clause-some
returns-then-eq-clause-some c =
    let n : NodeState = node_of_fields c.args.node.now in
    let place = c.in-Some-InScope.place in
    let stands = subst (StandsAt n c.args.id) c.in-Some-InScope.field-0-is c.in-Some-InScope.ensures in
    let s = c.index.result.now in
    let at : slice_get n.scopes place ≡ Some s = scope_read n c.args.id place s stands c.index.ensures in
    scope_spotted n c.args.id (λ (s : ScopeState). same_id s.id c.args.id) place s c.requires.node (owns_itself c.args.id) at
    (ap (λ (x : Id). same_id x c.args.id) (sym c.id.ensures) ∙ sym c.if-eq.ensures)

pub returns-then-eq-clause-within : goal.returns-then-eq-clause-within
returns-then-eq-clause-within c =
    let n : NodeState = node_of_fields c.args.node.now in
    let stands = subst (StandsAt n c.args.id) c.in-Some-InScope.field-0-is c.in-Some-InScope.ensures in
    scope_within n c.args.id c.in-Some-InScope.place stands

pub returns-else-eq-clause-none : goal.returns-else-eq-clause-none
returns-else-eq-clause-none c =
    let n : NodeState = node_of_fields c.args.node.now in
    let place = c.in-Some-InScope.place in
    let stands = subst (StandsAt n c.args.id) c.in-Some-InScope.field-0-is c.in-Some-InScope.ensures in
    let s = c.index.result.now in
    let at : slice_get n.scopes place ≡ Some s = scope_read n c.args.id place s stands c.index.ensures in
    not_in_scope n c.args.id (λ (s : ScopeState). same_id s.id c.args.id) place s c.requires.node (owns_itself c.args.id) stands at
    (ap (λ (x : Id). same_id x c.args.id) (sym c.id.ensures) ∙ sym c.if-eq.ensures)

pub returns-in-Some-Lone-clause-none : goal.returns-in-Some-Lone-clause-none
returns-in-Some-Lone-clause-none c =
    let n : NodeState = node_of_fields c.args.node.now in
    let stands = subst (StandsAt n c.args.id) c.in-Some-Lone.field-0-is c.in-Some-Lone.ensures in
    lone_in_no_scope n c.args.id (λ (s : ScopeState). same_id s.id c.args.id) _ c.requires.node (owns_itself c.args.id) stands

pub returns-in-Some-Nowhere-clause-none : goal.returns-in-Some-Nowhere-clause-none
returns-in-Some-Nowhere-clause-none c =
    let n : NodeState = node_of_fields c.args.node.now in
    let stands = subst (StandsAt n c.args.id) c.in-Some-Nowhere.field-0-is c.in-Some-Nowhere.ensures in
    nowhere_in_scopes n c.args.id (λ (s : ScopeState). same_id s.id c.args.id) (owns_itself c.args.id) stands

pub returns-in-None-clause-some : goal.returns-in-None-clause-some
returns-in-None-clause-some c =
    found_if_some (λ (s : ScopeState). same_id s.id c.args.id) c.args.node.now.scopes.items c.position_of_scope.result
    (rw c.deref.ensures.value at c.position_of_scope.ensures)

pub returns-in-None-clause-none : goal.returns-in-None-clause-none
returns-in-None-clause-none c =
    none_if_none (λ (s : ScopeState). same_id s.id c.args.id) c.args.node.now.scopes.items c.position_of_scope.result
    (rw c.deref.ensures.value at c.position_of_scope.ensures)
