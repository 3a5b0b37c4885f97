use Rattle.std.proofs.Common.{◌<◌, ◌∙◌, length, refl}
use Rattle.std.proofs.lemmas.Option.{slice_get_read}
use Rattle.ba_node_objects.proofs.Applied.{scope_applied, scope_within}
use Rattle.ba_node_objects.proofs.Counted.{counted_anew, few_in_scopes, one_within}
use Rattle.ba_node_objects.specs.Objects.{in_memory, node_of_fields}
use Rattle.ba_node_steps.specs.Node.{NodeState}
use Rattle.ba_node_objects.proofs.fields.Fields.change_scope.Goals as goal

pub overflow_sub-self : goal.overflow_sub-self
overflow_sub-self c =
    let n : NodeState = node_of_fields c.args.self.now in
    let within : c.args.place < length n.scopes =
    scope_within (in_memory c.args.self.now) c.args.place c.args.change _ refl c.requires.suits in
    one_within n.scopes c.args.place c.index_mut-scope.result.now c.args.self.now.in_scopes c.ids_of-before.result within
    c.index_mut-scope.ensures.value c.requires.fits.count c.ids_of-before.ensures

pub returns-clause-node : goal.returns-clause-node
returns-clause-node c =
    let n : NodeState = node_of_fields c.args.self.now in
    let s = c.index_mut-scope.result.now in
    let within : c.args.place < length n.scopes =
    scope_within (in_memory c.args.self.now) c.args.place c.args.change _ refl c.requires.suits in
    let at = slice_get_read n.scopes (length n.scopes) c.args.place s refl within c.index_mut-scope.ensures.value in
    scope_applied n c.args.place s c.change_scope.new.scope c.args.change _ refl at c.change_scope.ensures

pub returns-clause-count : goal.returns-clause-count
returns-clause-count c =
    let n : NodeState = node_of_fields c.args.self.now in
    let within : c.args.place < length n.scopes =
    scope_within (in_memory c.args.self.now) c.args.place c.args.change _ refl c.requires.suits in
    c.saturating_add-self.ensures
    ∙ counted_anew n.scopes c.args.place c.index_mut-scope.result.now c.change_scope.new.scope c.args.self.now.in_scopes
    c.ids_of-before.result c.ids_of-after.result within c.index_mut-scope.ensures.value (few_in_scopes n c.requires.fits.node)
    c.requires.fits.count c.ids_of-before.ensures c.ids_of-after.ensures
