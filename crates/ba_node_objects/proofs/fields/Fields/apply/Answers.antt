use Rattle.std.proofs.Common.{◌<◌, ◌∙◌, ap, arith, length, refl, subst, sym}
use Rattle.std.proofs.lemmas.Option.{slice_get_read}
use Rattle.ba_node_objects.proofs.Applied.{part_applied, part_pushed, part_within, room_for_part, room_for_scope}
use Rattle.ba_node_objects.specs.Changes.{Suits, changed_node}
use Rattle.ba_node_objects.specs.Objects.{NodeInMemory, in_memory, node_of_fields, room_of}
use Rattle.ba_node_steps.specs.Node.{NodeState}
use Rattle.ba_node_objects.proofs.fields.Fields.apply.Goals as goal

pub change_scope-requires-clause-suits : goal.change_scope-requires-clause-suits
change_scope-requires-clause-suits c = subst (Suits (in_memory c.args.self.now)) c.in-Scope.is c.requires.suits

pub returns-in-Scope-clause-node : goal.returns-in-Scope-clause-node
returns-in-Scope-clause-node c = c.change_scope.ensures.node ∙ ap (changed_node (node_of_fields c.args.self.now)) (sym c.in-Scope.is)

pub returns-in-Part-clause-node : goal.returns-in-Part-clause-node
returns-in-Part-clause-node c =
    let n : NodeState = node_of_fields c.args.self.now in
    let m : NodeInMemory = in_memory c.args.self.now in
    let place = c.in-Part.place in
    let within : place < length n.parts = part_within m place c.in-Part.change c.args.change c.in-Part.is c.requires.suits in
    let at = slice_get_read n.parts (length n.parts) place c.index_mut.result.now refl within c.index_mut.ensures.value in
    part_applied n place c.index_mut.result.now c.change_part.new.part c.in-Part.change c.args.change c.in-Part.is at
    c.change_part.ensures

pub push_scope-requires-clause-room : goal.push_scope-requires-clause-room
push_scope-requires-clause-room c =
    room_for_scope (in_memory c.args.self.now) c.in-NewScope.scope c.args.change c.in-NewScope.is c.requires.suits

pub push_reserved-requires : goal.push_reserved-requires
push_reserved-requires c =
    let m : NodeInMemory = in_memory c.args.self.now in
    let room : 0 < room_of c.args.self.now = room_for_part m c.in-NewPart.part c.args.change c.in-NewPart.is c.requires.suits in
    omega arith

pub returns-in-NewScope-clause-node : goal.returns-in-NewScope-clause-node
returns-in-NewScope-clause-node c = c.push_scope.ensures.node ∙ ap (changed_node (node_of_fields c.args.self.now)) (sym c.in-NewScope.is)

pub returns-in-NewPart-clause-node : goal.returns-in-NewPart-clause-node
returns-in-NewPart-clause-node c =
    part_pushed (node_of_fields c.args.self.now) c.in-NewPart.part _ c.args.change c.in-NewPart.is c.push_reserved.ensures.items
