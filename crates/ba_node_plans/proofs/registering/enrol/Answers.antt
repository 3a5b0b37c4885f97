use Rattle.std.proofs.Common.{◌∙◌, ap, sym}
use Rattle.ba_node_objects.specs.Objects.{NodeInMemory}
use Rattle.ba_node_plans.proofs.Made.{made_end, new_to_scope, refused_end}
use Rattle.ba_node_plans.proofs.Planned.{nothing_suits}
use Rattle.ba_node_steps.specs.Steps.{fault_step}
use Rattle.ba_node_plans.proofs.registering.enrol.Goals as goal

pub returns-in-Some : goal.returns-in-Some
returns-in-Some c =
    let m : NodeInMemory = c.args.node.now in
    let s = c.args.found.now.scope.now in
    record {
      step = c.fault.ensures.step m.node ∙ ap (fault_step m.node) c.code_of_refusal.ensures
          ∙ refused_end m.node s c.args.protocol c.args.participant c.in-Some.why (sym c.in-Some.ensures);
      suits = nothing_suits m c.fault.result.change c.fault.ensures.change;
    }

pub returns : goal.returns
returns c =
    let m : NodeInMemory = c.args.node.now in
    let f = c.args.found.now in
    let s = f.scope.now in
    record {
      step = made_end m.node c.args.id f.place s c.args.protocol c.args.participant _ _ c.in_ok-room.room _ _ _ c.requires.finds
          (sym c.in_default.ensures) c.next_id-end.ensures c.counter.ensures c.counter-2.ensures c.in_ok-kept.ensures
          (rw c.base.ensures at c.in_ok-coordinator.ensures);
      suits = (
        s,
        c.requires.finds.at,
        record {
          allowed = sym c.in_default.ensures;
          new_participant = c.requires.new_participant;
          new_id = new_to_scope m.node c.args.id f.place s _ c.requires.spare c.requires.finds c.next_id-end.ensures;
          has_room = c.in_ok-room.ensures;
        },
      );
    }
