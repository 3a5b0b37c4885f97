use Rattle.std.proofs.Common.{◌∙◌, refl, sym}
use Rattle.ba_core.specs.declared.notices.Act.TheVariants as act
use Rattle.ba_node_objects.specs.declared.changes.ScopeChange.TheVariants as by_scope
use Rattle.ba_node_plans.proofs.Planned.{finish_at, finished_nowhere, nothing_suits, scope_suits, up_act_done, up_act_of_root, up_act_refused}
use Rattle.ba_scope.specs.Rules.{finish}
use Rattle.ba_scope.specs.Scope.{ScopeState}
use Rattle.ba_node_steps.proofs.Own.{finish_own}
use Rattle.ba_node_steps.specs.Node.{NodeState}
use Rattle.ba_node_plans.proofs.decisions.finish.Goals as goal

pub returns-in_default : goal.returns-in_default
returns-in_default c =
    let n : NodeState = c.args.node.now.node in
    record {
      step = c.refused.ensures.step n ∙ finished_nowhere n c.args.id c.in_default.ensures.none;
      suits = nothing_suits c.args.node.now c.refused.result.change c.refused.ensures.change;
    }

pub returns-in_default-up : goal.returns-in_default-up
returns-in_default-up c =
    let n : NodeState = c.args.node.now.node in
    let found = c.in-Some.found in
    let s : ScopeState = found.scope.now in
    let finds = c.in-Some.ensures.some in
    record {
      step = c.refused-in_default-up.ensures.step n ∙ up_act_of_root n s (finish s) act.Completed c.args.id finds.is
          (sym c.in_default-up.ensures)
          ∙ finish_at n c.args.id found.place s finds;
      suits = nothing_suits c.args.node.now c.refused-in_default-up.result.change c.refused-in_default-up.ensures.change;
    }

pub returns-in-No : goal.returns-in-No
returns-in-No c =
    let n : NodeState = c.args.node.now.node in
    let found = c.in-Some.found in
    let s : ScopeState = found.scope.now in
    let finds = c.in-Some.ensures.some in
    record {
      step = c.refused-in-No.ensures.step n
          ∙ up_act_refused n s (finish s) act.Completed c.in-Some-up.up.now c.in-No.number c.in-No.shown
          (sym c.in-Some-up.ensures) c.in-No.ensures
          ∙ finish_at n c.args.id found.place s finds;
      suits = nothing_suits c.args.node.now c.refused-in-No.result.change c.refused-in-No.ensures.change;
    }

pub returns-in-Ok : goal.returns-in-Ok
returns-in-Ok c =
    let n : NodeState = c.args.node.now.node in
    let found = c.in-Some.found in
    let s : ScopeState = found.scope.now in
    let finds = c.in-Some.ensures.some in
    record {
      step = (rw c.counter.ensures at (c.kept.ensures.step n))
          ∙ up_act_done n s (finish s) act.Completed c.in-Some-up.up.now found.place by_scope.Finish finds.node finds.at
          (finish_own s).own refl
          (sym c.in-Some-up.ensures) c.in-Ok.ensures
          ∙ finish_at n c.args.id found.place s finds;
      suits = scope_suits c.args.node.now found.place s _ c.kept.result.change finds.at tt c.kept.ensures.change;
    }
