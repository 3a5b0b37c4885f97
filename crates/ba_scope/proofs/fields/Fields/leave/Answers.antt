use Rattle.std.proofs.Common.{sym, ap, ◌∙◌}
use Rattle.ba_scope.specs.Rules.{done_step}
use Rattle.ba_scope.specs.Scope.{ScopeState}
use Rattle.ba_scope.proofs.Tested.{leave_tested}
use Rattle.ba_scope.proofs.fields.Fields.leave.Goals as goal

pub returns-in-No : goal.returns-in-No
returns-in-No c =
    let s : ScopeState = c.args.self.now in
    (leave_tested s c.args.how).is_refused c.in-No.number c.in-No.shown (sym c.in-No.ensures)

pub returns-in-Ok : goal.returns-in-Ok
returns-in-Ok c =
    let s : ScopeState = c.args.self.now in
    (leave_tested s c.args.how).is_done (sym c.in-Ok.ensures) ∙ ap done_step (sym (rw c.act_of_leave.ensures at c.act.ensures))
