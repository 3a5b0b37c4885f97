use Rattle.std.proofs.Common.{sym, ap, ◌∙◌}
use Rattle.ba_scope.specs.Rules.{done_step}
use Rattle.ba_scope.specs.Scope.{ScopeState}
use Rattle.ba_scope.proofs.Tested.{complete_tested}
use Rattle.ba_scope.proofs.fields.Fields.complete.Goals as goal

pub returns-in-No : goal.returns-in-No
returns-in-No c =
    let s : ScopeState = c.args.self.now in
    (complete_tested s c.args.id c.requires.apart).is_refused c.in-No.number c.in-No.shown (sym c.in-No.ensures)

pub returns-in-Ok : goal.returns-in-Ok
returns-in-Ok c =
    let s : ScopeState = c.args.self.now in
    (complete_tested s c.args.id c.requires.apart).is_done (sym c.in-Ok.ensures) ∙ ap done_step (sym c.complete_at.ensures)
