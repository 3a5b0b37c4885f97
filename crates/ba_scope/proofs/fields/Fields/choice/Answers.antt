use Rattle.std.proofs.Common.{sym}
use Rattle.ba_scope.specs.Scope.{ScopeState}
use Rattle.ba_scope.proofs.Owned.{found_own, own_states}
use Rattle.ba_scope.proofs.fields.Fields.choice.Goals as goal

pub c_choose-requires : goal.c_choose-requires
c_choose-requires c =
    let s : ScopeState = c.args.self.now in
    found_own s.ends c.args.id c.in-Some.end.now (own_states s c.requires) (sym c.in-Some.ensures)
