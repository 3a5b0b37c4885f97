use Rattle.std.proofs.Common.{◌≡◌, true, false, sym, ap, ◌∙◌}
use Rattle.ba_scope.specs.Rules.{expire}
use Rattle.ba_scope.specs.Scope.{ScopeState}
use Rattle.ba_scope.proofs.Tested.{expiry_done, expiry_refused}
use Rattle.ba_scope.proofs.fields.Fields.expire.Goals as goal

pub returns-then-expires : goal.returns-then-expires
returns-then-expires c =
    let s : ScopeState = c.args.self.now in
    let past : (expire s c.args.now).answer ≡ true = cc in
    expiry_done s c.args.now past ∙ ap (λ (t : ScopeState). record { after = t; answer = true }) (sym c.set_expired.ensures)

pub returns : goal.returns
returns c =
    let s : ScopeState = c.args.self.now in
    let early : (expire s c.args.now).answer ≡ false = cc in
    expiry_refused s c.args.now early
