use Rattle.std.proofs.Common.{◌≡◌, Err, rules}
use Rattle.ba_world.proofs.CalledLemmas.{join_fails}
use Rattle.ba_world.proofs.stages.Stage.join.Goals as goal

pub returns-in_err-registration : goal.returns-in_err-registration
returns-in_err-registration c = λ p stage.
    let is : c.from_residual.result ≡ Err c.in_err-registration.field-0.0 = search rules in
    join_fails c.args.self.now p c.args.scope c.args.node _ _ is (c.in_err-registration.ensures.context p stage) c.args.protocol
