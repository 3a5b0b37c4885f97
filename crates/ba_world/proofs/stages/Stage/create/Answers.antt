use Rattle.std.proofs.Common.{◌≡◌, Err, rules}
use Rattle.ba_world.proofs.CalledLemmas.{create_fails, create_named}
use Rattle.ba_world.proofs.stages.Stage.create.Goals as goal

pub returns-in_err-handed : goal.returns-in_err-handed
returns-in_err-handed c = λ p stage.
    let is : c.from_residual.result ≡ Err c.in_err-handed.field-0.0 = search rules in
    create_fails c.args.self.now p c.in-Some.scope c.args.node _ _ is (c.in_err-handed.ensures.context p stage) c.args.kind c.args.expires
    c.in-Some.up c.args.under c.in-Some.is

pub returns : goal.returns
returns c = λ p stage.
    create_named c.args.self.now c.own-2.new.self p c.in-Some.scope c.args.node c.in_ok-handed.field-0 c.own-2.result
    (c.in_ok-handed.ensures.context p stage) c.args.kind c.args.expires c.in-Some.up c.args.under c.in-Some.is
    (c.own-2.ensures p stage)
