use Rattle.std.proofs.Common.{◌≡◌, Err, refl, rules}
use Rattle.ba_world.proofs.CalledLemmas.{arrive_exits, deliver_lost, deliver_nowhere, deliver_taken, deliver_untaken, had_not, had_there}
use Rattle.ba_world.proofs.DeliveryLemmas.{delivered_fits}
use Rattle.ba_world.proofs.stages.Stage.deliver.Goals as goal

pub returns-in_err-node : goal.returns-in_err-node
returns-in_err-node c = λ p stage.
    let is : c.from_residual.result ≡ Err c.in_err-node.field-0.0 = search rules in
    arrive_exits c.args.self.now c.args.self.now p c.args.number _ _ is (c.in_err-node.ensures p stage)

pub returns-then-is_none : goal.returns-then-is_none
returns-then-is_none c = λ p stage.
    let to = c.in_ok-node.field-0 in
    deliver_nowhere c.args.self.now c.args.self.now p c.args.number to (c.in_ok-node.ensures p stage) to.node refl stage.set
    (had_not c.args.self.now p stage.set to.node _ c.place.result c.if-is_none.ensures c.place.ensures)

pub returns-in_default : goal.returns-in_default
returns-in_default c = λ p stage.
    let to = c.in_ok-node.field-0 in
    deliver_lost c.args.self.now c.lose.new.self p c.args.number to (c.in_ok-node.ensures p stage) to.node refl c.in_default.is
    (had_there c.args.self.now p stage.set to.node _ c.place.result c.if-is_none.ensures c.place.ensures) c.lose.result
    (c.lose.ensures p stage)

pub input-requires : goal.input-requires
input-requires c =
    delivered_fits c.requires.0 c.args.number c.in_ok-node.field-0 (c.in_ok-node.ensures c.requires.0 c.requires.1) c.args.self.now
    c.requires.1 c.in-Some.input c.in-Some.is

pub returns-in-Untaken : goal.returns-in-Untaken
returns-in-Untaken c = λ p stage.
    let to = c.in_ok-node.field-0 in
    deliver_untaken c.args.self.now c.input.new.self p c.args.number to (c.in_ok-node.ensures p stage) to.node refl stage.set
    c.in-Some.input c.in-Some.is c.in_ok-answer.answer (λ o of. c.in_ok-answer.ensures.called p o stage of)
    c.in-Untaken.shown c.in-Untaken.is

pub returns-in_ok-answer-in-Taken : goal.returns-in_ok-answer-in-Taken
returns-in_ok-answer-in-Taken c = λ p stage.
    let to = c.in_ok-node.field-0 in
    deliver_taken c.args.self.now c.answer.new.self p c.args.number to (c.in_ok-node.ensures p stage) to.node refl stage.set
    c.in-Some.input c.in-Some.is c.input.new.self c.in_ok-answer.answer (λ o of. c.in_ok-answer.ensures.called p o stage of)
    c.in-Taken.reply c.in-Taken.is c.in_ok-answer.makes (c.in_ok-answer.ensures.makes p stage) to.answers refl
    c.in_ok-answer-in-Taken.field-0 c.in_ok-answer-in-Taken.ensures
