use Rattle.std.proofs.Common.{◌≡◌, Ok, Err, refl, sym, subst, rules}
use Rattle.ba_world_events.specs.declared.outcomes.Outcome.{Outcome}
use Rattle.ba_world_play.specs.Plays.{moment, own_at}
use Rattle.ba_world_runs.specs.World.{own}
use Rattle.ba_world.proofs.EventLemmas.{exit_called, own_plays}
use Rattle.ba_world.specs.inside.Stages.{StageIsPlayedAs}
use Rattle.ba_world.proofs.stages.Stage.own.Goals as goal

pub returns-in_err-answer : goal.returns-in_err-answer
returns-in_err-answer c = λ p stage.
    let is : c.from_residual.result ≡ Err c.in_err-answer.field-0.0 = search rules in
    exit_called _ _ p stage.set _ _ _ _ is c.in_err-answer.ensures.missing

pub returns : goal.returns
returns c = λ p stage.
    let called = c.in_ok-answer.ensures.called p (own (moment p) c.args.input) stage (refl, refl) in
    subst (λ (o : Outcome). StageIsPlayedAs (own_at p c.args.node c.args.input) c.args.self.now c.input.new.self (Ok o))
    (sym c.answer_outcome.ensures)
    (own_plays c.args.self.now c.input.new.self p c.args.node c.args.input c.in_ok-answer.makes (c.in_ok-answer.ensures.makes p stage)
    c.in_ok-answer.answer called)
