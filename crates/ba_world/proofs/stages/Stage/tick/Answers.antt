use Rattle.std.proofs.Common.{◌≡◌, ℕ, Ok, Some, sym, subst}
use Rattle.ba_core.specs.Numbers.{node_of}
use Rattle.ba_world_events.specs.declared.outcomes.Label.{Label}
use Rattle.ba_world_events.specs.declared.outcomes.Outcome.TheVariants as outcome
use Rattle.ba_message.specs.declared.messages.Letter.{Letter}
use Rattle.ba_world_places.specs.declared.calls.Answer.{Answer}
use Rattle.ba_world_places.specs.declared.calls.Answer.TheVariants as answer
use Rattle.ba_world_play.specs.Plays.{moment}
use Rattle.ba_world_runs.specs.World.{ticks}
use Rattle.ba_world.proofs.EventLemmas.{tick_sent}
use Rattle.ba_world.specs.inside.Stages.{IsCalled, IsLetterAt, StageIsPlayedAs, node_call_at, tick_at}
use Rattle.std.specs.Prelude.{Option}
use Rattle.ba_world.proofs.stages.Stage.tick.Goals as goal

pub returns-in_ok-number-in-Taken-Some : goal.returns-in_ok-number-in-Taken-Some
returns-in_ok-number-in-Taken-Some c = λ p stage.
    let letter : Letter = c.in-Taken-Some.letter in
    let shown : c.in_ok-shown.field-0 ≡ answer.Taken (Some c.in-Taken-Some.letter) = cc in
    let number : ℕ = c.in_ok-number-in-Taken-Some.number in
    let called = subst
    (λ (a : Answer (Option Letter)). IsCalled (IsLetterAt p c.args.id) c.args.self.now c.tick_object.new.self p (node_of c.args.id.0)
    (node_call_at p (node_of c.args.id.0) (ticks (moment p) c.args.id)) a)
    shown (c.in_ok-shown.ensures.called p stage)
    in
    subst
    (λ (l : Label). StageIsPlayedAs (tick_at c.args.id p) c.args.self.now c.send.new.self (Ok (outcome.Sent number l)))
    (sym c.label_of-label.ensures)
    (tick_sent c.args.self.now c.tick_object.new.self p stage.set c.args.id c.send.new.self letter number called
    c.in_ok-number-in-Taken-Some.ensures.0 c.in_ok-number-in-Taken-Some.ensures.1)
