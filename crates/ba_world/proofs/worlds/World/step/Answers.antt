use Rattle.std.proofs.Common.{◌≡◌, Bool, false, sym, ap, ◌∙◌, subst}
use Rattle.ba_world_play.specs.Plays.{WorldOnDisks, play_step}
use Rattle.ba_world.proofs.StepLemmas.{world_goes_on, world_plays}
use Rattle.ba_world.specs.Worlds.{IsPlayedAs, IsStageOf, StageValue, WorldValue}
use Rattle.ba_world.proofs.worlds.World.step.Goals as goal

pub invariant_of-self : goal.invariant_of-self
invariant_of-self c =
    let live : c.self.inside.spent ≡ false = ap (λ (w : WorldValue). w.spent) c.self.view_is ∙ c.requires in
    let played = c.self.invariant live in
    subst (λ (b : Bool). b ≡ false → (x : WorldOnDisks) × IsStageOf c.happen-played.new.self x) (sym c.is_starved-self-inside.ensures)
    (world_goes_on c.self.inside.stage c.happen-played.new.self played.0 c.args.e.now played.1 c.happen-played.result
    (c.happen-played.ensures played.0 played.1))

pub returns-clause-play : goal.returns-clause-play
returns-clause-play c = λ p world.
    let old : StageValue = c.self.inside.stage in
    let new : StageValue = c.happen-played.new.self in
    let live : c.self.inside.spent ≡ false = ap (λ (w : WorldValue). w.spent) c.self.view_is ∙ c.requires in
    let is : ◌≡◌ {A = WorldValue} (record { stage = c.self.inside.stage; spent = false }) c.args.self.now =
    ap (λ (b : Bool). let w : WorldValue = record { stage = c.self.inside.stage; spent = b } in w) (sym live) ∙ c.self.view_is
    in
    let stage : IsStageOf c.self.inside.stage p = subst (λ (w : WorldValue). IsStageOf w.stage p) (sym c.self.view_is) world.1 in
    subst
    (λ (w : WorldValue). IsPlayedAs (play_step p c.args.e.now) w (record { stage = new; spent = c.is_starved-self-inside.result })
    c.happen-played.result)
    is
    (subst
    (λ (b : Bool). IsPlayedAs (play_step p c.args.e.now) (record { stage = old; spent = false }) (record { stage = new; spent = b })
    c.happen-played.result)
    (sym c.is_starved-self-inside.ensures)
    (world_plays c.self.inside.stage c.happen-played.new.self p c.args.e.now stage c.happen-played.result
    (c.happen-played.ensures p stage)))
